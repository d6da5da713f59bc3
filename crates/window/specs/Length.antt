-- Which lengths a flash image may have. Assumes nothing: these are definitions.
use Rattle.std.specs.Prelude.{ℕ, List, Bool, ◌&&◌, length, leb}
use Rattle.reply.specs.Reply.{Reply, guard}

-- the bytes of the longest image
abbrev pub longest : ℕ
longest = 16_777_216

-- an image of 1 to 16,777,216 bytes
abbrev pub length_allowed : (image : List ℕ) → Bool
length_allowed image = leb 1 (length image) && leb (length image) longest

-- the image length (15)
abbrev pub sized : {A : Type 0} → (image : List ℕ) → (rest : Reply A) → Reply A
sized image rest = guard (length_allowed image) 15 rest

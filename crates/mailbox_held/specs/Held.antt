-- Lent words that begin with a mailbox's. Assumes nothing: these are definitions.
use Rattle.std.specs.Prelude.{Bool, List, ℕ, ◌+◌, ◌-◌, get_or, eqb}
use Rattle.lent.specs.Lent.{begins}
use Rattle.mailbox.specs.Consistent.{all_below}
use Rattle.mailbox_layout.specs.Layout.{pack_of, unpack_of}

-- the words begin with a mailbox's: what is read from them, packed again, stands there
unfoldable pub held_in : (words : List ℕ) → Bool
held_in words = begins (pack_of (unpack_of words)) words

-- ---- the same word by word: what the functions promise each other
abbrev pub held_at : (words : List ℕ) (i : ℕ) → Bool
held_at words i = eqb (get_or words i 0) (get_or (pack_of (unpack_of words)) i 0)

unfoldable pub held_between : (words : List ℕ) (from to : ℕ) → Bool
held_between words from to = all_below (to - from) (λ i. held_at words (from + i))

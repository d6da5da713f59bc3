-- The definitions tried: a level-two directory of two entries, the second that of document 01's M2, which stands at place 3 of an image with a byte behind it; read there, and written again into a buffer. Assumes nothing.
use mathlib.Core.Path.{◌≡◌, refl}
use mathlib.Core.List.{List, [], ◌∷◌, ◌++◌}
use Prim.Native.Nat.{ℕ}
use lib.ListN.{replicate}
use Rattle.le.specs.Le.{le_at, le_bytes, put_bytes, bytes_of}
use Rattle.fletcher.specs.Fletcher.{words_at, sum_of, weighted_of, fletcher_of}
use Rattle.reply.specs.Reply.{given, then}
use Rattle.reply.specs.Scan.{scan}
use Rattle.reply.specs.Some.{some_below}
use Rattle.directory.specs.Directory.{psp_kind, directory_checks, directory_at, directory_by_cookie}
use Rattle.build.specs.Write.{entry_bytes, entries_bytes, directory_bytes, start_of, room_for}
use Rattle.build.specs.Back.{entries_from, entries_of, extend_all, build_of}

abbrev directory : List ℕ
directory =
    0x24 ∷ 0x50 ∷ 0x4C ∷ 0x32 ∷ 0x34 ∷ 4 ∷ 0x37 ∷ 0x75 ∷ 2 ∷ 0 ∷ 0 ∷ 0 ∷ 0 ∷ 0 ∷ 0 ∷ 0
    ∷ 0x30 ∷ 1 ∷ 0 ∷ 0 ∷ 0 ∷ 2 ∷ 0 ∷ 0 ∷ 0 ∷ 0x30 ∷ 0 ∷ 0 ∷ 0 ∷ 0 ∷ 0 ∷ 0x80
    ∷ 1 ∷ 0 ∷ 0 ∷ 0 ∷ 0 ∷ 1 ∷ 0 ∷ 0 ∷ 0 ∷ 0x10 ∷ 0 ∷ 0 ∷ 0 ∷ 0 ∷ 0 ∷ 0x40 ∷ []

abbrev image : List ℕ
image = 7 ∷ 7 ∷ 7 ∷ directory ++ (9 ∷ [])

pub tried : then (directory_at psp_kind 512 2 image 3) (λ d. build_of d.level (entries_of image d) (replicate 50 0xAA)) ≡ given (directory ++ (0xAA ∷ 0xAA ∷ []))
unfolding le_at le_bytes put_bytes bytes_of words_at sum_of weighted_of fletcher_of scan some_below directory_checks directory_by_cookie entry_bytes entries_bytes directory_bytes start_of room_for entries_from extend_all
tried = refl

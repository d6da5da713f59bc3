-- The definitions tried on document 01's M1 and M2: a directory started and extended, and one byte more or less of room. Assumes nothing.
use mathlib.Core.Path.{◌≡◌, refl}
use mathlib.Core.List.{[], ◌∷◌, map}
use lib.ListN.{replicate}
use Rattle.le.specs.Le.{le_at, le_bytes, put_bytes, bytes_of}
use Rattle.fletcher.specs.Fletcher.{words_at, sum_of, weighted_of, fletcher_of}
use Rattle.reply.specs.Reply.{given, refused, alone}
use Rattle.reply.specs.Scan.{scan}
use Rattle.reply.specs.Some.{some_below}
use Rattle.directory.specs.Directory.{directory_checks, directory_by_cookie}
use Rattle.build.specs.declared.Fields.{Fields}
use Rattle.build.specs.Write.{entry_bytes, entries_bytes, directory_bytes, start_of, room_for}
use Rattle.build.specs.Back.{extend_all, build_of}

-- type 1, subprogram 0, size 0x100, location 0x1000, mode 1
abbrev one : Fields
one = record { class = 1; subprogram = 0; size = 0x100; location = 0x1000; mode = 1 }

pub tried : map (λ room. build_of 1 (one ∷ []) (replicate room 0xAA)) (33 ∷ 31 ∷ 15 ∷ []) ≡
    given (
    0x24 ∷ 0x50 ∷ 0x53 ∷ 0x50 ∷ 0x02 ∷ 0x51 ∷ 0x14 ∷ 0x86 ∷ 1 ∷ 0 ∷ 0 ∷ 0 ∷ 0 ∷ 0 ∷ 0 ∷ 0
    ∷ 1 ∷ 0 ∷ 0 ∷ 0 ∷ 0 ∷ 1 ∷ 0 ∷ 0 ∷ 0 ∷ 0x10 ∷ 0 ∷ 0 ∷ 0 ∷ 0 ∷ 0 ∷ 0x40 ∷ 0xAA ∷ [])
    ∷ refused 12 alone ∷ refused 12 alone ∷ []
unfolding le_at le_bytes put_bytes bytes_of words_at sum_of weighted_of fletcher_of scan some_below directory_checks directory_by_cookie entry_bytes entries_bytes directory_bytes start_of room_for extend_all
tried = refl

-- Starting and extending a PSP directory at a buffer's start, in document 01's words and order. Assumes nothing: these are definitions.
use Rattle.std.specs.Prelude.{ℕ, ◌+◌, ◌*◌, ◌-◌, ◌^◌, List, [], ◌∷◌, ◌++◌, not, length, leb, ltb}
use Rattle.le.specs.Le.{put_bytes, put_at, Number, bytes_of}
use Rattle.le.specs.Field.{filled}
use Rattle.fletcher.specs.Fletcher.{fletcher_of}
use Rattle.reply.specs.Reply.{Reply, given, refused, guard, then}
use Rattle.directory.specs.Header as header
use Rattle.directory.specs.Entry as entry
use Rattle.directory.specs.Directory.{psp_kind, cookie_of, may_stand, entry_place, checksum_at, directory_by_cookie}
use Rattle.entries.specs.Entry.{holds_in}
use Rattle.directory.specs.declared.Directory.{Directory}
use Rattle.build.specs.declared.Fields.{Fields}

-- what the fields of an entry are to hold: no flag is set, and the address mode stands above the location's 62 bits
abbrev pub entry_fields : Fields → List Number
entry_fields f =
    filled entry.class f.class ∷ filled entry.subprogram f.subprogram ∷ filled entry.flags 0 ∷ filled entry.size f.size
    ∷ filled entry.location (f.location + f.mode * 2 ^ 62) ∷ []

-- an entry's sixteen bytes
unfoldable pub entry_bytes : Fields → List ℕ
entry_bytes f = bytes_of (entry_fields f)

-- entries, one behind the other
unfoldable pub entries_bytes : List Fields → List ℕ
entries_bytes [] = []
entries_bytes (f ∷ fs) = entry_bytes f ++ entries_bytes fs

-- the bytes that the checksum is taken over: the total, zero, the entries
abbrev pub summed_bytes : List Fields → List ℕ
summed_bytes fs = bytes_of (filled header.total (length fs) ∷ filled header.reserved 0 ∷ []) ++ entries_bytes fs

-- what the fields of a header are to hold
abbrev pub header_fields : (cookie checksum total : ℕ) → List Number
header_fields cookie checksum total = filled header.cookie cookie ∷ filled header.checksum checksum ∷ filled header.total total ∷ filled header.reserved 0 ∷ []

-- the bytes of a directory of a level with these entries
unfoldable pub directory_bytes : (level : ℕ) → List Fields → List ℕ
directory_bytes level fs = bytes_of (header_fields (cookie_of psp_kind level) (fletcher_of (summed_bytes fs)) (length fs)) ++ entries_bytes fs

-- start: the total of the empty directory
unfoldable pub start_of : (level : ℕ) → (s : List ℕ) → Reply ℕ
start_of level s =
    guard (leb 1 level) 9 (guard (leb level 2) 9  -- level 1 or 2 (9)
    (guard (leb header.bytes (length s)) 12  -- 16 bytes of room (12)
    (given 0)))

-- the buffer after a start: an empty directory at its start, and nothing else
abbrev pub started_by : (level : ℕ) → (s : List ℕ) → Reply ℕ → List ℕ
started_by level s (given total) = put_bytes (directory_bytes level []) s 0
started_by level s (refused number carried) = s

-- what is asked of an entry for a good directory in a buffer; the new total where all holds
unfoldable pub room_for : Fields → (s : List ℕ) → Directory → Reply ℕ
room_for f s d =
    guard (ltb f.location (2 ^ 62)) 5 (guard (leb f.mode 3) 5  -- location below 2^62 and mode at most 3 (5)
    (guard (may_stand psp_kind d.level f.class) 14  -- type 0x40 in level two (14)
    (guard (not (holds_in psp_kind s d f.class f.subprogram)) 18  -- repeats the type and subprogram of an entry (18)
    (guard (ltb d.total 512) 3  -- n below 512 (3)
    (guard (leb (entry_place psp_kind 0 d.total + 16) (length s)) 12  -- room for 16 more bytes (12)
    (given (d.total + 1)))))))

-- extend by one entry: a good directory of either level, by its cookie, at the buffer's start, then the checks above; the new total
abbrev pub extend_of : Fields → (s : List ℕ) → Reply ℕ
extend_of f s = then (directory_by_cookie psp_kind 512 s 0) (room_for f s)

-- the buffer with the entry as the last of `total`, and with that total
abbrev pub lengthened : Fields → (s : List ℕ) → (total : ℕ) → List ℕ
lengthened f s total = put_at 4 total (put_bytes (entry_bytes f) s (entry_place psp_kind 0 (total - 1))) (header.total).at

-- the buffer after an extend: n + 1 entries, new checksum, every other byte kept
abbrev pub extended_by : Fields → (s : List ℕ) → Reply ℕ → List ℕ
extended_by f s (given total) = put_at 4 (checksum_at psp_kind (lengthened f s total) 0 total) (lengthened f s total) (header.checksum).at
extended_by f s (refused number carried) = s

-- A directory at an offset of an image, in document 01's words and order. Assumes nothing: these are definitions.
use Rattle.std.specs.Prelude.{ℕ, ◌+◌, ◌*◌, List, Bool, true, false, not, cond, ◌&&◌, ◌||◌, length, take, drop, leb, eqb}
use Rattle.le.specs.Le.{bits_from}
use Rattle.le.specs.Field.{get}
use Rattle.fletcher.specs.Fletcher.{fletcher_of}
use Rattle.reply.specs.Reply.{Reply, given, refused, in_header, in_entry, check, guard}
use Rattle.reply.specs.Scan.{scan}
use Rattle.reply.specs.Some.{some_below}
use Rattle.directory.specs.Header as header
use Rattle.directory.specs.Entry as entry
use Rattle.directory.specs.declared.Kind.{Kind}
use Rattle.directory.specs.declared.Directory.{Directory}

-- PSP directories: "$PSP" and "$PL2", entries of 16 bytes, type 0x40 leads to level two, type 0x0B is a value, all flags are reserved, no entry repeats
abbrev pub psp_kind : Kind
psp_kind = record { one = 0x5053_5024; two = 0x324C_5024; entry = 16; lead = 0x40; value = 0x0B; used = 0; repeats = false }

-- the cookie of level one, or of level two; of any other level no cookie is asked for (directory_at: 9)
abbrev pub cookie_of : Kind → (level : ℕ) → ℕ
cookie_of kind level = cond (eqb level 1) kind.one kind.two

-- the total that the bytes at o tell
abbrev pub total_at : (image : List ℕ) → (o : ℕ) → ℕ
total_at image o = get header.total image o

-- where entry i of a directory at o begins; where a directory of n entries ends
abbrev pub entry_place : Kind → (o i : ℕ) → ℕ
entry_place kind o i = o + header.bytes + i * kind.entry

-- the checksum of a directory of n entries at o: over its bytes from 8, the total, to the end of the entries
abbrev pub checksum_at : Kind → (image : List ℕ) → (o n : ℕ) → ℕ
checksum_at kind image o n = fletcher_of (take (8 + n * kind.entry) (drop (o + (header.total).at) image))

-- type and subprogram of entry i
abbrev pub class_at : Kind → (image : List ℕ) → (o i : ℕ) → ℕ
class_at kind image o i = get entry.class image (entry_place kind o i)

abbrev pub subprogram_at : Kind → (image : List ℕ) → (o i : ℕ) → ℕ
subprogram_at kind image o i = get entry.subprogram image (entry_place kind o i)

-- the reserved bits of entry i are zero: of its flags those from `used` up
abbrev pub reserved_zero : Kind → (image : List ℕ) → (o i : ℕ) → Bool
reserved_zero kind image o i = eqb (bits_from kind.used (get entry.flags image (entry_place kind o i))) 0

-- an entry of this type may stand in a directory of this level: the type that leads to level two in level one alone
abbrev pub may_stand : Kind → (level class : ℕ) → Bool
may_stand kind level class = cond (eqb level 1) true (not (eqb class kind.lead))

-- entries j and i have the same type and subprogram
abbrev pub same_entry : Kind → (image : List ℕ) → (o i j : ℕ) → Bool
same_entry kind image o i j = eqb (class_at kind image o j) (class_at kind image o i) && eqb (subprogram_at kind image o j) (subprogram_at kind image o i)

-- entry i has the type and subprogram of an earlier entry
abbrev pub repeats_earlier : Kind → (image : List ℕ) → (o i : ℕ) → Bool
repeats_earlier kind image o i = some_below (same_entry kind image o i) i

-- it may: in a directory of a kind that may repeat, or as the first of its type and subprogram
abbrev pub may_repeat : Kind → (image : List ℕ) → (o i : ℕ) → Bool
may_repeat kind image o i = kind.repeats || not (repeats_earlier kind image o i)

-- the tests made at entry i, then the entries behind it; a refusal carries the entry
abbrev pub entry_step : {A : Type 0} → Kind → (level : ℕ) → (image : List ℕ) → (o i : ℕ) → (rest : Reply A) → Reply A
entry_step kind level image o i rest =
    let here = in_entry level i o in
    check (reserved_zero kind image o i) 5 here  -- reserved zero (5)
    (check (may_stand kind level (class_at kind image o i)) 14 here  -- misplaced 0x40 (14)
    (check (may_repeat kind image o i) 18 here  -- repeats an earlier type and subprogram (18)
    rest))

-- a directory that is given: where it begins, its level, its total
abbrev pub directory_of : (o level n : ℕ) → Directory
directory_of o level n = record { place = record { 0 = o }; level = level; total = n }

-- entry by entry, of n entries
abbrev pub entries_at : Kind → (level : ℕ) → (image : List ℕ) → (o n : ℕ) → Reply Directory
entries_at kind level image o n = scan (entry_step kind level image o) (λ _. given (directory_of o level n)) n 0

-- the checks of a directory of level one or two at o, whose total is at most `limit` (512); the header's refusals carry the level
unfoldable pub directory_checks : Kind → (limit level : ℕ) → (image : List ℕ) → (o : ℕ) → Reply Directory
directory_checks kind limit level image o =
    let n = total_at image o in
    let here = in_header level o in
    check (leb (o + header.bytes) (length image)) 1 here  -- 16 bytes present (1)
    (check (eqb (get header.cookie image o) (cookie_of kind level)) 2 here  -- cookie of the level asked for (2)
    (check (leb n limit) 3 here  -- n at most 512 (3)
    (check (leb (entry_place kind o n) (length image)) 1 here  -- all entries present (1)
    (check (eqb (get header.checksum image o) (checksum_at kind image o n)) 4 here  -- checksum (4)
    (check (eqb (get header.reserved image o) 0) 5 here  -- header reserved zero (5)
    (entries_at kind level image o n))))))  -- then entry by entry (5, 14, 18)

-- the directory of a level at o: the level number (9), then its checks
abbrev pub directory_at : Kind → (limit level : ℕ) → (image : List ℕ) → (o : ℕ) → Reply Directory
directory_at kind limit level image o = guard (leb 1 level) 9 (guard (leb level 2) 9 (directory_checks kind limit level image o))

-- the directory at o of the level that its cookie names; 0 where none does
unfoldable pub directory_by_cookie : Kind → (limit : ℕ) → (image : List ℕ) → (o : ℕ) → Reply Directory
directory_by_cookie kind limit image o =
    check (leb (o + header.bytes) (length image)) 1 (in_header 0 o)  -- 16 bytes present (1)
    (cond (eqb (get header.cookie image o) kind.one) (directory_at kind limit 1 image o)
    (cond (eqb (get header.cookie image o) kind.two) (directory_at kind limit 2 image o)
    (refused 2 (in_header 0 o))))  -- neither cookie (2)

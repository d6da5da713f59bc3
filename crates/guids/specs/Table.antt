-- The GUID table at the end of a guest firmware image, in document 01's words and order; s is the image and `length s` its L. Assumes nothing: these are definitions.
use Rattle.std.specs.Prelude.{ℕ, zero, suc, ◌+◌, ◌-◌, List, [], ◌∷◌, ◌++◌, Bool, cond, ◌&&◌, length, get_or, take, drop, leb, ltb, eqb}
use Rattle.le.specs.Le.{le_at, Number, bytes_of}
use Rattle.le.specs.Field.{get, filled}
use Rattle.reply.specs.Reply.{Reply, given, refused, tested, guard, then}
use Rattle.reply.specs.Scan.{scan}
use Rattle.guids.specs.Ending as ending
use Rattle.guids.specs.Ending.{end_length, behind_table, shortest}
use Rattle.guids.specs.declared.Guid.{Guid}
use Rattle.guids.specs.declared.GuidEntry.{GuidEntry}
use Rattle.guids.specs.declared.Totals.{Totals}
use Rattle.guids.specs.declared.GuidMatch.{GuidMatch}

abbrev pub same_guid : Guid → Guid → Bool
same_guid g h = eqb g.low h.low && eqb g.high h.high

-- the footer's sixteen bytes in memory: eight of its low half, eight of its high
abbrev pub footer_bytes : List ℕ
footer_bytes =
    0xde ∷ 0x82 ∷ 0xb5 ∷ 0x96 ∷ 0xb2 ∷ 0x1f ∷ 0xf7 ∷ 0x45 ∷ 0xba ∷ 0xea ∷ 0xa3 ∷ 0x66 ∷ 0xc5 ∷ 0x5a ∷ 0x08 ∷ 0x2d ∷ []

unfoldable pub footer : Guid
footer = record { low = le_at 8 footer_bytes 0; high = le_at 8 footer_bytes 8 }

-- the length and the GUID of an end that begins at place o
abbrev pub length_at : (s : List ℕ) → (o : ℕ) → ℕ
length_at s o = get ending.whole_length s o

abbrev pub guid_at : (s : List ℕ) → (o : ℕ) → Guid
guid_at s o = record { low = get ending.low s o; high = get ending.high s o }

-- the bytes of an end
abbrev pub end_fields : (n : ℕ) → Guid → List Number
end_fields n g = filled ending.whole_length n ∷ filled ending.low g.low ∷ filled ending.high g.high ∷ []

abbrev pub end_bytes : (n : ℕ) → Guid → List ℕ
end_bytes n g = bytes_of (end_fields n g)

-- an entry's bytes: the data, then its length, which counts data, itself and the GUID, and its GUID
abbrev pub entry_bytes : Guid → (bytes : List ℕ) → List ℕ
entry_bytes g bytes = bytes ++ end_bytes (length bytes + end_length) g

-- where the table's own end begins: L - 50
abbrev pub footer_at : (s : List ℕ) → ℕ
footer_at s = length s - shortest

-- the total T
abbrev pub total_at : (s : List ℕ) → ℕ
total_at s = length_at s (footer_at s)

-- the checks before the entries; the total where all hold
unfoldable pub header_of : (s : List ℕ) → Reply ℕ
header_of s =
    guard (leb shortest (length s)) 1  -- L at least 50 (1)
    (guard (same_guid (guid_at s (footer_at s)) footer) 2  -- footer (2)
    (guard (leb end_length (total_at s)) 3 (guard (leb (total_at s) (length s - behind_table)) 3  -- T from 18 to L - 32 (3)
    (given (total_at s)))))

-- the length of the entry that ends at place `end`, where `left` bytes are left
unfoldable pub length_before : (s : List ℕ) → (end left : ℕ) → Reply ℕ
length_before s end left =
    guard (leb end_length left) 6  -- fewer than 18 bytes left (6)
    (guard (leb end_length (length_at s (end - end_length))) 6 (guard (leb (length_at s (end - end_length)) left) 6  -- a length below 18 or above what is left (6)
    (given (length_at s (end - end_length)))))

-- the entry of n bytes that ends at place `end`: its GUID, and its data's place and length
abbrev pub entry_before : (s : List ℕ) → (end n : ℕ) → GuidEntry
entry_before s end n = record { guid = guid_at s (end - end_length); place = end - n; length = n - end_length }

-- the entries of the `left` bytes that end at place `end`, read backwards, in at most so many steps
unfoldable pub entries_in : (steps : ℕ) → (s : List ℕ) → (end left : ℕ) → Reply (List GuidEntry)
entries_in zero s end left = guard (eqb left 0) 6 (given [])
entries_in (suc steps) s end left =
    cond (eqb left 0) (given [])
    (then (length_before s end left) (λ n.
    then (entries_in steps s (end - n) (left - n)) (λ others.
    given (entry_before s end n ∷ others))))

-- as many steps as bytes are enough, since an entry takes 18 or more
abbrev pub entries_before : (s : List ℕ) → (end left : ℕ) → Reply (List GuidEntry)
entries_before s end left = entries_in left s end left

-- the entries of a table of total T, nearest the footer first: read backwards from L - 50
abbrev pub entries_under : (s : List ℕ) → (total : ℕ) → Reply (List GuidEntry)
entries_under s total = entries_before s (footer_at s) (total - end_length)

-- where their bytes lie
abbrev pub entries_part : (s : List ℕ) → (total : ℕ) → List ℕ
entries_part s total = take (total - end_length) (drop (length s - behind_table - total) s)

-- the entries of the table, all checks made
abbrev pub entries_of : (s : List ℕ) → Reply (List GuidEntry)
entries_of s = then (header_of s) (entries_under s)

-- the table's total and its number of entries
abbrev pub totals_of : (s : List ℕ) → (entries : List GuidEntry) → Reply Totals
totals_of s entries = given (record { total = total_at s; entries = length entries })

abbrev pub table_of : (s : List ℕ) → Reply Totals
table_of s = then (entries_of s) (totals_of s)

-- what stands past the end of a list of entries
abbrev pub no_entry : GuidEntry
no_entry = record { guid = record { low = 0; high = 0 }; place = 0; length = 0 }

-- the match that entry i is: its data's place and length, and i + 1 entries tested
abbrev pub match_at : (entries : List GuidEntry) → (i : ℕ) → GuidMatch
match_at entries i = record { place = (get_or entries i no_entry).place; length = (get_or entries i no_entry).length; tested = i + 1 }

-- entry i has the GUID: that match; else what the entries behind it answer
abbrev pub find_step : Guid → (entries : List GuidEntry) → (i : ℕ) → (rest : Reply GuidMatch) → Reply GuidMatch
find_step g entries i rest = cond (same_guid (get_or entries i no_entry).guid g) (given (match_at entries i)) rest

-- no such entry among the n tested
abbrev pub nowhere : (n : ℕ) → Reply GuidMatch
nowhere n = refused 8 (tested n)

-- the first of the entries that has the GUID
abbrev pub find_in : Guid → (entries : List GuidEntry) → Reply GuidMatch
find_in g entries = scan (find_step g entries) nowhere (length entries) 0

-- the lookup: nearest the footer first, with the count of entries tested
abbrev pub find_of : (s : List ℕ) → Guid → Reply GuidMatch
find_of s g = then (entries_of s) (find_in g)

-- entry i, counted from the footer; at or above the number of entries: 8
abbrev pub pick_in : (i : ℕ) → (entries : List GuidEntry) → Reply GuidEntry
pick_in i entries = guard (ltb i (length entries)) 8 (given (get_or entries i no_entry))

abbrev pub entry_of : (s : List ℕ) → (i : ℕ) → Reply GuidEntry
entry_of s i = then (entries_of s) (pick_in i)

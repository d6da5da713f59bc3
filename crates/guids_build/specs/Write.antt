-- Starting and extending a GUID table, in document 01's words and order. Assumes nothing: these are definitions.
use Rattle.std.specs.Prelude.{ℕ, ◌+◌, ◌-◌, List, [], ◌∷◌, Bool, true, ◌&&◌, length, take, drop, leb, eqb}
use Rattle.le.specs.Le.{put_bytes, put_at}
use Rattle.reply.specs.Reply.{Reply, given, refused, guard, then}
use Rattle.guids.specs.declared.Guid.{Guid}
use Rattle.guids.specs.Ending as ending
use Rattle.guids.specs.Ending.{end_length, behind_table, shortest, largest}
use Rattle.guids.specs.Table.{footer, footer_at, end_bytes, entry_bytes, table_of}

-- start: the total of the table with no entries
unfoldable pub start_of : (s : List ℕ) → Reply ℕ
start_of s = guard (leb shortest (length s)) 12 (given end_length)  -- L at least 50 (12)

-- the buffer after a start: the total and the footer are written
abbrev pub started_by : (s : List ℕ) → Reply ℕ → List ℕ
started_by s (given total) = put_bytes (end_bytes total footer) s (footer_at s)
started_by s (refused number carried) = s

unfoldable pub all_zero : (bytes : List ℕ) → Bool
all_zero [] = true
all_zero (b ∷ bytes) = eqb b 0 && all_zero bytes

-- where a table of this total begins: L - 32 - T
abbrev pub begins_at : (s : List ℕ) → (total : ℕ) → ℕ
begins_at s total = length s - behind_table - total

-- what a good table is asked before an entry of `more` bytes is put at the far end of it; the new total where all holds
unfoldable pub room_for : (s : List ℕ) → (more total : ℕ) → Reply ℕ
room_for s more total =
    guard (leb total largest) 3  -- new T at most 65,535 (3)
    (guard (leb total (length s - behind_table)) 12  -- and at most L - 32 (12)
    (guard (all_zero (take more (drop (begins_at s total) s))) 13  -- the bytes to be used all zero (13)
    (given total)))

-- extend: a good table, then the checks above; the new total where all holds
abbrev pub extend_of : (s bytes : List ℕ) → Reply ℕ
extend_of s bytes = then (table_of s) (λ t. room_for s (length bytes + end_length) (t.total + (length bytes + end_length)))

-- the buffer with this total in its place
abbrev pub with_total : (s : List ℕ) → (total : ℕ) → List ℕ
with_total s total = put_at (ending.whole_length).bytes total s (footer_at s + (ending.whole_length).at)

-- the buffer after an extend: T and the new entry, farthest from the footer, are written
abbrev pub extended_by : (s : List ℕ) → Guid → (bytes : List ℕ) → Reply ℕ → List ℕ
extended_by s g bytes (given total) = put_bytes (entry_bytes g bytes) (with_total s total) (begins_at s total)
extended_by s g bytes (refused number carried) = s

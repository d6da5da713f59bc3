-- What a start and extends leave is read back, and what was accepted is written again. Assumes nothing: definitions and statements.
use Rattle.std.specs.Prelude.{ℕ, ◌+◌, ◌≤◌, ◌≡◌, List, [], ◌∷◌, ◌++◌, length, replicate}
use Rattle.le.specs.Le.{put_bytes, Bytes}
use Rattle.reply.specs.Reply.{Reply, given, then}
use Rattle.reply.specs.Scan.{All}
use Rattle.guids.specs.declared.Guid.{Guid}
use Rattle.guids.specs.declared.GuidEntry.{GuidEntry}
use Rattle.guids.specs.declared.Totals.{Totals}
use Rattle.guids.specs.Ending.{end_length, shortest, largest}
use Rattle.guids.specs.Table.{total_at, entries_of, table_of}
use Rattle.guids_build.specs.Write.{start_of, started_by, begins_at, extend_of, extended_by}
use Rattle.guids.specs.Layout.{Item, total_of, Sixteen, Whole, Laid, items_of}

-- an image as a start leaves it
abbrev pub started : (s : List ℕ) → List ℕ
started s = started_by s (start_of s)

-- a start is accepted exactly where L is at least 50, and gives a table with no entries, whatever the buffer held
pub record StartGives : Type 0 where
  pub only : (s : List ℕ) (total : ℕ) → start_of s ≡ given total → (shortest ≤ length s) × (total ≡ end_length)
  pub all : (s : List ℕ) → shortest ≤ length s → start_of s ≡ given end_length
  pub table : (s : List ℕ) → shortest ≤ length s → table_of (started s) ≡ given (record { total = end_length; entries = 0 })

-- the image s has a table, with zero bytes before it for an entry with this data, and the new total is small enough
pub record Extendable (s bytes : List ℕ) (total : ℕ) : Type 0 where
  pub items : List Item
  pub laid : Laid s items
  pub front : List ℕ
  pub free : laid.front ≡ front ++ replicate (length bytes + end_length) 0
  pub new : total_of items + (length bytes + end_length) ≡ total
  pub small : total ≤ largest

-- an extend is accepted exactly there
pub record ExtendAcceptance : Type 0 where
  pub only : (s bytes : List ℕ) (total : ℕ) → Bytes s → extend_of s bytes ≡ given total → Extendable s bytes total
  pub all : (s bytes : List ℕ) (total : ℕ) → Extendable s bytes total → extend_of s bytes ≡ given total

-- an extend that is accepted puts its entry at the far end of the table, keeps the others and what they hold, and answers the new total, which the table then has
pub record ExtendAdds : Type 0 where
  pub entries : (s : List ℕ) (g : Guid) (bytes : List ℕ) (total : ℕ) (others : List GuidEntry) → Bytes s → Sixteen g →
      entries_of s ≡ given others → extend_of s bytes ≡ given total →
      entries_of (extended_by s g bytes (given total)) ≡ given (others ++ record { guid = g; place = begins_at s total; length = length bytes } ∷ [])
  pub items : (s : List ℕ) (g : Guid) (bytes : List ℕ) (total : ℕ) (others : List Item) → Bytes s → Sixteen g →
      items_of s ≡ given others → extend_of s bytes ≡ given total →
      items_of (extended_by s g bytes (given total)) ≡ given (others ++ record { guid = g; bytes = bytes } ∷ [])
  pub table : (s : List ℕ) (g : Guid) (bytes : List ℕ) (total : ℕ) (before : Totals) → Bytes s → Sixteen g → table_of s ≡ given before → extend_of s bytes ≡ given total →
      table_of (extended_by s g bytes (given total)) ≡ given (record { total = total; entries = before.entries + 1 })

-- a table extended by each item in turn; the first refusal is passed on
unfoldable pub extend_all : (s : List ℕ) → (items : List Item) → Reply (List ℕ)
extend_all s [] = given s
extend_all s (i ∷ others) = then (extend_of s i.bytes) (λ total. extend_all (extended_by s i.guid i.bytes (given total)) others)

-- items put in by extends that are accepted are read back as given, in order, behind those that a table had
pub record ItemsBack : Type 0 where
  pub from_start : (s : List ℕ) (items : List Item) (after : List ℕ) → shortest ≤ length s → All Whole items → extend_all (started s) items ≡ given after → items_of after ≡ given items
  pub from_table : (s : List ℕ) (old items : List Item) (after : List ℕ) → Bytes s → All Whole items → items_of s ≡ given old → extend_all s items ≡ given after →
      items_of after ≡ given (old ++ items)

-- an image with the bytes of its table, as many as its total says, made zero
abbrev pub cleared : (s : List ℕ) → List ℕ
cleared s = put_bytes (replicate (total_at s) 0) s (begins_at s (total_at s))

-- a table that was accepted, written again over zero bytes by a start and an extend for each item: all are accepted, and the bytes are the same
pub record SameAgain : Type 0 where
  pub start : (s : List ℕ) (items : List Item) → items_of s ≡ given items → start_of (cleared s) ≡ given end_length
  pub bytes : (s : List ℕ) (items : List Item) → Bytes s → items_of s ≡ given items → extend_all (started (cleared s)) items ≡ given s

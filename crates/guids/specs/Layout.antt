-- How the bytes of a GUID table lie in an image; and that a table is given exactly where they lie so. Assumes nothing: definitions and statements.
use Rattle.std.specs.Prelude.{ℕ, ◌+◌, ◌^◌, ◌<◌, ◌≤◌, ◌≡◌, List, [], ◌∷◌, ◌++◌, map, length, take, drop}
use Rattle.le.specs.Le.{Bytes}
use Rattle.reply.specs.Reply.{Reply, given, then}
use Rattle.reply.specs.Scan.{All}
use Rattle.guids.specs.declared.Guid.{Guid}
use Rattle.guids.specs.declared.GuidEntry.{GuidEntry}
use Rattle.guids.specs.Ending.{end_length, behind_table, largest}
use Rattle.guids.specs.Table.{footer, end_bytes, entry_bytes, entries_of}

-- what an entry holds: its GUID, and its data
pub record Item : Type 0 where
  pub guid : Guid
  pub bytes : List ℕ

-- the bytes of the entries, the first item nearest the footer
unfoldable pub items_bytes : List Item → List ℕ
items_bytes [] = []
items_bytes (i ∷ others) = items_bytes others ++ entry_bytes i.guid i.bytes

-- the total counts the entries, itself and the footer
abbrev pub total_of : List Item → ℕ
total_of items = length (items_bytes items) + end_length

-- an image: what stands before the table, the entries, the total with the footer, and what stands behind the table
abbrev pub image_of : (front : List ℕ) → (items : List Item) → (back : List ℕ) → List ℕ
image_of front items back = front ++ (items_bytes items ++ (end_bytes (total_of items) footer ++ back))

-- a GUID is one of sixteen bytes
pub record Sixteen (g : Guid) : Type 0 where
  pub low : g.low < 2 ^ 64
  pub high : g.high < 2 ^ 64

-- an item's GUID is
abbrev pub Whole : Item → Type 0
Whole i = Sixteen i.guid

-- the items lie in the image s as a table of at most 65,535 bytes that ends 32 bytes before the image's end
pub record Laid (s : List ℕ) (items : List Item) : Type 0 where
  pub front : List ℕ
  pub back : List ℕ
  pub is : s ≡ image_of front items back
  pub behind : length back ≡ behind_table
  pub small : total_of items ≤ largest
  pub whole : All Whole items

-- the entries of items whose bytes begin at place o
unfoldable pub entries_at : (o : ℕ) → List Item → List GuidEntry
entries_at o [] = []
entries_at o (i ∷ others) = record { guid = i.guid; place = o + length (items_bytes others); length = length i.bytes } ∷ entries_at o others

-- what an entry of the image s holds
abbrev pub item_of : (s : List ℕ) → GuidEntry → Item
item_of s e = record { guid = e.guid; bytes = take e.length (drop e.place s) }

-- what the table's entries hold, nearest the footer first
abbrev pub items_of : (s : List ℕ) → Reply (List Item)
items_of s = then (entries_of s) (λ entries. given (map (item_of s) entries))

-- a table is given exactly where its items lie in the image; its entries are theirs, and hold them
pub record TableAcceptance : Type 0 where
  pub only : (s : List ℕ) (items : List Item) → Bytes s → items_of s ≡ given items → Laid s items
  pub all : (s : List ℕ) (items : List Item) → Laid s items → items_of s ≡ given items
  pub entries : (s : List ℕ) (items : List Item) → (l : Laid s items) → entries_of s ≡ given (entries_at (length l.front) items)

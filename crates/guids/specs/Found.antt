-- What a lookup finds, and which totals are accepted, as plain facts. Assumes nothing: these are statements.
use Rattle.std.specs.Prelude.{ℕ, ◌<◌, ◌≤◌, ◌≡◌, List, length, get_or}
use Rattle.reply.specs.Reply.{Carried, given, refused, alone, tested}
use Rattle.reply.specs.Scan.{Lowest, None}
use Rattle.guids.specs.declared.Guid.{Guid}
use Rattle.guids.specs.declared.GuidEntry.{GuidEntry}
use Rattle.guids.specs.declared.GuidMatch.{GuidMatch}
use Rattle.guids.specs.Ending.{end_length, shortest}
use Rattle.guids.specs.Table.{guid_at, footer, footer_at, total_at, entries_of, table_of, no_entry, match_at, find_of, entry_of}

-- entry i of these, nearest the footer first, has the GUID
abbrev pub Has : Guid → (entries : List GuidEntry) → (i : ℕ) → Type 0
Has g entries i = (get_or entries i no_entry).guid ≡ g

-- a lookup gives the lowest match i and i + 1 entries tested, or 8 with the number of entries, and nothing else; a table that is refused refuses it
pub record FirstMatchFound : Type 0 where
  pub found : (s : List ℕ) (entries : List GuidEntry) (g : Guid) (i : ℕ) → entries_of s ≡ given entries → Lowest (Has g entries) (length entries) i → find_of s g ≡ given (match_at entries i)
  pub absent : (s : List ℕ) (entries : List GuidEntry) (g : Guid) → entries_of s ≡ given entries → None (Has g entries) (length entries) → find_of s g ≡ refused 8 (tested (length entries))
  pub found_only : (s : List ℕ) (entries : List GuidEntry) (g : Guid) (m : GuidMatch) → entries_of s ≡ given entries → find_of s g ≡ given m →
      (i : ℕ) × Lowest (Has g entries) (length entries) i × (m ≡ match_at entries i)
  pub absent_only : (s : List ℕ) (entries : List GuidEntry) (g : Guid) (w : ℕ) (c : Carried) → entries_of s ≡ given entries → find_of s g ≡ refused w c →
      None (Has g entries) (length entries) × (w ≡ 8) × (c ≡ tested (length entries))
  pub checked : (s : List ℕ) (g : Guid) (w : ℕ) (c : Carried) → entries_of s ≡ refused w c → find_of s g ≡ refused w c

-- entry i is given where there are more entries than i, else 8 alone; a table that is refused refuses it
pub record EntryGiven : Type 0 where
  pub inside : (s : List ℕ) (entries : List GuidEntry) (i : ℕ) → entries_of s ≡ given entries → i < length entries → entry_of s i ≡ given (get_or entries i no_entry)
  pub behind : (s : List ℕ) (entries : List GuidEntry) (i : ℕ) → entries_of s ≡ given entries → length entries ≤ i → entry_of s i ≡ refused 8 alone
  pub checked : (s : List ℕ) (i w : ℕ) (c : Carried) → entries_of s ≡ refused w c → entry_of s i ≡ refused w c

-- where the footer stands, a total of 18 is accepted and has no entries, and a total below is refused with 3
pub record LeastTotal : Type 0 where
  pub none : (s : List ℕ) → shortest ≤ length s → guid_at s (footer_at s) ≡ footer → total_at s ≡ end_length → table_of s ≡ given (record { total = end_length; entries = 0 })
  pub fewer : (s : List ℕ) → shortest ≤ length s → guid_at s (footer_at s) ≡ footer → total_at s < end_length → table_of s ≡ refused 3 alone

-- What a lookup's match and an entry's part are, as plain facts; and that exactly these are given. Assumes nothing: these are statements.
use Rattle.std.specs.Prelude.{ℕ, ◌+◌, ◌<◌, ◌≤◌, ◌≡◌, List, false, length}
use Rattle.reply.specs.Reply.{Carried, given, refused, alone, tested, OneToOne, told, told_search}
use Rattle.reply.specs.Scan.{Lowest, None}
use Rattle.window.specs.Window.{four_gib}
use Rattle.window.specs.Inside.{Shown}
use Rattle.directory.specs.Directory.{directory_at}
use Rattle.entries.specs.Entry.{entry_of, entry_in, lead_of, lead_in, find_in}
use Rattle.entries.specs.Part.{part_in}
use Rattle.directory.specs.declared.Kind.{Kind}
use Rattle.directory.specs.declared.Directory.{Directory}
use Rattle.entries.specs.declared.Entry.{Entry}
use Rattle.entries.specs.declared.Lead.{Lead}
use Rattle.entries.specs.declared.Match.{Match}
use Rattle.entries.specs.declared.Part.{Part}

-- no two answers of a call tell the same
pub record ToldApart : Type 0 where
  pub entry : OneToOne (told {A = Entry})
  pub lead : OneToOne (told {A = Lead})
  pub lookup : OneToOne (told_search {A = Match})
  pub part : OneToOne (told {A = Part})

-- an entry is given exactly where the index is below the total; at or above it 8, whatever lies behind
pub record EntryAcceptance : Type 0 where
  pub only : (kind : Kind) (image : List ℕ) (d : Directory) (i : ℕ) (e : Entry) → entry_in kind image d i ≡ given e → (i < d.total) × (entry_of kind image d i ≡ e)
  pub all : (kind : Kind) (image : List ℕ) (d : Directory) (i : ℕ) → i < d.total → entry_in kind image d i ≡ given (entry_of kind image d i)
  pub behind : (kind : Kind) (image : List ℕ) (d : Directory) (i : ℕ) → d.total ≤ i → entry_in kind image d i ≡ refused 8 alone

-- entry i leads to level two
abbrev pub Leads : Kind → (image : List ℕ) → Directory → (i : ℕ) → Type 0
Leads kind image d i = (entry_of kind image d i).class ≡ kind.lead

-- entry i has this type and subprogram
abbrev pub Matches : Kind → (image : List ℕ) → Directory → (class sub i : ℕ) → Type 0
Matches kind image d class sub i = ((entry_of kind image d i).class ≡ class) × ((entry_of kind image d i).subprogram ≡ sub)

-- the lead is the lowest entry that leads, or 8, and never otherwise
pub record LowestLead : Type 0 where
  pub found : (kind : Kind) (image : List ℕ) (d : Directory) (i : ℕ) → Lowest (Leads kind image d) d.total i → lead_in kind image d ≡ given (lead_of kind image d i)
  pub absent : (kind : Kind) (image : List ℕ) (d : Directory) → None (Leads kind image d) d.total → lead_in kind image d ≡ refused 8 alone
  pub found_only : (kind : Kind) (image : List ℕ) (d : Directory) (l : Lead) → lead_in kind image d ≡ given l →
      Lowest (Leads kind image d) d.total l.index × (entry_of kind image d l.index ≡ l.entry)
  pub absent_only : (kind : Kind) (image : List ℕ) (d : Directory) (number : ℕ) (carried : Carried) → lead_in kind image d ≡ refused number carried → None (Leads kind image d) d.total

-- the lookup gives the lowest match with its count, index + 1, or 8 with the total, and never otherwise
pub record LowestMatch : Type 0 where
  pub found : (kind : Kind) (image : List ℕ) (d : Directory) (class sub i : ℕ) → Lowest (Matches kind image d class sub) d.total i →
      find_in kind image d class sub ≡ given (record { index = i; tested = i + 1 })
  pub absent : (kind : Kind) (image : List ℕ) (d : Directory) (class sub : ℕ) → None (Matches kind image d class sub) d.total →
      find_in kind image d class sub ≡ refused 8 (tested d.total)
  pub found_only : (kind : Kind) (image : List ℕ) (d : Directory) (class sub : ℕ) (m : Match) → find_in kind image d class sub ≡ given m →
      Lowest (Matches kind image d class sub) d.total m.index × (m.tested ≡ m.index + 1)
  pub absent_only : (kind : Kind) (image : List ℕ) (d : Directory) (class sub number : ℕ) (carried : Carried) → find_in kind image d class sub ≡ refused number carried →
      None (Matches kind image d class sub) d.total × (number ≡ 8) × (carried ≡ tested d.total)

-- a directory of a kind that may not repeat, where it is given: no two entries have one type and subprogram, and a lookup's match is the only one
pub record NoRepeats : Type 0 where
  pub once : (kind : Kind) (limit level : ℕ) (image : List ℕ) (o : ℕ) (d : Directory) → kind.repeats ≡ false → directory_at kind limit level image o ≡ given d →
      (class sub i j : ℕ) → i < d.total → j < d.total → Matches kind image d class sub i → Matches kind image d class sub j → i ≡ j
  pub the_match : (kind : Kind) (limit level : ℕ) (image : List ℕ) (o : ℕ) (d : Directory) → kind.repeats ≡ false → directory_at kind limit level image o ≡ given d →
      (class sub : ℕ) (m : Match) → find_in kind image d class sub ≡ given m → (j : ℕ) → j < d.total → Matches kind image d class sub j → j ≡ m.index

-- where the bytes of entry e of a directory at o begin, through a window of so many bytes
pub data BeginsAt (window o : ℕ) (e : Entry) (place : ℕ) : Type 0 where
  physical : e.mode ≡ 0 → Shown window e.location place → BeginsAt window o e place
  flash : e.mode ≡ 1 → e.location ≡ place → BeginsAt window o e place
  counted : e.mode ≡ 2 → o + e.location ≡ place → BeginsAt window o e place

-- the part p of the image holds the bytes of entry e
pub record GoodPart (kind : Kind) (window : ℕ) (image : List ℕ) (o : ℕ) (e : Entry) (p : Part) : Type 0 where
  pub no_value : e.class ≡ kind.value → ⊥
  pub begins : BeginsAt window o e p.place.0
  pub size : e.size ≡ p.length
  pub inside : p.place.0 + p.length ≤ length image

-- the part of entry i is given exactly where the index is below the total and the part good
pub record PartAcceptance (kind : Kind) (window : ℕ) (image : List ℕ) (d : Directory) (i : ℕ) (p : Part) : Type 0 where
  pub only : part_in kind window image d i ≡ given p → (i < d.total) × GoodPart kind window image d.place.0 (entry_of kind image d i) p
  pub all : i < d.total → GoodPart kind window image d.place.0 (entry_of kind image d i) p → part_in kind window image d i ≡ given p

-- so it is through every window that fits below 4 GiB
abbrev pub PartsAccepted : Type 0
PartsAccepted = (kind : Kind) (window : ℕ) (image : List ℕ) (d : Directory) (i : ℕ) (p : Part) → window ≤ four_gib → PartAcceptance kind window image d i p

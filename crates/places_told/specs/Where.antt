-- What is wrong at a place that a refusal carries, as plain facts of the bytes there. Assumes nothing: these are statements.
use Rattle.std.specs.Prelude.{ℕ, ◌+◌, ◌<◌, ◌≤◌, ◌≡◌, ◌⊎◌, List, length}
use Rattle.le.specs.Le.{bits_from}
use Rattle.le.specs.Field.{get}
use Rattle.reply.specs.Reply.{Carried, in_header, in_entry}
use Rattle.directory.specs.Header as header
use Rattle.directory.specs.Entry as entry
use Rattle.directory.specs.Directory.{cookie_of, total_at, entry_place, checksum_at, class_at}
use Rattle.directory.specs.Good.{GoodEntry, First}
use Rattle.directory.specs.declared.Kind.{Kind}
use Rattle.directory.specs.declared.Directory.{Directory}
use Rattle.entries.specs.Entry.{entry_of}
use Rattle.entries.specs.Good.{BeginsAt}

-- ---- a header: six rules, in document 01's order
abbrev pub HeaderThere : (image : List ℕ) → (o : ℕ) → Type 0
HeaderThere image o = o + header.bytes ≤ length image

abbrev pub CookieDue : Kind → (level : ℕ) → (image : List ℕ) → (o : ℕ) → Type 0
CookieDue kind level image o = get header.cookie image o ≡ cookie_of kind level

abbrev pub TotalAllowed : (limit : ℕ) → (image : List ℕ) → (o : ℕ) → Type 0
TotalAllowed limit image o = total_at image o ≤ limit

abbrev pub EntriesThere : Kind → (image : List ℕ) → (o : ℕ) → Type 0
EntriesThere kind image o = entry_place kind o (total_at image o) ≤ length image

abbrev pub ChecksumRight : Kind → (image : List ℕ) → (o : ℕ) → Type 0
ChecksumRight kind image o = get header.checksum image o ≡ checksum_at kind image o (total_at image o)

abbrev pub WordZero : (image : List ℕ) → (o : ℕ) → Type 0
WordZero image o = get header.reserved image o ≡ 0

-- all hold
pub record GoodHeader (kind : Kind) (limit level : ℕ) (image : List ℕ) (o : ℕ) : Type 0 where
  pub there : HeaderThere image o
  pub cookie : CookieDue kind level image o
  pub total : TotalAllowed limit image o
  pub entries : EntriesThere kind image o
  pub checksum : ChecksumRight kind image o
  pub word : WordZero image o

-- one does not, and all before it do: its number
pub data HeaderFault (kind : Kind) (limit level : ℕ) (image : List ℕ) (o : ℕ) : (number : ℕ) → Type 0 where
  header_cut : (HeaderThere image o → ⊥) → HeaderFault kind limit level image o 1
  other_cookie : HeaderThere image o → (CookieDue kind level image o → ⊥) → HeaderFault kind limit level image o 2
  too_many : HeaderThere image o → CookieDue kind level image o → (TotalAllowed limit image o → ⊥) → HeaderFault kind limit level image o 3
  entries_cut : HeaderThere image o → CookieDue kind level image o → TotalAllowed limit image o → (EntriesThere kind image o → ⊥) → HeaderFault kind limit level image o 1
  other_sum : HeaderThere image o → CookieDue kind level image o → TotalAllowed limit image o → EntriesThere kind image o → (ChecksumRight kind image o → ⊥) → HeaderFault kind limit level image o 4
  word_set : HeaderThere image o → CookieDue kind level image o → TotalAllowed limit image o → EntriesThere kind image o → ChecksumRight kind image o → (WordZero image o → ⊥) →
      HeaderFault kind limit level image o 5

-- ---- an entry: three rules
abbrev pub FlagsZero : Kind → (image : List ℕ) → (o i : ℕ) → Type 0
FlagsZero kind image o i = bits_from kind.used (get entry.flags image (entry_place kind o i)) ≡ 0

abbrev pub MayStand : Kind → (level : ℕ) → (image : List ℕ) → (o i : ℕ) → Type 0
MayStand kind level image o i = (level ≡ 1 → ⊥) → class_at kind image o i ≡ kind.lead → ⊥

pub data EntryFault (kind : Kind) (level : ℕ) (image : List ℕ) (o i : ℕ) : (number : ℕ) → Type 0 where
  flags_set : (FlagsZero kind image o i → ⊥) → EntryFault kind level image o i 5
  misplaced : FlagsZero kind image o i → (MayStand kind level image o i → ⊥) → EntryFault kind level image o i 14
  repeats : FlagsZero kind image o i → MayStand kind level image o i → (First kind image o i → ⊥) → EntryFault kind level image o i 18

-- ---- a directory of a level at o: what is wrong in its header, or, where that is good, in the first of its entries in which anything is
pub data CheckFault (kind : Kind) (limit level : ℕ) (image : List ℕ) (o number : ℕ) : Carried → Type 0 where
  in_its_header : HeaderFault kind limit level image o number → CheckFault kind limit level image o number (in_header level o)
  in_its_entry : (i : ℕ) → GoodHeader kind limit level image o → i < total_at image o → ((h : ℕ) → h < i → GoodEntry kind level image o h × First kind image o h) →
      EntryFault kind level image o i number → CheckFault kind limit level image o number (in_entry level i o)

-- the same of the level that its cookie names; where none does, level 0
pub data CookieFault (kind : Kind) (limit : ℕ) (image : List ℕ) (o number : ℕ) : Carried → Type 0 where
  cut : (HeaderThere image o → ⊥) → number ≡ 1 → CookieFault kind limit image o number (in_header 0 o)
  no_cookie : HeaderThere image o → (get header.cookie image o ≡ kind.one → ⊥) → (get header.cookie image o ≡ kind.two → ⊥) → number ≡ 2 → CookieFault kind limit image o number (in_header 0 o)
  of_level : {carried : Carried} (level : ℕ) → (level ≡ 1) ⊎ (level ≡ 2) → HeaderThere image o → CookieDue kind level image o → CheckFault kind limit level image o number carried →
      CookieFault kind limit image o number carried

-- ---- the location of entry i of a directory
-- it should lead to a place in the image, and does not
pub data LeadFault (kind : Kind) (window : ℕ) (image : List ℕ) (d : Directory) (i : ℕ) : (number : ℕ) → Type 0 where
  lead_mode : (entry_of kind image d i).mode ≡ 3 → LeadFault kind window image d i 16
  leads_outside : ((entry_of kind image d i).mode ≡ 3 → ⊥) → ((place : ℕ) → BeginsAt window d.place.0 (entry_of kind image d i) place → place ≤ length image → ⊥) →
      LeadFault kind window image d i 7

-- its bytes should lie in the image, and do not
pub data PartFault (kind : Kind) (window : ℕ) (image : List ℕ) (d : Directory) (i : ℕ) : (number : ℕ) → Type 0 where
  value : (entry_of kind image d i).class ≡ kind.value → PartFault kind window image d i 17
  part_mode : ((entry_of kind image d i).class ≡ kind.value → ⊥) → (entry_of kind image d i).mode ≡ 3 → PartFault kind window image d i 16
  part_outside : ((entry_of kind image d i).class ≡ kind.value → ⊥) → ((entry_of kind image d i).mode ≡ 3 → ⊥) →
      ((place : ℕ) → BeginsAt window d.place.0 (entry_of kind image d i) place → place + (entry_of kind image d i).size ≤ length image → ⊥) → PartFault kind window image d i 7

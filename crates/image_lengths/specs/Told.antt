-- What the length of an image decides, as plain facts in request 02's words: which addresses it has, where an EFS pointer leads, and which EFS candidates may be used. Assumes nothing: these are statements.
use Rattle.std.specs.Prelude.{ℕ, ◌+◌, ◌-◌, ◌<◌, ◌≤◌, ◌≡◌, ◌⊎◌, List, [], length, get_or}
use Rattle.le.specs.Field.{get}
use Rattle.reply.specs.Reply.{Reply, given, refused, alone}
use Rattle.window.specs.Window.{four_gib, offset_in}
use Rattle.window.specs.Inside.{Shown, GoodLength}
use Rattle.window.specs.declared.Offset.{Offset}
use Rattle.directory.specs.declared.Kind.{Kind}
use Rattle.directory.specs.declared.Directory.{Directory}
use Rattle.entries.specs.Part.{leads_to, part_of}
use Rattle.entries.specs.Good.{PartAcceptance}
use Rattle.entries.specs.declared.Entry.{Entry}
use Rattle.entries.specs.declared.Part.{Part}
use Rattle.efs.specs.Fields as efs
use Rattle.efs.specs.Rules.{rules_of}
use Rattle.efs.specs.Efs.{candidate_at, or_else, pointer_to, flash_efs}
use Rattle.efs.specs.declared.Efs.{Efs}
use Rattle.flash.specs.Good.{FlashAcceptance}

-- outside the window of an image of so many bytes: below its begin, or at 4 GiB and above
abbrev pub Outside : (long a : ℕ) → Type 0
Outside long a = (a + long < four_gib) ⊎ (four_gib ≤ a)

-- the physical addresses of an image, whatever its length
pub record AddressesTold (image : List ℕ) : Type 0 where
  -- one outside the window is 7
  pub outside : (a : ℕ) → Outside (length image) a → offset_in (length image) a ≡ refused 7 alone
  -- and so is what an entry of mode 0 leads to by it, and its bytes, but for a value
  pub lead : (o : ℕ) (e : Entry) → e.mode ≡ 0 → Outside (length image) e.location → leads_to (length image) image o e ≡ refused 7 alone
  pub part : (kind : Kind) (o : ℕ) (e : Entry) → e.mode ≡ 0 → (e.class ≡ kind.value → ⊥) → Outside (length image) e.location → part_of kind (length image) image o e ≡ refused 7 alone

-- an EFS pointer of an image of so many bytes is physical at the window's begin or above, and an offset below the image's length
abbrev pub PhysicalPointer : (long p : ℕ) → Type 0
PhysicalPointer long p = (four_gib ≤ p + long) × (p < four_gib)

abbrev pub OffsetPointer : (long p : ℕ) → Type 0
OffsetPointer long p = p < long

-- of an image of a length that is allowed
pub record LengthTold (image : List ℕ) : Type 0 where
  -- an address in the window is an offset, counted from the window's begin
  pub address : (a : ℕ) → four_gib ≤ a + length image → a < four_gib → offset_in (length image) a ≡ given (record { 0 = a + length image - four_gib })
  -- so is a physical pointer; an offset is itself; any other pointer is 7
  pub physical : (p : ℕ) → PhysicalPointer (length image) p → pointer_to (length image) image p ≡ given (record { 0 = p + length image - four_gib })
  pub offset : (p : ℕ) → OffsetPointer (length image) p → pointer_to (length image) image p ≡ given (record { 0 = p })
  pub neither : (p : ℕ) → p < four_gib → (PhysicalPointer (length image) p → ⊥) → (OffsetPointer (length image) p → ⊥) → pointer_to (length image) image p ≡ refused 7 alone

-- the shortest image with an EFS: the first candidate lies 384 KiB below 4 GiB
abbrev pub shortest : ℕ
shortest = 0x6_0000

-- the six candidates
abbrev pub candidate : (i : ℕ) → ℕ
candidate i = get_or (rules_of []).candidates i 0

-- where an EFS may be, in an image of any length
pub record CandidatesTold (image : List ℕ) : Type 0 where
  -- one below the window is passed over, whatever stands in the image
  pub passed_over : (a : ℕ) (rest : Reply Offset) → a + length image < four_gib → or_else (candidate_at (length image) image a) rest ≡ rest
  -- the EFS that is used stands at a candidate that the window shows, and has the signature there
  pub used : (e : Efs) → flash_efs (rules_of image) image ≡ given e →
      (i : ℕ) × (i < 6) × Shown (length image) (candidate i) e.place.0 × (get efs.signature image e.place.0 ≡ 0x55AA_55AA)
  -- no candidate that the window shows is cut off by the image's end
  pub whole : (i o : ℕ) → i < 6 → Shown (length image) (candidate i) o → o + efs.bytes ≤ length image
  -- a shorter image has none
  pub too_short : GoodLength image → length image < shortest → flash_efs (rules_of image) image ≡ refused 2 alone

-- what is given of an image is exactly what is good, by the rules of its length
pub record AcceptedByLength (image : List ℕ) : Type 0 where
  pub directory : (level : ℕ) (d : Directory) → FlashAcceptance (rules_of image) level image d
  pub part : GoodLength image → (d : Directory) (i : ℕ) (p : Part) → PartAcceptance (rules_of image).kind (length image) image d i p

pub record LengthsTold : Type 0 where
  pub addresses : (image : List ℕ) → AddressesTold image
  pub told : (image : List ℕ) → GoodLength image → LengthTold image
  pub candidates : (image : List ℕ) → CandidatesTold image
  pub accepted : (image : List ℕ) → AcceptedByLength image

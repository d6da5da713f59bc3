-- What an EFS and its directory pointer are, as plain facts. Assumes nothing: these are statements.
use Rattle.std.specs.Prelude.{ℕ, ◌+◌, ◌<◌, ◌≤◌, ◌≡◌, ◌⊎◌, List, length, get_or}
use Rattle.le.specs.Field.{get}
use Rattle.reply.specs.Reply.{given}
use Rattle.reply.specs.Scan.{Lowest}
use Rattle.window.specs.Window.{four_gib, window_start}
use Rattle.window.specs.Inside.{Shown}
use Rattle.efs.specs.Fields as efs
use Rattle.efs.specs.Efs.{pointer_in}
use Rattle.efs.specs.declared.Rules.{Rules}
use Rattle.efs.specs.declared.Pointer.{Pointer}

-- an EFS at physical address a: the window shows the address at a place, its 0x24 bytes lie in the image, and they start with aa 55 aa 55
pub record EfsAt (window : ℕ) (image : List ℕ) (a : ℕ) : Type 0 where
  pub place : ℕ
  pub shown : Shown window a place
  pub present : place + efs.bytes ≤ length image
  pub signature : get efs.signature image place ≡ 0x55AA_55AA

-- a pointer of 0 or 0xFFFFFFFF is absent
abbrev pub Absent : (p : ℕ) → Type 0
Absent p = (p ≡ 0) ⊎ (p ≡ 0xFFFF_FFFF)

-- pointer p leads to offset o: as an address that the window shows, or, below the window, as an offset in it
pub data PointsTo (window p o : ℕ) : Type 0 where
  physical : Shown window p o → PointsTo window p o
  flash : p < window_start window → p < window → p ≡ o → PointsTo window p o

-- the directory pointer of the EFS at e leads to offset o
pub data DirectoryPointer (window : ℕ) (image : List ℕ) (e o : ℕ) : Type 0 where
  late : (Absent (get efs.late image e) → ⊥) → PointsTo window (get efs.late image e) o → DirectoryPointer window image e o
  early : Absent (get efs.late image e) → (Absent (get efs.early image e) → ⊥) → PointsTo window (get efs.early image e) o → DirectoryPointer window image e o

-- the pointer of the first candidate that counts leads to offset o
pub record GoodPointer (r : Rules) (image : List ℕ) (o : ℕ) : Type 0 where
  pub candidate : ℕ
  pub efs : Lowest (λ j. EfsAt r.window image (get_or r.candidates j 0)) (length r.candidates) candidate
  pub pointer : DirectoryPointer r.window image (efs).here.place o

-- a pointer leads to an offset in the image exactly where it is that of the first candidate that counts; of a window that fits below 4 GiB
pub record PointerAcceptance : Type 0 where
  pub only : (r : Rules) (image : List ℕ) (p : Pointer) → r.window ≤ four_gib → pointer_in r image ≡ given p → GoodPointer r image p.place.0 × (p.place.0 ≤ length image)
  pub all : (r : Rules) (image : List ℕ) (o : ℕ) → r.window ≤ four_gib → GoodPointer r image o → o ≤ length image →
      (p : Pointer) × (pointer_in r image ≡ given p) × (p.place.0 ≡ o)

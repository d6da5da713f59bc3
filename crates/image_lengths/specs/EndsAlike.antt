-- Images that end alike: with other bytes before it, an image is read as it was, each place as far from the end. Assumes nothing: these are statements.
use Rattle.std.specs.Prelude.{ℕ, ◌+◌, ◌<◌, ◌≤◌, ◌≡◌, List, ◌++◌, length, take, drop}
use Rattle.reply.specs.Reply.{Reply, given, refused}
use Rattle.window.specs.Window.{four_gib, offset_in}
use Rattle.window.specs.Inside.{GoodLength}
use Rattle.window.specs.declared.Offset.{Offset}
use Rattle.directory.specs.declared.Directory.{Directory}
use Rattle.entries.specs.Entry.{entry_of, lead_in}
use Rattle.entries.specs.Good.{Leads}
use Rattle.entries.specs.declared.Entry.{Entry}
use Rattle.entries.specs.declared.Lead.{Lead}
use Rattle.entries.specs.declared.Part.{Part}
use Rattle.efs.specs.Rules.{rules_of}
use Rattle.efs.specs.Efs.{flash_efs, flash_pointer}
use Rattle.efs.specs.declared.Efs.{Efs}
use Rattle.efs.specs.declared.Pointer.{Pointer}
use Rattle.flash.specs.Flash.{level_two_at, flash_directory, flash_entry, flash_part, flash_find}
use Rattle.walk.specs.Walk.{find_image}
use Rattle.walk.specs.declared.ImageMatch.{ImageMatch}

-- what is given, its place so many bytes further
abbrev pub moved : (n : ℕ) → Offset → Offset
moved n o = record { 0 = n + o.0 }

abbrev pub moved_efs : (n : ℕ) → Efs → Efs
moved_efs n e = record { place = moved n e.place; early = e.early; late = e.late }

abbrev pub moved_pointer : (n : ℕ) → Pointer → Pointer
moved_pointer n p = record { field = p.field; value = p.value; place = moved n p.place }

abbrev pub moved_directory : (n : ℕ) → Directory → Directory
moved_directory n d = record { place = moved n d.place; level = d.level; total = d.total }

abbrev pub moved_part : (n : ℕ) → Part → Part
moved_part n p = record { place = moved n p.place; length = p.length }

abbrev pub moved_match : (n : ℕ) → ImageMatch → ImageMatch
moved_match n f = record { place = moved n f.place; level = f.level; index = f.index; tested = f.tested }

-- what a lookup in the whole image answers: a refusal stays, with its count
abbrev pub moved_answer : (n : ℕ) → Reply ImageMatch → Reply ImageMatch
moved_answer n (given f) = given (moved_match n f)
moved_answer n (refused number carried) = refused number carried

-- a location that does not count from the image's start
abbrev pub NoOffset : Entry → Type 0
NoOffset e = e.mode ≡ 1 → ⊥

-- no step of the way to a directory counts from the image's start: the EFS pointer is physical, and so or from the directory leads level one to level two
pub record FromTheEnd (image : List ℕ) : Type 0 where
  pub pointer : (p : Pointer) → flash_pointer (rules_of image) image ≡ given p → four_gib ≤ p.value + length image
  pub lead : (d : Directory) (l : Lead) → flash_directory (rules_of image) 1 image ≡ given d → lead_in (rules_of image).kind image d ≡ given l → NoOffset l.entry

-- nor does any other step of the walk through the whole image: each lead of level one leads to a good directory, and by no offset
pub record AllFromTheEnd (image : List ℕ) : Type 0 where
  pub way : FromTheEnd image
  pub leads : (d : Directory) (i : ℕ) → flash_directory (rules_of image) 1 image ≡ given d → i < d.total → Leads (rules_of image).kind image d i → NoOffset (entry_of (rules_of image).kind image d i)
  pub good : (d : Directory) (i : ℕ) → flash_directory (rules_of image) 1 image ≡ given d → i < d.total → Leads (rules_of image).kind image d i →
      (n : Directory) × (level_two_at (rules_of image) image d i (entry_of (rules_of image).kind image d i) ≡ given n)

-- what is given of an image, and of the image with these bytes before it
pub record EndsAlike (front image : List ℕ) : Type 0 where
  pub address : (a : ℕ) (o : Offset) → offset_in (length image) a ≡ given o → offset_in (length (front ++ image)) a ≡ given (moved (length front) o)
  pub efs : (e : Efs) → flash_efs (rules_of image) image ≡ given e → flash_efs (rules_of (front ++ image)) (front ++ image) ≡ given (moved_efs (length front) e)
  pub pointer : FromTheEnd image → (p : Pointer) → flash_pointer (rules_of image) image ≡ given p → flash_pointer (rules_of (front ++ image)) (front ++ image) ≡ given (moved_pointer (length front) p)
  pub directory : FromTheEnd image → (level : ℕ) (d : Directory) → flash_directory (rules_of image) level image ≡ given d →
      flash_directory (rules_of (front ++ image)) level (front ++ image) ≡ given (moved_directory (length front) d)
  -- of that directory every entry and every lookup is the same
  pub entry : FromTheEnd image → (level : ℕ) (d : Directory) → flash_directory (rules_of image) level image ≡ given d → (i : ℕ) →
      flash_entry (rules_of (front ++ image)) level (front ++ image) i ≡ flash_entry (rules_of image) level image i
  pub find : FromTheEnd image → (level : ℕ) (d : Directory) → flash_directory (rules_of image) level image ≡ given d → (class sub : ℕ) →
      flash_find (rules_of (front ++ image)) level (front ++ image) class sub ≡ flash_find (rules_of image) level image class sub
  -- the lookup in the whole image finds the same, or the same count of entries without it
  pub find_image_lem : AllFromTheEnd image → (d : Directory) → flash_directory (rules_of image) 1 image ≡ given d → (class sub : ℕ) →
      find_image (rules_of (front ++ image)) (front ++ image) class sub ≡ moved_answer (length front) (find_image (rules_of image) image class sub)
  -- and an entry has the same bytes, but for mode 1
  pub part : FromTheEnd image → (level i : ℕ) (e : Entry) (p : Part) → flash_entry (rules_of image) level image i ≡ given e → NoOffset e → flash_part (rules_of image) level image i ≡ given p →
      flash_part (rules_of (front ++ image)) level (front ++ image) i ≡ given (moved_part (length front) p)
  pub bytes : (p : Part) → take p.length (drop (moved_part (length front) p).place.0 (front ++ image)) ≡ take p.length (drop p.place.0 image)

-- so it is wherever the longer image has a length that is allowed
abbrev pub ImagesEndAlike : Type 0
ImagesEndAlike = (front image : List ℕ) → GoodLength image → GoodLength (front ++ image) → EndsAlike front image

-- What is given at a place; that a view of a level answers as the calls on that level do; and that the bytes handed out are a part of the image. Assumes nothing: these are statements.
use Rattle.std.specs.Prelude.{ℕ, ◌+◌, ◌≤◌, ◌≡◌, List, [], length, take, drop}
use Rattle.reply.specs.Reply.{Carried, given, refused, alone}
use Rattle.directory.specs.Good.{GoodDirectory}
use Rattle.entries.specs.Part.{bytes_of, begin_of}
use Rattle.directory.specs.declared.Directory.{Directory}
use Rattle.entries.specs.declared.Entry.{Entry}
use Rattle.entries.specs.declared.Part.{Part}
use Rattle.window.specs.Inside.{GoodLength}
use Rattle.window.specs.Window.{nearest_to}
use Rattle.efs.specs.Rules.{rules_of}
use Rattle.efs.specs.declared.Rules.{Rules}
use Rattle.flash.specs.Flash.{flash_directory, flash_entry, flash_part}
use Rattle.place.specs.Place.{check_at, entry_at, part_at, view_image, view_place, check_through, entry_through, part_through}

-- the directory d at a place: an image of a length that is allowed, and a good directory there
pub record GoodPlace (r : Rules) (image : List ℕ) (place : ℕ) (d : Directory) : Type 0 where
  pub long : GoodLength image
  pub good : GoodDirectory r.kind r.limit image d
  pub here : d.place.0 ≡ place

-- a place that no offset can tell lies beyond every image: what is answered there is what is answered at the offset nearest to it
pub record NearestPlace : Type 0 where
  pub check : (r : Rules) (image : List ℕ) (place : ℕ) → check_at r image (nearest_to place).0 ≡ check_at r image place
  pub entry : (r : Rules) (image : List ℕ) (place i : ℕ) → entry_at r image (nearest_to place).0 i ≡ entry_at r image place i
  pub part : (r : Rules) (image : List ℕ) (place i : ℕ) → part_at r image (nearest_to place).0 i ≡ part_at r image place i

-- a directory is given at a place exactly where it is good; of a kind whose cookies differ
pub record PlaceAcceptance : Type 0 where
  pub only : (r : Rules) (image : List ℕ) (place : ℕ) (d : Directory) → check_at r image place ≡ given d → GoodPlace r image place d
  pub all : (r : Rules) (image : List ℕ) (place : ℕ) (d : Directory) → (r.kind.one ≡ r.kind.two → ⊥) → GoodPlace r image place d → check_at r image place ≡ given d

-- a view of the directory of a level, for every level, image and index, where each image has its rules
pub record SameThroughView (rules : List ℕ → Rules) : Type 0 where
  -- where the directory is given, the view's is the same, and each entry and part is that of the call on the level
  pub directory : (level : ℕ) (image : List ℕ) (d : Directory) → flash_directory (rules image) level image ≡ given d → check_through rules level image ≡ given d
  pub entry : (level : ℕ) (image : List ℕ) (d : Directory) (i : ℕ) → flash_directory (rules image) level image ≡ given d → entry_through rules level image i ≡ flash_entry (rules image) level image i
  pub part : (level : ℕ) (image : List ℕ) (d : Directory) (i : ℕ) → flash_directory (rules image) level image ≡ given d → part_through rules level image i ≡ flash_part (rules image) level image i
  -- given or refused, the bytes are those of the call on the level, and begin where those do
  pub bytes : (level : ℕ) (image : List ℕ) (i : ℕ) → bytes_of (view_image (rules image) level image) (part_through rules level image i) ≡ bytes_of image (flash_part (rules image) level image i)
  pub begin : (level : ℕ) (image : List ℕ) (i : ℕ) (at : ℕ × ℕ) → begin_of at (part_through rules level image i) ≡ begin_of at (flash_part (rules image) level image i)
  -- where the directory is refused, with whatever number, the view holds no bytes and place 0, and each call on it answers 15
  pub none : (level : ℕ) (image : List ℕ) (number : ℕ) (carried : Carried) → flash_directory (rules image) level image ≡ refused number carried →
      (view_image (rules image) level image ≡ []) × ((view_place (rules image) level image).0 ≡ 0)
  pub directory_15 : (level : ℕ) (image : List ℕ) (number : ℕ) (carried : Carried) → flash_directory (rules image) level image ≡ refused number carried → check_through rules level image ≡ refused 15 alone
  pub entry_15 : (level : ℕ) (image : List ℕ) (i number : ℕ) (carried : Carried) → flash_directory (rules image) level image ≡ refused number carried → entry_through rules level image i ≡ refused 15 alone
  pub part_15 : (level : ℕ) (image : List ℕ) (i number : ℕ) (carried : Carried) → flash_directory (rules image) level image ≡ refused number carried → part_through rules level image i ≡ refused 15 alone

-- so it is by all rules of kinds whose cookies differ, and by those of every image
pub record ViewOfLevel : Type 0 where
  pub every : (rules : List ℕ → Rules) → ((image : List ℕ) → (rules image).kind.one ≡ (rules image).kind.two → ⊥) → SameThroughView rules
  pub document : SameThroughView rules_of

-- the bytes of an entry are a part of the image, of the entry's size, and no copy: they begin in memory where that part of the image does
pub record PartOfImage : Type 0 where
  pub inside : (r : Rules) (image : List ℕ) (place i : ℕ) (p : Part) → part_at r image place i ≡ given p → p.place.0 + p.length ≤ length image
  pub size : (r : Rules) (image : List ℕ) (place i : ℕ) (e : Entry) (p : Part) → entry_at r image place i ≡ given e → part_at r image place i ≡ given p → p.length ≡ e.size
  pub bytes : (r : Rules) (image : List ℕ) (place i : ℕ) (p : Part) → part_at r image place i ≡ given p → bytes_of image (part_at r image place i) ≡ take p.length (drop p.place.0 image)
  pub begin : (r : Rules) (image : List ℕ) (place i : ℕ) (p : Part) (at : ℕ × ℕ) → part_at r image place i ≡ given p → begin_of at (part_at r image place i) ≡ (at.0, p.place.0 + at.1)
  -- where refused there are none
  pub none : (r : Rules) (image : List ℕ) (place i number : ℕ) (carried : Carried) → part_at r image place i ≡ refused number carried → bytes_of image (part_at r image place i) ≡ []

-- An image and a place in it: the directory there, its entries and their bytes; and what a view of a level holds. Assumes nothing: these are definitions.
use Rattle.std.specs.Prelude.{ℕ, List, []}
use Rattle.reply.specs.Reply.{Reply, given, refused, then}
use Rattle.window.specs.Window.{within}
use Rattle.window.specs.declared.Offset.{Offset}
use Rattle.directory.specs.Directory.{directory_by_cookie}
use Rattle.entries.specs.Entry.{entry_in}
use Rattle.entries.specs.Part.{part_in}
use Rattle.directory.specs.declared.Directory.{Directory}
use Rattle.entries.specs.declared.Entry.{Entry}
use Rattle.entries.specs.declared.Part.{Part}
use Rattle.flash.specs.Flash.{flash_directory}
use Rattle.window.specs.Length.{sized}
use Rattle.efs.specs.declared.Rules.{Rules}

-- the directory at a place, checked again without the EFS
unfoldable pub check_at : Rules → (image : List ℕ) → (place : ℕ) → Reply Directory
check_at r image place =
    sized image  -- the image length (15)
    (within image place  -- place beyond the image (7)
    (directory_by_cookie r.kind r.limit image place))  -- the directory's checks, its level by the cookie

-- entry i of the directory at a place
abbrev pub entry_at : Rules → (image : List ℕ) → (place i : ℕ) → Reply Entry
entry_at r image place i = then (check_at r image place) (λ d. entry_in r.kind image d i)

-- where the bytes of entry i of the directory at a place lie
abbrev pub part_at : Rules → (image : List ℕ) → (place i : ℕ) → Reply Part
part_at r image place i = then (check_at r image place) (λ d. part_in r.kind r.window image d i)

-- what is held of an image: all of it where there is a directory, no bytes where it is refused
abbrev pub held_bytes : (image : List ℕ) → Reply Directory → List ℕ
held_bytes image (given d) = image
held_bytes image (refused number carried) = []

-- the place that is kept: where the directory begins, 0 where it is refused
abbrev pub held_place : Reply Directory → Offset
held_place (given d) = d.place
held_place (refused number carried) = record { 0 = 0 }

-- a view of the directory of a level: the lent image that it holds, and the place that it keeps
abbrev pub view_image : Rules → (level : ℕ) → (image : List ℕ) → List ℕ
view_image r level image = held_bytes image (flash_directory r level image)

abbrev pub view_place : Rules → (level : ℕ) → (image : List ℕ) → Offset
view_place r level image = held_place (flash_directory r level image)

-- the directory, entry i, and where its bytes lie, through a view of the directory of a level; each image has its rules, and the view goes by those of what it holds
abbrev pub check_through : (rules : List ℕ → Rules) → (level : ℕ) → (image : List ℕ) → Reply Directory
check_through rules level image = check_at (rules (view_image (rules image) level image)) (view_image (rules image) level image) (view_place (rules image) level image).0

abbrev pub entry_through : (rules : List ℕ → Rules) → (level : ℕ) → (image : List ℕ) → (i : ℕ) → Reply Entry
entry_through rules level image i = entry_at (rules (view_image (rules image) level image)) (view_image (rules image) level image) (view_place (rules image) level image).0 i

abbrev pub part_through : (rules : List ℕ → Rules) → (level : ℕ) → (image : List ℕ) → (i : ℕ) → Reply Part
part_through rules level image i = part_at (rules (view_image (rules image) level image)) (view_image (rules image) level image) (view_place (rules image) level image).0 i

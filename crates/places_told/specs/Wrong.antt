-- What `kpalumere_wrong` tells of a place is of the refusal that carries it. Assumes nothing: these are statements.
use Rattle.std.specs.Prelude.{ℕ, ◌≤◌, ◌≡◌, ◌⊎◌, List, true, length}
use Rattle.reply.specs.Reply.{Reply, Carried, given, refused, alone, tested, in_header, in_entry}
use Rattle.window.specs.Length.{length_allowed}
use Rattle.window.specs.Window.{four_gib}
use Rattle.directory.specs.Directory.{directory_at, directory_by_cookie}
use Rattle.directory.specs.Good.{GoodDirectory}
use Rattle.directory.specs.declared.Directory.{Directory}
use Rattle.entries.specs.Part.{part_in}
use Rattle.efs.specs.Rules.{rules_of}
use Rattle.efs.specs.declared.Rules.{Rules}
use Rattle.flash.specs.Flash.{flash_directory, flash_entry, flash_part, flash_find}
use Rattle.repeats.specs.Repeats.{flash_repeats}
use Rattle.walk.specs.Walk.{find_image}
use Rattle.all_directories.specs.AllDirectories.{flash_directories}
use Rattle.place.specs.Place.{check_at, entry_at, part_at}
use Rattle.version_words.specs.Versions.{version_in}
use Rattle.build.specs.declared.Fields.{Fields}
use Rattle.build.specs.Write.{extend_of}
use Rattle.wrong.specs.Wrong.{header_wrong, entry_wrong, wrong_at}

-- asked of the place that a refusal carries, the call tells that refusal's field, by its number; of a header whatever the index is
abbrev pub Answered : Rules → (image : List ℕ) → (number : ℕ) → Carried → Type 0
Answered r image number alone = Unit {0}
Answered r image number (tested count) = Unit {0}
Answered r image number (in_header level o) = (i : ℕ) → wrong_at r image o level i ≡ given (header_wrong r image number level o)
Answered r image number (in_entry level i o) = wrong_at r image o level i ≡ given (entry_wrong r image number i o)

-- so it is of what a reply carries
abbrev pub Answers : {A : Type 0} → Rules → (image : List ℕ) → Reply A → Type 0
Answers r image reply = (number : ℕ) (carried : Carried) → reply ≡ refused number carried → Answered r image number carried

-- the checks, of a directory within the image, and the location of an entry of a good one
pub record ChecksAnswered (r : Rules) (image : List ℕ) : Type 0 where
  pub directory : (level o : ℕ) → (level ≡ 1) ⊎ (level ≡ 2) → o ≤ length image → Answers r image (directory_at r.kind r.limit level image o)
  pub cookie : (o : ℕ) → o ≤ length image → Answers r image (directory_by_cookie r.kind r.limit image o)
  pub part : (d : Directory) (i : ℕ) → GoodDirectory r.kind r.limit image d → Answers r image (part_in r.kind r.window image d i)

-- the calls
pub record CallsAnswered (r : Rules) (image : List ℕ) : Type 0 where
  pub directory : (level : ℕ) → Answers r image (flash_directory r level image)
  pub entry : (level i : ℕ) → Answers r image (flash_entry r level image i)
  pub part : (level i : ℕ) → Answers r image (flash_part r level image i)
  pub repeats : (level : ℕ) → Answers r image (flash_repeats r level image)
  pub lookup : (level class sub : ℕ) → Answers r image (flash_find r level image class sub)
  pub image_lookup : (class sub : ℕ) → Answers r image (find_image r image class sub)
  pub directories : Answers r image (flash_directories r image)
  pub at_place : (place : ℕ) → Answers r image (check_at r image place)
  pub entry_at_lem : (place i : ℕ) → Answers r image (entry_at r image place i)
  pub part_at_lem : (place i : ℕ) → Answers r image (part_at r image place i)
  pub version : (level i : ℕ) → Answers r image (version_in image (flash_part r level image i))
  pub version_at : (place i : ℕ) → Answers r image (version_in image (part_at r image place i))

-- ---- all of it, in every image of a length that is allowed
pub record PlacesAnswered : Type 0 where
  pub checks : (r : Rules) (image : List ℕ) → length_allowed image ≡ true → ChecksAnswered r image
  -- by rules with a window that fits below 4 GiB, of a kind whose leads are no values
  pub calls : (r : Rules) (image : List ℕ) → length_allowed image ≡ true → r.window ≤ four_gib → (r.kind.lead ≡ r.kind.value → ⊥) → CallsAnswered r image
  -- by the rules of that image, as the call is asked, and so of an extend
  pub document : (image : List ℕ) → length_allowed image ≡ true → CallsAnswered (rules_of image) image
  pub extend : (f : Fields) (image : List ℕ) → length_allowed image ≡ true → Answers (rules_of image) image (extend_of f image)

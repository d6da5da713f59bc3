-- Of an image of 16,777,216 bytes every call answers as it did before request 02. Assumes nothing: these are statements.
use Rattle.std.specs.Prelude.{ℕ, ◌≡◌, List, length}
use Rattle.efs.specs.Rules.{rules_of, base_rules}
use Rattle.efs.specs.Efs.{flash_efs, flash_pointer}
use Rattle.flash.specs.Flash.{flash_directory, flash_entry, flash_part, flash_find}
use Rattle.walk.specs.Walk.{find_image}
use Rattle.repeats.specs.Repeats.{flash_repeats}
use Rattle.place.specs.Place.{check_at, entry_at, part_at, view_image, view_place}

-- the length of which nothing changes
abbrev pub unchanged : ℕ
unchanged = 16_777_216

-- the reading before request 02 is that by `base_rules`: the same definitions, with one window for images of every length
pub record AsBefore (image : List ℕ) : Type 0 where
  -- the rules are the same, and so is whatever is read by them: each call
  pub rules : rules_of image ≡ base_rules
  pub efs : flash_efs (rules_of image) image ≡ flash_efs base_rules image
  pub pointer : flash_pointer (rules_of image) image ≡ flash_pointer base_rules image
  pub directory : (level : ℕ) → flash_directory (rules_of image) level image ≡ flash_directory base_rules level image
  pub entry : (level i : ℕ) → flash_entry (rules_of image) level image i ≡ flash_entry base_rules level image i
  pub part : (level i : ℕ) → flash_part (rules_of image) level image i ≡ flash_part base_rules level image i
  pub find : (level class sub : ℕ) → flash_find (rules_of image) level image class sub ≡ flash_find base_rules level image class sub
  pub find_image_lem : (class sub : ℕ) → find_image (rules_of image) image class sub ≡ find_image base_rules image class sub
  pub repeated : (level : ℕ) → flash_repeats (rules_of image) level image ≡ flash_repeats base_rules level image
  pub view_image_lem : (level : ℕ) → view_image (rules_of image) level image ≡ view_image base_rules level image
  pub view_place_lem : (level : ℕ) → view_place (rules_of image) level image ≡ view_place base_rules level image
  pub place : (place : ℕ) → check_at (rules_of image) image place ≡ check_at base_rules image place
  pub place_entry : (place i : ℕ) → entry_at (rules_of image) image place i ≡ entry_at base_rules image place i
  pub place_part : (place i : ℕ) → part_at (rules_of image) image place i ≡ part_at base_rules image place i

abbrev pub SixteenMiB : Type 0
SixteenMiB = (image : List ℕ) → length image ≡ unchanged → AsBefore image

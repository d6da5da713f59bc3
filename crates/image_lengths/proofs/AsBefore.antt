-- Of an image of 16,777,216 bytes every call answers as it did before request 02. Assumes nothing.
use Prim.Native.Nat.{ℕ}
use mathlib.Core.Path.{◌≡◌, ap}
use mathlib.Core.List.{List}
use lib.ListN.{length}
use Rattle.efs.specs.declared.Rules.{Rules}
use Rattle.efs.specs.Rules.{rules_through, rules_of, base_rules}
use Rattle.efs.specs.Efs.{flash_efs, flash_pointer}
use Rattle.flash.specs.Flash.{flash_directory, flash_entry, flash_part, flash_find}
use Rattle.walk.specs.Walk.{find_image}
use Rattle.repeats.specs.Repeats.{flash_repeats}
use Rattle.place.specs.Place.{check_at, entry_at, part_at, view_image, view_place}
use Rattle.image_lengths.specs.AsBefore.{unchanged, AsBefore, SixteenMiB}

module _ (image : List ℕ) (long : length image ≡ unchanged) where
  rules : rules_of image ≡ base_rules
  rules = ap rules_through long

  -- whatever is read by the rules
  same : {A : Type 0} (call : Rules → A) → call (rules_of image) ≡ call base_rules
  same call = ap call rules

  as_before : AsBefore image
  as_before = record {
    rules = rules;
    efs = same (λ r. flash_efs r image);
    pointer = same (λ r. flash_pointer r image);
    directory = λ level. same (λ r. flash_directory r level image);
    entry = λ level i. same (λ r. flash_entry r level image i);
    part = λ level i. same (λ r. flash_part r level image i);
    find = λ level class sub. same (λ r. flash_find r level image class sub);
    find_image_lem = λ class sub. same (λ r. find_image r image class sub);
    repeated = λ level. same (λ r. flash_repeats r level image);
    view_image_lem = λ level. same (λ r. view_image r level image);
    view_place_lem = λ level. same (λ r. view_place r level image);
    place = λ place. same (λ r. check_at r image place);
    place_entry = λ place i. same (λ r. entry_at r image place i);
    place_part = λ place i. same (λ r. part_at r image place i);
  }

pub sixteen_mib : SixteenMiB
sixteen_mib image long = as_before image long

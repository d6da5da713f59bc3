-- Where an entry of level one leads, told by the bytes. Assumes nothing: these are statements.
use Rattle.std.specs.Prelude.{ℕ, ◌<◌, ◌≤◌, ◌≡◌, List, length}
use Rattle.reply.specs.Reply.{Carried, given, refused, in_entry}
use Rattle.window.specs.Window.{four_gib}
use Rattle.directory.specs.declared.Directory.{Directory}
use Rattle.directory.specs.Directory.{directory_at}
use Rattle.directory.specs.Good.{GoodDirectory}
use Rattle.entries.specs.Entry.{entry_of}
use Rattle.entries.specs.Good.{BeginsAt}
use Rattle.efs.specs.declared.Rules.{Rules}
use Rattle.walk_places.specs.Places.{led_to}

-- why what entry i of a directory leads to is refused, with which number, and what that carries
pub data WhyFault (r : Rules) (image : List ℕ) (d : Directory) (i number : ℕ) (carried : Carried) : Type 0 where
  -- mode 3: 16, in the entry
  no_mode : (entry_of r.kind image d i).mode ≡ 3 → number ≡ 16 → carried ≡ in_entry d.level i d.place.0 → WhyFault r image d i number carried
  -- it begins nowhere, or beyond the image: 7, in the entry
  outside : ((entry_of r.kind image d i).mode ≡ 3 → ⊥) → ((place : ℕ) → BeginsAt r.window d.place.0 (entry_of r.kind image d i) place → length image < place) → number ≡ 7 →
      carried ≡ in_entry d.level i d.place.0 → WhyFault r image d i number carried
  -- it begins within the image, where no directory of level two is good: the number of its checks, and where they met it
  bad_directory : (place : ℕ) → BeginsAt r.window d.place.0 (entry_of r.kind image d i) place → place ≤ length image →
      directory_at r.kind r.limit 2 image place ≡ refused number carried → WhyFault r image d i number carried

-- by rules with a window that fits below 4 GiB
pub record LeadTold (r : Rules) (image : List ℕ) (d : Directory) (i : ℕ) : Type 0 where
  -- it leads to a directory exactly where that is good and begins where the location says
  pub given_only : (n : Directory) → led_to r image d i ≡ given n →
      BeginsAt r.window d.place.0 (entry_of r.kind image d i) n.place.0 × GoodDirectory r.kind r.limit image n × (n.level ≡ 2)
  pub given_all : (n : Directory) → BeginsAt r.window d.place.0 (entry_of r.kind image d i) n.place.0 → GoodDirectory r.kind r.limit image n → n.level ≡ 2 →
      led_to r image d i ≡ given n
  -- it is refused exactly for a reason, with that number and what it carries
  pub refused_only : (number : ℕ) (carried : Carried) → led_to r image d i ≡ refused number carried → WhyFault r image d i number carried
  pub refused_all : (number : ℕ) (carried : Carried) → WhyFault r image d i number carried → led_to r image d i ≡ refused number carried

abbrev pub LeadsTold : Type 0
LeadsTold = (r : Rules) (image : List ℕ) (d : Directory) (i : ℕ) → r.window ≤ four_gib → LeadTold r image d i

-- What the calls on a whole image pass on is right by the bytes. Assumes nothing.
use mathlib.Core.Path.{◌≡◌, sym, ◌∙◌}
use mathlib.Core.Logic.{◌⊎◌, inl, inr}
use mathlib.Core.List.{List}
use Prim.Native.Nat.{ℕ, ◌≤◌}
use Rattle.reply.specs.Reply.{Carried, given, refused}
use Rattle.reply.proofs.ReplyLaws.{clash}
use Rattle.window.specs.Window.{four_gib}
use Rattle.directory.specs.declared.Directory.{Directory}
use Rattle.efs.specs.declared.Rules.{Rules}
use Rattle.flash.specs.Flash.{flash_directory}
use Rattle.walk.specs.Walk.{walk_of, first_in, find_image}
use Rattle.walk_places.specs.Places.{FaultAt, all_spots}
use Rattle.walk_places.specs.Lookup.{Answered, matched, faulty, ended}
use Rattle.walk_places.proofs.Lookup.{image_lookup_by_places}
use Rattle.all_directories.specs.AllDirectories.{entered_in, flash_directories}
use Rattle.all_directories_told.proofs.Told.{all_directories_told_lem}
use Rattle.places_told.specs.Told.{WalkFault, of_level_one, of_a_lead, Counted}
use Rattle.places_told.proofs.Refused.{refusal, then_stopped}
use Rattle.places_told.proofs.Parts.{led_only}
use Rattle.places_told.proofs.Flash.{directory_fault, lookup_fault}

module _ (r : Rules) (s : List ℕ) (n : ℕ) (c : Carried) (fits : r.window ≤ four_gib) where
  -- what a lead of level one leads to
  lead_fault : (d : Directory) (i : ℕ) → flash_directory r 1 s ≡ given d → FaultAt r s d i n c → WalkFault r s n c
  lead_fault d i e f = of_a_lead d i e f.inside f.lead (led_only r fits s d i n c f.fault)

  pub image_fault : (class sub : ℕ) → find_image r s class sub ≡ refused n c → Counted n c ⊎ WalkFault r s n c
  image_fault class sub e =
      lookup_fault r 1 s n c fits (λ d. first_in r.kind s class sub (walk_of 1 r s d) 0) of_level_one (λ d q x. by d q (image_lookup_by_places.holds.answers r s class sub d q).answered) e
    where
      by : (d : Directory) → flash_directory r 1 s ≡ given d → Answered r s d class sub (find_image r s class sub) → Counted n c ⊎ WalkFault r s n c
      by d q (matched p f w x) = clash (sym e ∙ x)
      by d q (faulty i m v w x) = inr (lead_fault d i q (record { inside = w.here.inside; lead = w.here.lead; fault = w.here.fault ∙ refusal (sym x ∙ e) }))
      by d q (ended w x) = let y = sym x ∙ e in inl (sym (cc y), (all_spots r s d, sym (cc y)))

  pub directories_fault : flash_directories r s ≡ refused n c → WalkFault r s n c
  directories_fault e =
      then_stopped (flash_directory r 1 s) (λ d. entered_in (walk_of 1 r s d) 0) e (λ q. of_level_one (directory_fault r 1 s n c fits q))
      (λ d q x. let w = (all_directories_told_lem.holds.answers r s d q).fault_only n c e in lead_fault d w.0 q w.1.here)

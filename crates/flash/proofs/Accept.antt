-- The directory of a level is given exactly where it is good. Assumes nothing.
use mathlib.Core.Path.{◌≡◌, sym, ap, subst, ◌∙◌}
use mathlib.Core.List.{List}
use Prim.Native.Nat.{ℕ, ◌≤◌}
use native.Mathlib.Omega.{arith}
use lib.ListN.{length}
use Rattle.reply.specs.Reply.{Reply, given, in_entry, then, met}
use Rattle.reply.proofs.ReplyLaws.{then_given}
use Rattle.window.specs.Window.{four_gib}
use Rattle.window.specs.declared.Offset.{Offset}
use Rattle.directory.specs.Directory.{directory_at}
use Rattle.entries.specs.Entry.{entry_of}
use Rattle.entries.specs.Part.{leads_to}
use Rattle.directory.specs.Good.{GoodDirectory}
use Rattle.entries.specs.Good.{BeginsAt}
use Rattle.directory.specs.declared.Directory.{Directory}
use Rattle.entries.specs.declared.Lead.{Lead}
use Rattle.directory.proofs.Accept.{acceptance}
use Rattle.entries.proofs.Lowest.{lowest_lead}
use Rattle.entries.proofs.PartAccept.{two_bits, lead_fact, lead_given}
use Rattle.efs.specs.Efs.{pointer_in}
use Rattle.window.specs.Inside.{GoodLength}
use Rattle.efs.specs.Good.{GoodPointer}
use Rattle.efs.specs.declared.Rules.{Rules}
use Rattle.efs.specs.declared.Pointer.{Pointer}
use Rattle.efs.proofs.Accept.{pointer_acceptance}
use Rattle.flash.specs.Flash.{level_one, level_two_at, level_two, flash_directory}
use Rattle.flash.specs.Good.{GoodOne, GoodTwo, GoodLevel, of_one, of_two, LevelsAccepted}
use Rattle.flash.proofs.Ways.{Opened, one, two, opened, open_one, open_two, led_given}

-- a directory begins within the image
begins : (r : Rules) (s : List ℕ) (d : Directory) → GoodDirectory r.kind r.limit s d → d.place.0 ≤ length s
begins r s d g = let p = g.present in omega arith

module _ (r : Rules) (s : List ℕ) (d : Directory) where
  at_level : (level : ℕ) → d.level ≡ level → GoodDirectory r.kind r.limit s d → directory_at r.kind r.limit level s d.place.0 ≡ given d
  at_level level q g = ap (λ (l : ℕ). directory_at r.kind r.limit l s d.place.0) (sym q) ∙ acceptance.all r.kind r.limit s d g

  only_one : r.window ≤ four_gib → level_one r s ≡ given d → GoodOne r s d
  only_one fits e =
      let t = then_given (pointer_in r s) (λ p. directory_at r.kind r.limit 1 s p.place.0) e in
      let g = acceptance.only r.kind r.limit 1 s t.0.place.0 d t.2 in
      record { pointer = subst (GoodPointer r s) (sym g.1) (pointer_acceptance.only r s t.0 fits t.1).0; directory = g.0; level = g.2 }

  all_one : r.window ≤ four_gib → GoodOne r s d → level_one r s ≡ given d
  all_one fits g =
      let p = pointer_acceptance.all r s d.place.0 fits g.pointer (begins r s d g.directory) in
      ap (λ (x : Reply Pointer). then x (λ p. directory_at r.kind r.limit 1 s p.place.0)) p.1
      ∙ ap (directory_at r.kind r.limit 1 s) p.2
      ∙ at_level 1 g.level g.directory

module _ (r : Rules) (fits : r.window ≤ four_gib) (s : List ℕ) (d above : Directory) where
  only_two : level_one r s ≡ given above → level_two r s above ≡ given d → GoodTwo r s d
  only_two a e =
      let t = led_given r s above d e in
      let i = t.0.index in
      let l = lowest_lead.found_only r.kind s above t.0 t.1 in
      let g = acceptance.only r.kind r.limit 2 s t.2.0 d t.4 in
      let q : leads_to r.window s above.place.0 (entry_of r.kind s above i) ≡ given t.2 = ap (leads_to r.window s above.place.0) l.1 ∙ t.3 in
      let b = lead_fact r.window fits s above.place.0 (entry_of r.kind s above i) t.2 (two_bits s _) q in
      record { above = above; one = only_one r s above fits a; lead = i; leads = l.0; begins = subst (BeginsAt r.window above.place.0 (entry_of r.kind s above i)) (sym g.1) b.0; directory = g.0; level = g.2 }

all_two : (r : Rules) (fits : r.window ≤ four_gib) (s : List ℕ) (d : Directory) (g : GoodTwo r s d) → level_two r s g.above ≡ given d
all_two r fits s d g =
    ap (λ (x : Reply Lead). then x (λ l. level_two_at r s g.above l.index l.entry)) (lowest_lead.found r.kind s g.above g.lead g.leads)
    ∙ ap (λ (x : Reply Offset). then (met (in_entry g.above.level g.lead g.above.place.0) x) (λ p. directory_at r.kind r.limit 2 s p.0)) (lead_given r.window fits s g.above.place.0 (entry_of r.kind s g.above g.lead) d.place g.begins (begins r s d g.directory))
    ∙ at_level r s d 2 g.level g.directory

only_level : (r : Rules) (level : ℕ) (s : List ℕ) (d : Directory) → r.window ≤ four_gib → flash_directory r level s ≡ given d → GoodLength s × GoodLevel r s d level
only_level r level s d fits e = let o = opened r s d level e in (o.0, by o.1)
  where
    by : {l : ℕ} → Opened r s d l → GoodLevel r s d l
    by (one q) = of_one (only_one r s d fits q)
    by (two above a q) = of_two (only_two r fits s d above a q)

all_level : (r : Rules) (level : ℕ) (s : List ℕ) (d : Directory) → r.window ≤ four_gib → GoodLength s → GoodLevel r s d level → flash_directory r level s ≡ given d
all_level r level s d fits z g = by g
  where
    by : {l : ℕ} → GoodLevel r s d l → flash_directory r l s ≡ given d
    by (of_one g) = open_one r s d z (all_one r s d fits g)
    by (of_two g) = open_two r s d z g.above (all_one r s g.above fits g.one) (all_two r fits s d g)

pub levels_accepted : LevelsAccepted
levels_accepted r level s d fits = record { only = only_level r level s d fits; all = all_level r level s d fits }

-- What a directory that a flash image gives says of the checks before it, and back. Assumes nothing.
use mathlib.Core.Path.{◌≡◌, refl, sym, ap, ◌∙◌}
use mathlib.Core.List.{List}
use mathlib.Core.Bool.{Bool, true, false, cond}
use Prim.Native.Nat.{ℕ, ◌≤◌}
use native.Mathlib.Omega.{arith}
use borrow.Author.Tests.{leb-true, eqb-true, eqb-false}
use lib.Dec.{leb, eqb}
use Rattle.reply.specs.Reply.{Reply, given, in_entry, then, met}
use Rattle.reply.proofs.ReplyLaws.{past, then_given, met_given}
use Rattle.window.specs.declared.Offset.{Offset}
use Rattle.directory.specs.Directory.{directory_at}
use Rattle.entries.specs.Entry.{lead_in}
use Rattle.entries.specs.Part.{leads_to, part_in}
use Rattle.directory.specs.declared.Directory.{Directory}
use Rattle.entries.specs.declared.Lead.{Lead}
use Rattle.directory.proofs.Accept.{acceptance}
use Rattle.efs.specs.Efs.{pointer_in}
use Rattle.window.specs.Inside.{GoodLength}
use Rattle.window.specs.Length.{sized}
use Rattle.efs.specs.Rules.{rules_of}
use Rattle.efs.specs.declared.Rules.{Rules}
use Rattle.window.proofs.Length.{sized_passed, sized_past}
use Rattle.flash.specs.Flash.{level_one, level_two, level_of, flash_directory, flash_part}

-- the two ways to a directory
pub data Opened (r : Rules) (s : List ℕ) (d : Directory) : ℕ → Type 0 where
  one : level_one r s ≡ given d → Opened r s d 1
  two : (above : Directory) → level_one r s ≡ given above → level_two r s above ≡ given d → Opened r s d 2

module _ (r : Rules) (s : List ℕ) (d : Directory) where
  pub opened : (level : ℕ) → flash_directory r level s ≡ given d → GoodLength s × Opened r s d level
  unfolding flash_directory
  opened level e =
      let g = past (leb 1 level) _ _ _ e in
      let h = past (leb level 2) _ _ _ g.1 in
      let from : 1 ≤ level = leb-true _ _ g.0 in
      let to : level ≤ 2 = leb-true _ _ h.0 in
      let z = sized_past s (level_of r level s) h.1 in
      (z.0, by (eqb level 1) refl from to z.1)
    where
      by : (b : Bool) → eqb level 1 ≡ b → 1 ≤ level → level ≤ 2 → cond b (level_one r s) (then (level_one r s) (level_two r s)) ≡ given d → Opened r s d level
      by true q from to e = rw (eqb-true level 1 q) (one e)
      by false q from to e =
          let n : level ≡ 1 → ⊥ = eqb-false _ _ q in
          let l : level ≡ 2 = omega arith in
          let t = then_given (level_one r s) (level_two r s) e in
          rw l (two t.0 t.1 t.2)

  pub open_one : GoodLength s → level_one r s ≡ given d → flash_directory r 1 s ≡ given d
  unfolding flash_directory
  open_one z e = sized_passed s (level_one r s) z ∙ e

  pub open_two : GoodLength s → (above : Directory) → level_one r s ≡ given above → level_two r s above ≡ given d → flash_directory r 2 s ≡ given d
  unfolding flash_directory
  open_two z above e h = sized_passed s _ z ∙ ap (λ (x : Reply Directory). then x (level_two r s)) e ∙ h

-- the steps of a level two that is given: the lead, the place where it leads, the directory there
pub led_given : (r : Rules) (s : List ℕ) (above d : Directory) → level_two r s above ≡ given d →
    (l : Lead) × (lead_in r.kind s above ≡ given l) × (p : Offset) × (leads_to r.window s above.place.0 l.entry ≡ given p) × (directory_at r.kind r.limit 2 s p.0 ≡ given d)
led_given r s above d e =
    let k = then_given (lead_in r.kind s above) _ e in
    let p = then_given (met (in_entry above.level k.0.index above.place.0) (leads_to r.window s above.place.0 k.0.entry)) _ k.2 in
    (k.0, k.1, p.0, met_given _ (leads_to r.window s above.place.0 k.0.entry) p.1, p.2)

-- a directory that is given is small, and so is the image
pub opened_small : (r : Rules) (s : List ℕ) (d : Directory) (level : ℕ) → flash_directory r level s ≡ given d → GoodLength s × (d.total ≤ r.limit)
opened_small r s d level e = let o = opened r s d level e in (o.0, by o.1)
  where
    by : {l : ℕ} → Opened r s d l → d.total ≤ r.limit
    by (one q) =
        let t = then_given (pointer_in r s) (λ p. directory_at r.kind r.limit 1 s p.place.0) q in
        (acceptance.only r.kind r.limit 1 s t.0.place.0 d t.2).0.few
    by (two above a q) = let t = led_given r s above d q in (acceptance.only r.kind r.limit 2 s t.2.0 d t.4).0.few

-- the part of an entry of such a directory, by the rules of the image
pub part_led : (s : List ℕ) (level i : ℕ) (r : Rules) (d : Directory) → r ≡ rules_of s → given d ≡ flash_directory r level s → sized s (part_in r.kind r.window s d i) ≡ flash_part (rules_of s) level s i
part_led s level i r d e g =
    sized_passed s _ (opened_small r s d level (sym g)).0
    ∙ ap (λ (x : Reply Directory). then x (λ d. part_in r.kind r.window s d i)) g
    ∙ ap (λ (r : Rules). flash_part r level s i) e

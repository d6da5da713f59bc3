-- A directory that a flash image gives has no two entries of one type and subprogram; two are named where it is refused with 18. Assumes nothing.
use mathlib.Core.Path.{◌≡◌, refl, sym, ap, ◌∙◌}
use mathlib.Core.List.{List}
use mathlib.Core.Bool.{Bool, true, false, cond}
use Prim.Native.Nat.{ℕ, ◌<◌, ◌≤◌}
use native.Mathlib.Omega.{arith}
use borrow.Author.Tests.{leb-true, eqb-true, eqb-false}
use lib.Dec.{leb, eqb}
use Rattle.reply.specs.Reply.{Reply, Carried, given, refused, then, met}
use Rattle.reply.proofs.ReplyLaws.{past, then_given}
use Rattle.window.specs.declared.Offset.{Offset}
use Rattle.directory.specs.Directory.{directory_at}
use Rattle.directory.specs.Repeat.{repeated_at}
use Rattle.directory.specs.declared.Directory.{Directory}
use Rattle.directory.specs.declared.Repeat.{Repeat}
use Rattle.directory.proofs.Named.{names_both}
use Rattle.entries.specs.Entry.{lead_in, find_in}
use Rattle.entries.specs.Part.{leads_to}
use Rattle.entries.specs.Good.{Matches}
use Rattle.entries.specs.declared.Lead.{Lead}
use Rattle.entries.specs.declared.Match.{Match}
use Rattle.entries.proofs.Once.{no_repeats}
use Rattle.efs.specs.Efs.{pointer_in}
use Rattle.efs.specs.Rules.{rules_of}
use Rattle.efs.specs.Efs.{flash_pointer}
use Rattle.flash.specs.Flash.{level_one, level_two, level_two_at, flash_directory, from_lookup, flash_find}
use Rattle.efs.specs.declared.Pointer.{Pointer}
use Rattle.window.proofs.Length.{sized_passed, sized_past}
use Rattle.flash.proofs.Ways.{Opened, one, two, opened, led_given}
use Rattle.repeats.specs.Repeats.{repeats_one, repeats_led, repeats_below, repeats_two, flash_repeats}
use Rattle.repeats.specs.One.{OneOfEach}

-- where a directory that is given stands
given_at : (level : ℕ) (s : List ℕ) (d : Directory) → flash_directory (rules_of s) level s ≡ given d → (l : ℕ) × (o : ℕ) × (directory_at (rules_of s).kind 512 l s o ≡ given d)
given_at level s d e = by level (opened (rules_of s) s d level e).1
  where
    by : (l : ℕ) → Opened (rules_of s) s d l → (l : ℕ) × (o : ℕ) × (directory_at (rules_of s).kind 512 l s o ≡ given d)
    by l (one q) =
        let p = then_given (pointer_in (rules_of s) s) (λ p. directory_at (rules_of s).kind 512 1 s p.place.0) q in
        (1, p.0.place.0, p.2)
    by l (two above a q) = let t = led_given (rules_of s) s above d q in (2, t.2.0, t.4)

module _ (level : ℕ) (s : List ℕ) (d : Directory) (e : flash_directory (rules_of s) level s ≡ given d) where
  only_one : (class sub i j : ℕ) → i < d.total → j < d.total → Matches (rules_of s).kind s d class sub i → Matches (rules_of s).kind s d class sub j → i ≡ j
  only_one class sub i j = let w = given_at level s d e in no_repeats.once (rules_of s).kind 512 w.0 s w.1 d refl w.2 class sub i j

  only_match : (class sub : ℕ) (m : Match) → flash_find (rules_of s) level s class sub ≡ given m → (j : ℕ) → j < d.total → Matches (rules_of s).kind s d class sub j → j ≡ m.index
  only_match class sub m f =
      let w = given_at level s d e in
      no_repeats.the_match (rules_of s).kind 512 w.0 s w.1 d refl w.2 class sub m (sym (ap (λ (x : Reply Directory). then (from_lookup x) (λ d. find_in (rules_of s).kind s d class sub)) e) ∙ f)

-- where two entries are named
module _ (s : List ℕ) (r : Repeat) where
  named_one : repeats_one (rules_of s) s ≡ given r → (carried : Carried) × (flash_directory (rules_of s) 1 s ≡ refused 18 carried)
  unfolding flash_directory
  named_one e =
      let p = then_given (flash_pointer (rules_of s) s) (λ p. repeated_at (rules_of s).kind 512 1 s p.place.0) e in
      let z = sized_past s (pointer_in (rules_of s) s) p.1 in
      let n = names_both.only (rules_of s).kind 512 1 s p.0.place.0 r p.2 in
      (n.0, sized_passed s (level_one (rules_of s) s) z.0 ∙ ap (λ (x : Reply Pointer). then x (λ p. directory_at (rules_of s).kind 512 1 s p.place.0)) z.1 ∙ n.1)

  named_two : repeats_two (rules_of s) s ≡ given r → (carried : Carried) × (flash_directory (rules_of s) 2 s ≡ refused 18 carried)
  unfolding flash_directory
  named_two e =
      let t = then_given (flash_directory (rules_of s) 1 s) (repeats_below (rules_of s) s) e in
      let k = then_given (lead_in (rules_of s).kind s t.0) (repeats_led (rules_of s) s t.0) t.2 in
      let p = then_given (met _ (leads_to (rules_of s).window s t.0.place.0 k.0.entry)) (λ (place : Offset). repeated_at (rules_of s).kind 512 2 s place.0) k.2 in
      let n = names_both.only (rules_of s).kind 512 2 s p.0.0 r p.2 in
      let z = (opened (rules_of s) s t.0 1 t.1).0 in
      let first = sym (sized_passed s (level_one (rules_of s) s) z) ∙ t.1 in (
        n.0,
        sized_passed s (then (level_one (rules_of s) s) (level_two (rules_of s) s)) z
            ∙ ap (λ (x : Reply Directory). then x (level_two (rules_of s) s)) first
            ∙ ap (λ (x : Reply Lead). then x (λ l. level_two_at (rules_of s) s t.0 l.index l.entry)) k.1
            ∙ ap (λ (x : Reply Offset). then x (λ place. directory_at (rules_of s).kind 512 2 s place.0)) p.1
            ∙ n.1,
      )

  names : (level : ℕ) → flash_repeats (rules_of s) level s ≡ given r → (carried : Carried) × (flash_directory (rules_of s) level s ≡ refused 18 carried)
  unfolding flash_repeats
  names level e =
      let g = past (leb 1 level) _ _ _ e in
      let h = past (leb level 2) _ _ _ g.1 in
      by (eqb level 1) refl (leb-true _ _ g.0) (leb-true _ _ h.0) h.1
    where
      by : (b : Bool) → eqb level 1 ≡ b → 1 ≤ level → level ≤ 2 → cond b (repeats_one (rules_of s) s) (repeats_two (rules_of s) s) ≡ given r → (carried : Carried) × (flash_directory (rules_of s) level s ≡ refused 18 carried)
      by true q from to f = rw (eqb-true level 1 q) (named_one f)
      by false q from to f =
          let n : level ≡ 1 → ⊥ = eqb-false _ _ q in
          let l : level ≡ 2 = omega arith in
          rw l (named_two f)

pub one_of_each : OneOfEach
one_of_each = record { once = only_one; the_match = only_match; named = λ level s r. names s r level }

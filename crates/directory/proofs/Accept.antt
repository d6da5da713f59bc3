-- A directory is given exactly where it is good. Assumes nothing.
use mathlib.Core.Path.{◌≡◌, refl, sym, ap, subst, ◌∙◌}
use mathlib.Core.Logic.{◌⊎◌, inl, inr}
use mathlib.Core.List.{List}
use mathlib.Core.Bool.{Bool, true, false, not, cond}
use Prim.Native.Nat.{ℕ, ◌+◌, ◌≤◌}
use native.Mathlib.Omega.{arith}
use borrow.Author.Tests.{leb-true, eqb-true, eqb-false, not-true, le-leb, eq-eqb, ne_eqb}
use lib.ListN.{length}
use lib.Dec.{leb, eqb}
use Rattle.le.specs.Le.{le_at}
use Rattle.reply.specs.Reply.{Reply, given, refused, in_header}
use Rattle.reply.proofs.ReplyLaws.{past, passed, clash}
use Rattle.reply.proofs.ScanLaws.{scan_kept, scan_through}
use Rattle.directory.specs.Directory.{cookie_of, total_at, entry_place, checksum_at, reserved_zero, class_at, may_stand, may_repeat, entry_step, directory_of, directory_checks, directory_at, directory_by_cookie}
use Rattle.directory.specs.Good.{GoodEntry, First, GoodDirectory, Acceptance, CookieAcceptance}
use Rattle.directory.proofs.Heads.{first_fact, first_test}
use Rattle.directory.specs.declared.Kind.{Kind}
use Rattle.directory.specs.declared.Directory.{Directory}

-- the test of a misplaced lead, as a fact and back
module _ (kind : Kind) (level class : ℕ) where
  pub stand_fact : may_stand kind level class ≡ true → (level ≡ 1 → ⊥) → class ≡ kind.lead → ⊥
  stand_fact h l = eqb-false _ _ (not-true _ (rw (ne_eqb level 1 l) at h))

  pub stand_test : ((level ≡ 1 → ⊥) → class ≡ kind.lead → ⊥) → may_stand kind level class ≡ true
  stand_test h = by (eqb level 1) refl
    where
      by : (b : Bool) → eqb level 1 ≡ b → cond b true (not (eqb class kind.lead)) ≡ true
      by true q = refl
      by false q = ap not (ne_eqb _ _ (h (eqb-false _ _ q)))

module _ (kind : Kind) (level : ℕ) (s : List ℕ) where
  module _ (limit o : ℕ) where
    step_fact : (d : Directory) (i : ℕ) (rest : Reply Directory) → entry_step kind level s o i rest ≡ given d → (GoodEntry kind level s o i × First kind s o i) × (rest ≡ given d)
    step_fact d i rest e =
        let g = past (reserved_zero kind s o i) _ _ _ e in
        let h = past (may_stand kind level (class_at kind s o i)) _ _ _ g.1 in
        let f = past (may_repeat kind s o i) _ _ _ h.1 in
        ((record { reserved = eqb-true _ _ g.0; may_stand_lem = stand_fact kind level (le_at 1 s (entry_place kind o i + 0)) h.0 }, first_fact kind s o i f.0), f.1)

    step_pass : (i : ℕ) (rest : Reply Directory) → GoodEntry kind level s o i × First kind s o i → entry_step kind level s o i rest ≡ rest
    step_pass i rest g = passed _ _ _ _ (eq-eqb _ _ g.0.reserved) ∙ passed _ _ _ _ (stand_test kind level (le_at 1 s (entry_place kind o i + 0)) g.0.may_stand_lem) ∙ passed _ _ _ _ (first_test kind s o i g.1)

    only_checks : (level ≡ 1) ⊎ (level ≡ 2) → (d : Directory) → directory_checks kind limit level s o ≡ given d → GoodDirectory kind limit s d × (d.place.0 ≡ o) × (d.level ≡ level)
    unfolding directory_checks
    only_checks there d e =
        let n = total_at s o in
        let h1 = past (leb (o + 16) (length s)) _ _ _ e in
        let h2 = past (eqb (le_at 4 s (o + 0)) (cookie_of kind level)) _ _ _ h1.1 in
        let h3 = past (leb n limit) _ _ _ h2.1 in
        let h4 = past (leb (entry_place kind o n) (length s)) _ _ _ h3.1 in
        let h5 = past (eqb (le_at 4 s (o + 4)) (checksum_at kind s o n)) _ _ _ h4.1 in
        let h6 = past (eqb (le_at 4 s (o + 12)) 0) _ _ _ h5.1 in
        let w = scan_kept (entry_step kind level s o) (λ _. given (directory_of o level n)) (λ i. GoodEntry kind level s o i × First kind s o i) d (step_fact d) n 0 h6.1 in
        let q : directory_of o level n ≡ d = cc w.1 in
        subst (λ (d : Directory). GoodDirectory kind limit s d × (d.place.0 ≡ o) × (d.level ≡ level)) q (
          record {
            level = there;
            cookie = eqb-true _ _ h2.0;
            total = refl;
            few = leb-true _ _ h3.0;
            present = leb-true _ _ h4.0;
            checksum = eqb-true _ _ h5.0;
            reserved = eqb-true _ _ h6.0;
            entries = λ i l. (w.0 i (omega arith) (omega arith)).0;
            first = λ i l. (w.0 i (omega arith) (omega arith)).1;
          },
          refl,
          refl,
        )

-- a level is one or two exactly where its number is not refused
there_fact : (level : ℕ) → 1 ≤ level → level ≤ 2 → (level ≡ 1) ⊎ (level ≡ 2)
there_fact level a b = by (eqb level 1) refl
  where
    by : (t : Bool) → eqb level 1 ≡ t → (level ≡ 1) ⊎ (level ≡ 2)
    by true q = inl (eqb-true _ _ q)
    by false q = let n = eqb-false level 1 q in inr (omega arith)

pub there_from : (level : ℕ) → (level ≡ 1) ⊎ (level ≡ 2) → 1 ≤ level
there_from level (inl e) = omega arith
there_from level (inr e) = omega arith

pub there_to : (level : ℕ) → (level ≡ 1) ⊎ (level ≡ 2) → level ≤ 2
there_to level (inl e) = omega arith
there_to level (inr e) = omega arith

pub there_passed : (kind : Kind) (limit level : ℕ) (s : List ℕ) (o : ℕ) → (level ≡ 1) ⊎ (level ≡ 2) → directory_at kind limit level s o ≡ directory_checks kind limit level s o
there_passed kind limit level s o t = passed _ _ _ _ (le-leb _ _ (there_from level t)) ∙ passed _ _ _ _ (le-leb _ _ (there_to level t))

pub there_past : (kind : Kind) (limit level : ℕ) (s : List ℕ) (o : ℕ) (d : Directory) → directory_at kind limit level s o ≡ given d →
    ((level ≡ 1) ⊎ (level ≡ 2)) × (directory_checks kind limit level s o ≡ given d)
there_past kind limit level s o d e =
    let a = past (leb 1 level) _ _ _ e in
    let b = past (leb level 2) _ _ _ a.1 in
    (there_fact level (leb-true _ _ a.0) (leb-true _ _ b.0), b.1)

all_checks : (kind : Kind) (limit : ℕ) (s : List ℕ) (d : Directory) → GoodDirectory kind limit s d → directory_checks kind limit d.level s d.place.0 ≡ given d
unfolding directory_checks
all_checks kind limit s d g =
    let o = d.place.0 in
    let level = d.level in
    let head : o + 16 ≤ length s = let p = g.present in omega arith in
    simp (le-leb _ _ head, eq-eqb _ _ g.cookie, g.total, le-leb _ _ g.few, le-leb _ _ g.present, eq-eqb _ _ g.checksum, eq-eqb _ _ g.reserved)
    (scan_through (entry_step kind level s o) (λ _. given d) (λ i. GoodEntry kind level s o i × First kind s o i) (step_pass kind level s limit o) d.total 0 (λ j a b. (g.entries j (omega arith), g.first j (omega arith))))

pub only_good : (kind : Kind) (limit level : ℕ) (s : List ℕ) (o : ℕ) (d : Directory) → directory_at kind limit level s o ≡ given d →
    GoodDirectory kind limit s d × (d.place.0 ≡ o) × (d.level ≡ level)
only_good kind limit level s o d e = let t = there_past kind limit level s o d e in only_checks kind level s limit o t.0 d t.1

pub all_good : (kind : Kind) (limit : ℕ) (s : List ℕ) (d : Directory) → GoodDirectory kind limit s d → directory_at kind limit d.level s d.place.0 ≡ given d
all_good kind limit s d g = there_passed kind limit d.level s d.place.0 g.level ∙ all_checks kind limit s d g

pub acceptance : Acceptance
acceptance = record { only = only_good; all = all_good }

module _ (kind : Kind) (limit : ℕ) (s : List ℕ) where
  only_cookie : (o : ℕ) (d : Directory) → directory_by_cookie kind limit s o ≡ given d → GoodDirectory kind limit s d × (d.place.0 ≡ o)
  unfolding directory_by_cookie
  only_cookie o d e = one (eqb (le_at 4 s (o + 0)) kind.one) (past (leb (o + 16) (length s)) _ _ _ e).1
    where
      two : (b : Bool) → cond b (directory_at kind limit 2 s o) (refused 2 (in_header 0 o)) ≡ given d → GoodDirectory kind limit s d × (d.place.0 ≡ o)
      two true h = let g = only_good kind limit 2 s o d h in (g.0, g.1)
      two false h = clash h

      one : (b : Bool) → cond b (directory_at kind limit 1 s o) (cond (eqb (le_at 4 s (o + 0)) kind.two) (directory_at kind limit 2 s o) (refused 2 (in_header 0 o))) ≡ given d →
          GoodDirectory kind limit s d × (d.place.0 ≡ o)
      one true h = let g = only_good kind limit 1 s o d h in (g.0, g.1)
      one false h = two (eqb (le_at 4 s (o + 0)) kind.two) h

  all_cookie : (d : Directory) → (kind.one ≡ kind.two → ⊥) → GoodDirectory kind limit s d → directory_by_cookie kind limit s d.place.0 ≡ given d
  unfolding directory_by_cookie
  all_cookie d apart g = by g.level
    where
      head : d.place.0 + 16 ≤ length s
      head = let p = g.present in omega arith

      by : (d.level ≡ 1) ⊎ (d.level ≡ 2) → directory_by_cookie kind limit s d.place.0 ≡ given d
      by (inl e) =
          let c : le_at 4 s (d.place.0 + 0) ≡ kind.one = g.cookie ∙ ap (cookie_of kind) e in
          simp (le-leb _ _ head, eq-eqb _ _ c) (ap (λ (l : ℕ). directory_at kind limit l s d.place.0) (sym e) ∙ all_good kind limit s d g)
      by (inr e) =
          let c : le_at 4 s (d.place.0 + 0) ≡ kind.two = g.cookie ∙ ap (cookie_of kind) e in
          simp (le-leb _ _ head, ne_eqb (le_at 4 s (d.place.0 + 0)) kind.one (λ q. apart (sym q ∙ c)), eq-eqb _ _ c) (ap (λ (l : ℕ). directory_at kind limit l s d.place.0) (sym e) ∙ all_good kind limit s d g)

pub cookie_acceptance : CookieAcceptance
cookie_acceptance = record { only = only_cookie; all = all_cookie }

-- The directory pointer is given exactly where it is that of the first EFS that counts. Assumes nothing.
use mathlib.Core.Path.{◌≡◌, refl, sym, ap, subst, ◌∙◌}
use mathlib.Core.Logic.{inl, inr}
use mathlib.Core.List.{List}
use mathlib.Core.Bool.{Bool, true, false, not, ◌&&◌, ◌||◌, cond, and-eq-true_iff}
use Prim.Native.Nat.{ℕ, ◌+◌, ◌-◌, ◌≤◌}
use native.Mathlib.Omega.{arith}
use borrow.Author.Tests.{leb-true, leb-false, ltb-true, eqb-true, not-true, le-leb, lt-leb, lt-ltb, eq-eqb}
use lib.ListN.{length, get_or}
use lib.Dec.{leb, ltb, eqb}
use Rattle.le.specs.Field.{get}
use Rattle.reply.specs.Reply.{Reply, given, refused, alone, check, then}
use Rattle.reply.specs.Scan.{scan, Lowest}
use Rattle.reply.proofs.ReplyLaws.{past, clash, then_given, apart, either}
use Rattle.reply.proofs.ScanLaws.{scan_same}
use Rattle.reply.proofs.Lowest.{Searched, lowest, none, Decided, searched, lowest_found}
use Rattle.window.specs.Window.{four_gib, window_start, offset_in, within}
use Rattle.window.specs.Inside.{Shown}
use Rattle.window.proofs.Inside.{offset_shown, shown_offset}
use Rattle.window.specs.declared.Offset.{Offset}
use Rattle.efs.specs.Fields as efs
use Rattle.efs.specs.Efs.{counts, candidate_at, or_else, efs_step, efs_place, efs_at, efs_in, absent, pointer_to, pointer_from, pointer_of, pointer_in}
use Rattle.efs.specs.declared.Rules.{Rules}
use Rattle.efs.specs.declared.Pointer.{Pointer}
use Rattle.efs.specs.Good.{EfsAt, Absent, PointsTo, physical, flash, DirectoryPointer, late, early, GoodPointer, PointerAcceptance}

module _ (window : ℕ) (fits : window ≤ four_gib) (s : List ℕ) where
  -- where the window shows an address
  abbrev offset_by : ℕ → ℕ
  offset_by a = a - window_start window

  shown_by : (a o : ℕ) → Shown window a o → offset_by a ≡ o
  shown_by a o h = omega (arith, h.inside, h.counted)

  -- a candidate by one test
  abbrev efs_test : ℕ → Bool
  efs_test a = leb (window_start window) a && (leb a 0xFFFF_FFFF && counts s (offset_by a))

  candidate_is : (a : ℕ) (rest : Reply Offset) → or_else (candidate_at window s a) rest ≡ cond (efs_test a) (given (record { 0 = offset_by a })) rest
  unfolding candidate_at offset_in
  candidate_is a rest = by (leb (window_start window) a) (leb a 0xFFFF_FFFF) (counts s (offset_by a)) refl
    where
      by : (b c e : Bool) → counts s (offset_by a) ≡ e → or_else (then (check b 7 alone (check c 7 alone (given (record { 0 = offset_by a })))) (λ o. check (counts s o.0) 2 alone (given o))) rest
          ≡ cond (b && (c && e)) (given (record { 0 = offset_by a })) rest
      by true true true q = rw q
      by true true false q = rw q
      by true false e q = refl
      by false c e q = refl

  efs_says : (a : ℕ) → EfsAt window s a → efs_test a ≡ true
  efs_says a g =
      let h = g.shown in
      let low : window_start window ≤ a = omega (arith, h.inside, h.counted) in
      let high : a ≤ 0xFFFF_FFFF = omega (arith, h.inside, h.counted) in
      rw (le-leb _ _ low, le-leb _ _ high, shown_by a g.place h, le-leb _ _ g.present, eq-eqb _ _ g.signature)

  efs_holds : (a : ℕ) → efs_test a ≡ true → EfsAt window s a
  efs_holds a h =
      let x = (and-eq-true_iff (leb (window_start window) a) _).0 h in
      let y = (and-eq-true_iff (leb a 0xFFFF_FFFF) _).0 x.1 in
      let z = (and-eq-true_iff (leb (offset_by a + efs.bytes) (length s)) _).0 y.1 in
      let low : window_start window ≤ a = leb-true _ _ x.0 in
      let high : a ≤ 0xFFFF_FFFF = leb-true _ _ y.0 in
      record { place = offset_by a; shown = record { inside = omega arith; counted = omega arith }; present = leb-true _ _ z.0; signature = eqb-true _ _ z.1 }

  module _ (candidates : List ℕ) where
    abbrev Candidate : ℕ → Type 0
    Candidate j = EfsAt window s (get_or candidates j 0)

    abbrev at_candidate : ℕ → Reply Offset
    at_candidate j = given (record { 0 = offset_by (get_or candidates j 0) })

    abbrev decided : Decided Candidate
    decided = record { test = λ j. efs_test (get_or candidates j 0); says = λ j. efs_says (get_or candidates j 0); holds = λ j. efs_holds (get_or candidates j 0) }

    efs_is : efs_place window candidates s ≡ scan (λ j rest. cond (efs_test (get_or candidates j 0)) (at_candidate j) rest) (λ _. refused 2 alone) (length candidates) 0
    efs_is = scan_same (efs_step window candidates s) _ (λ _. refused 2 alone) (length candidates) 0 (λ j a b rest. candidate_is (get_or candidates j 0) rest)

    pub only_efs : (e : Offset) → efs_place window candidates s ≡ given e → (i : ℕ) × (l : Lowest Candidate (length candidates) i) × (l.here.place ≡ e.0)
    only_efs e q = by (searched Candidate decided at_candidate (λ _. refused 2 alone) (length candidates))
      where
        by : Searched Candidate at_candidate (λ _. refused 2 alone) (length candidates) (scan (λ j rest. cond (efs_test (get_or candidates j 0)) (at_candidate j) rest) (λ _. refused 2 alone) (length candidates) 0) →
            (i : ℕ) × (l : Lowest Candidate (length candidates) i) × (l.here.place ≡ e.0)
        by (lowest i l h) =
            let g : at_candidate i ≡ given e = sym (efs_is ∙ h) ∙ q in
            let o : offset_by (get_or candidates i 0) ≡ e.0 = cc g in
            (i, l, sym (shown_by (get_or candidates i 0) l.here.place l.here.shown) ∙ o)
        by (none f h) = clash (sym (efs_is ∙ h) ∙ q)

    pub all_efs : (i : ℕ) (l : Lowest Candidate (length candidates) i) → efs_place window candidates s ≡ given (record { 0 = l.here.place })
    all_efs i l =
        efs_is ∙ lowest_found Candidate decided at_candidate (λ _. refused 2 alone) (length candidates) i l
        ∙ ap (λ (x : ℕ). given (record { 0 = x })) (shown_by (get_or candidates i 0) l.here.place l.here.shown)

-- the test of an absent pointer, as a fact and back
absent_fact : (p : ℕ) → absent p ≡ true → Absent p
absent_fact p h = by (eqb p 0) refl h
  where
    by : (b : Bool) → eqb p 0 ≡ b → b || eqb p 0xFFFF_FFFF ≡ true → Absent p
    by true q h = inl (eqb-true _ _ q)
    by false q h = inr (eqb-true _ _ h)

absent_says : (p : ℕ) → Absent p → absent p ≡ true
absent_says p (inl q) = rw q
absent_says p (inr q) = rw q

present_says : (p : ℕ) → (Absent p → ⊥) → absent p ≡ false
present_says p f = by (absent p) refl
  where
    by : (b : Bool) → absent p ≡ b → b ≡ false
    by true q = absurd (f (absent_fact p q))
    by false q = refl

present_fact : (p : ℕ) → absent p ≡ false → Absent p → ⊥
present_fact p h a = apart (absent_says p a) h

module _ (window : ℕ) (fits : window ≤ four_gib) (s : List ℕ) where
  within_fact : (x o : Offset) → within s x.0 (given x) ≡ given o → (x.0 ≡ o.0) × (o.0 ≤ length s)
  within_fact x o e =
      let g = past (leb x.0 (length s)) _ _ _ e in
      let b : x.0 ≤ length s = leb-true _ _ g.0 in
      let q : x.0 ≡ o.0 = cc g.1 in
      (q, omega arith)

  pub pointer_fact : (p : ℕ) (o : Offset) → pointer_to window s p ≡ given o → PointsTo window p o.0 × (o.0 ≤ length s)
  unfolding pointer_to
  pointer_fact p o e =
      either (leb (window_start window) p) _ _ e
      (λ b x.
      let t = then_given (offset_in window p) (λ o. within s o.0 (given o)) x in
      let w = within_fact t.0 o t.2 in
      (physical (subst (Shown window p) w.0 (offset_shown window fits p t.0 t.1)), w.1))
      (λ b y. let g = past (ltb p window) _ _ _ y in let w = within_fact (record { 0 = p }) o g.1 in (flash (leb-false _ _ b) (ltb-true _ _ g.0) w.0, w.1))

  pointer_given : (p o : ℕ) → PointsTo window p o → o ≤ length s → pointer_to window s p ≡ given (record { 0 = o })
  unfolding pointer_to
  pointer_given p o (physical shown) h =
      let low : window_start window ≤ p = omega (arith, shown.inside, shown.counted) in
      simp (le-leb _ _ low, shown_offset window fits p (record { 0 = o }) shown, le-leb _ _ h)
  pointer_given p o (flash f t q) h =
      let b : p ≤ length s = omega arith in
      simp (lt-leb _ _ f, lt-ltb _ _ t, le-leb _ _ b) (ap (λ (x : ℕ). given (record { 0 = x })) q)

  -- a pointer that stands in a field
  from_fact : (field v : ℕ) (p : Pointer) → pointer_from window s field v ≡ given p → PointsTo window v p.place.0 × (p.place.0 ≤ length s)
  from_fact field v p e =
      let t = then_given (pointer_to window s v) (λ o. given (record { field = field; value = v; place = o })) e in
      subst (λ (o : Offset). PointsTo window v o.0 × (o.0 ≤ length s)) (let h = t.2 in cc) (pointer_fact v t.0 t.1)

  pointers_fact : (e : Offset) (p : Pointer) → pointer_of window s (efs_at s e) ≡ given p → DirectoryPointer window s e.0 p.place.0 × (p.place.0 ≤ length s)
  unfolding pointer_of
  pointers_fact e p h =
      let l = get efs.late s e.0 in
      let m = get efs.early s e.0 in
      either (absent l) _ _ h
      (λ b x. let g = past (not (absent m)) _ _ _ x in let f = from_fact 0x10 m p g.1 in (early (absent_fact l b) (present_fact m (not-true _ g.0)) f.0, f.1))
      (λ b y. let f = from_fact 0x14 l p y in (late (present_fact l b) f.0, f.1))

  pointers_given : (e : Offset) (o : ℕ) → DirectoryPointer window s e.0 o → o ≤ length s → (p : Pointer) × (pointer_of window s (efs_at s e) ≡ given p) × (p.place.0 ≡ o)
  unfolding pointer_of
  pointers_given e o (late f p) h = (record { field = 0x14; value = get efs.late s e.0; place = record { 0 = o } }, simp (present_says _ f, pointer_given _ o p h), refl)
  pointers_given e o (early a f p) h = (record { field = 0x10; value = get efs.early s e.0; place = record { 0 = o } }, simp (absent_says _ a, present_says _ f, pointer_given _ o p h), refl)

module _ (r : Rules) (s : List ℕ) where
  only_pointer : (p : Pointer) → r.window ≤ four_gib → pointer_in r s ≡ given p → GoodPointer r s p.place.0 × (p.place.0 ≤ length s)
  only_pointer p fits e =
      let u = then_given (efs_in r s) (pointer_of r.window s) e in
      let v = then_given (efs_place r.window r.candidates s) (λ o. given (efs_at s o)) u.1 in
      let f = only_efs r.window fits s r.candidates v.0 v.1 in
      let is : efs_at s v.0 ≡ u.0 = let h = v.2 in cc in
      let q = pointers_fact r.window fits s v.0 p (ap (pointer_of r.window s) is ∙ u.2) in
      (record { candidate = f.0; efs = f.1; pointer = subst (λ (e : ℕ). DirectoryPointer r.window s e p.place.0) (sym f.2) q.0 }, q.1)

  all_pointer : (o : ℕ) → r.window ≤ four_gib → GoodPointer r s o → o ≤ length s → (p : Pointer) × (pointer_in r s ≡ given p) × (p.place.0 ≡ o)
  all_pointer o fits g h =
      let q = pointers_given r.window fits s (record { 0 = g.efs.here.place }) o g.pointer h in
      (q.0, ap (λ (x : Reply Offset). then (then x (λ o. given (efs_at s o))) (pointer_of r.window s)) (all_efs r.window fits s r.candidates g.candidate g.efs) ∙ q.1, q.2)

pub pointer_acceptance : PointerAcceptance
pointer_acceptance = record { only = only_pointer; all = all_pointer }

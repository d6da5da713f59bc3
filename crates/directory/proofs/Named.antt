-- Two entries are named exactly where a directory is refused with 18. Assumes nothing.
use mathlib.Core.Path.{◌≡◌, refl, sym, ap, ◌∙◌}
use mathlib.Core.List.{List}
use mathlib.Core.Bool.{Bool, true, false, not, cond, ◌||◌, and-eq-true_iff}
use Prim.Native.Nat.{ℕ, zero, suc, ◌+◌, ◌<◌, ◌≤◌}
use native.Mathlib.Omega.{arith}
use borrow.Author.Tests.{eqb-true, eq-eqb, leb-true, ltb-true}
use lib.ListN.{length}
use lib.Dec.{leb, eqb}
use Rattle.le.specs.Le.{le_at}
use Rattle.reply.specs.Reply.{Reply, Carried, given, refused, in_entry, check}
use Rattle.reply.specs.Scan.{scan}
use Rattle.reply.specs.Some.{some_below, first_below}
use Rattle.reply.proofs.ReplyLaws.{clash, apart}
use Rattle.reply.proofs.SomeLaws.{some_true, some_first, first_found, none_below}
use Rattle.directory.specs.Directory.{cookie_of, total_at, entry_place, checksum_at, class_at, reserved_zero, may_stand, same_entry, repeats_earlier, may_repeat, entry_step, directory_of, entries_at, directory_checks, directory_at}
use Rattle.directory.specs.Repeat.{earlier_of, repeat_in, named_by, repeated_at}
use Rattle.directory.specs.Good.{Alike, FirstRepeat, NamesBoth}
use Rattle.directory.specs.declared.Kind.{Kind}
use Rattle.directory.specs.declared.Directory.{Directory}
use Rattle.directory.specs.declared.Repeat.{Repeat}

-- a refusal with 18 is not of a check with another number
past_18 : {A : Type 0} {c : Carried} (b : Bool) (number : ℕ) (here : Carried) (rest : Reply A) → (number ≡ 18 → ⊥) → check b number here rest ≡ refused 18 c → (b ≡ true) × (rest ≡ refused 18 c)
past_18 true number here rest n e = (refl, e)
past_18 false number here rest n e = absurd (n (let z : number ≡ 18 = cc in z))

module _ (kind : Kind) (level : ℕ) (s : List ℕ) (o : ℕ) (c : Carried) where
  -- some entry stops the entries with 18
  stopped : (last : ℕ → Reply Directory) → ((i : ℕ) → last i ≡ refused 18 c → ⊥) → (m i : ℕ) → scan (entry_step kind level s o) last m i ≡ refused 18 c →
      (k : ℕ) × (i ≤ k) × (k < i + m) × (may_repeat kind s o k ≡ false)
  unfolding scan
  stopped last never zero i e = absurd (never i e)
  stopped last never (suc m) i e =
      let reserved = past_18 (reserved_zero kind s o i) 5 _ _ (λ z. omega arith) e in
      let stands = past_18 (may_stand kind level (class_at kind s o i)) 14 _ _ (λ z. omega arith) reserved.1 in
      by (may_repeat kind s o i) refl stands.1 (stopped last never m (i + 1))
    where
      by : (b : Bool) → may_repeat kind s o i ≡ b → check b 18 (in_entry level i o) (scan (entry_step kind level s o) last m (i + 1)) ≡ refused 18 c →
          (scan (entry_step kind level s o) last m (i + 1) ≡ refused 18 c → (k : ℕ) × (i + 1 ≤ k) × (k < i + 1 + m) × (may_repeat kind s o k ≡ false)) → (k : ℕ) × (i ≤ k) × (k < i + suc m) × (may_repeat kind s o k ≡ false)
      by true q f r = let w = r f in let l = w.1 in let h = w.2 in (w.0, omega arith, omega arith, w.3)
      by false q f r = (i, omega arith, omega arith, q)

-- so it repeats an earlier one
not_may : (a b : Bool) → (a || not b) ≡ false → b ≡ true
not_may true b e = apart refl e
not_may false true e = refl
not_may false false e = apart refl e

module _ (kind : Kind) (limit level : ℕ) (s : List ℕ) (o : ℕ) (c : Carried) where
  -- a directory that is refused with 18 has its entries in the image, and one of them stops it
  at_entries : directory_at kind limit level s o ≡ refused 18 c → (entry_place kind o (total_at s o) ≤ length s) × (entries_at kind level s o (total_at s o) ≡ refused 18 c)
  unfolding directory_checks
  at_entries e =
      let n = total_at s o in
      let e0 = past_18 (leb level 2) 9 _ _ (λ z. omega arith) (past_18 (leb 1 level) 9 _ _ (λ z. omega arith) e).1 in
      let e1 = past_18 (leb (o + 16) (length s)) 1 _ _ (λ z. omega arith) e0.1 in
      let e2 = past_18 (eqb (le_at 4 s (o + 0)) (cookie_of kind level)) 2 _ _ (λ z. omega arith) e1.1 in
      let e3 = past_18 (leb n limit) 3 _ _ (λ z. omega arith) e2.1 in
      let e4 = past_18 (leb (entry_place kind o n) (length s)) 1 _ _ (λ z. omega arith) e3.1 in
      let e5 = past_18 (eqb (le_at 4 s (o + 4)) (checksum_at kind s o n)) 4 _ _ (λ z. omega arith) e4.1 in
      let e6 = past_18 (eqb (le_at 4 s (o + 12)) 0) 5 _ _ (λ z. omega arith) e5.1 in
      (leb-true _ _ e4.0, e6.1)

  pub entries_present : directory_at kind limit level s o ≡ refused 18 c → entry_place kind o (total_at s o) ≤ length s
  entries_present e = (at_entries e).0

  some_repeats : directory_at kind limit level s o ≡ refused 18 c → some_below (repeats_earlier kind s o) (total_at s o) ≡ true
  some_repeats e =
      let n = total_at s o in
      let w = stopped kind level s o c (λ _. given (directory_of o level n)) (λ i z. clash (sym z)) n 0 (at_entries e).1 in
      some_true (repeats_earlier kind s o) n w.0 (let l = w.2 in omega arith) (not_may kind.repeats (repeats_earlier kind s o w.0) w.3)

module _ (kind : Kind) (s : List ℕ) (o n : ℕ) where
  alike_fact : (i j : ℕ) → same_entry kind s o i j ≡ true → Alike kind s o i j
  alike_fact i j h = let g = (and-eq-true_iff (eqb (le_at 1 s (entry_place kind o j + 0)) (le_at 1 s (entry_place kind o i + 0))) _).0 h in (eqb-true _ _ g.0, eqb-true _ _ g.1)

  alike_test : (i j : ℕ) → Alike kind s o i j → same_entry kind s o i j ≡ true
  alike_test i j a = rw (eq-eqb _ _ a.0, eq-eqb _ _ a.1)

  first_repeat : some_below (repeats_earlier kind s o) n ≡ true → FirstRepeat kind s o n (repeat_in kind s o n).entry (repeat_in kind s o n).earlier
  first_repeat e =
      let i = first_below (repeats_earlier kind s o) n in
      let f = first_found (repeats_earlier kind s o) n in
      let inside : i < n = ltb-true i n (sym (some_first (repeats_earlier kind s o) n) ∙ e) in
      let g = first_found (same_entry kind s o i) i in
      let earlier : earlier_of kind s o i < i = ltb-true (earlier_of kind s o i) i (sym (some_first (same_entry kind s o i) i) ∙ f.here inside) in
      record {
        inside = inside;
        earlier = earlier;
        alike = alike_fact i (earlier_of kind s o i) (g.here earlier);
        none_before = λ k l a b h. apart (alike_test k l h) (none_below (same_entry kind s o k) k (f.before k a) l b);
      }

module _ (kind : Kind) (limit level : ℕ) (s : List ℕ) (o : ℕ) where
  only_named : (r : Repeat) → repeated_at kind limit level s o ≡ given r →
      (carried : Carried) × (directory_at kind limit level s o ≡ refused 18 carried) × FirstRepeat kind s o (total_at s o) r.entry r.earlier
  only_named r e = by (directory_at kind limit level s o) refl e
    where
      told : (number : ℕ) (c : Carried) → directory_at kind limit level s o ≡ refused number c → (b : Bool) → eqb number 18 ≡ b → cond b (given (repeat_in kind s o (total_at s o))) (refused number c) ≡ given r →
          (carried : Carried) × (directory_at kind limit level s o ≡ refused 18 carried) × FirstRepeat kind s o (total_at s o) r.entry r.earlier
      told number c q true t f =
          let n : number ≡ 18 = eqb-true number 18 t in
          let is : directory_at kind limit level s o ≡ refused 18 c = q ∙ ap (λ (x : ℕ). refused x c) n in
          let same : repeat_in kind s o (total_at s o) ≡ r = cc f in
          (c, is, rw (← same) (first_repeat kind s o (total_at s o) (some_repeats kind limit level s o c is)))
      told number c q false t f = clash f

      by : (d : Reply Directory) → directory_at kind limit level s o ≡ d → named_by kind s o d ≡ given r →
          (carried : Carried) × (directory_at kind limit level s o ≡ refused 18 carried) × FirstRepeat kind s o (total_at s o) r.entry r.earlier
      by (given d) q f = clash f
      by (refused number c) q f = told number c q (eqb number 18) refl f

  all_named : (carried : Carried) → directory_at kind limit level s o ≡ refused 18 carried → (r : Repeat) × (repeated_at kind limit level s o ≡ given r)
  all_named c e = (repeat_in kind s o (total_at s o), ap (named_by kind s o) e)

pub names_both : NamesBoth
names_both = record { only = only_named; all = all_named }

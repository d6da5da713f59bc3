-- The answer of a directory's entries, by the first that is at fault. Assumes nothing.
use mathlib.Core.Path.{◌≡◌, refl, sym, ap, ap₂, subst, ◌∙◌}
use mathlib.Core.List.{List}
use mathlib.Core.Bool.{Bool, true, false, not, cond, ◌&&◌, ◌||◌}
use Prim.Native.Nat.{ℕ, zero, suc, ◌+◌, ◌*◌, ◌-◌, ◌/◌, ◌%◌, ◌^◌, ◌<◌, ◌≤◌}
use native.Mathlib.Nat.{div-eq_of_lt, div-div-eq-div-mul, le-div_iff_mul-le, pow-le-pow_right}
use native.Mathlib.Omega.{arith}
use borrow.Author.Tests.{lt-ltb, ltb-true, ltb-false, eqb-true, eqb-false, eq-eqb, ne_eqb}
use Rattle.std.specs.Prelude.{Option, None, Some}
use Rattle.std.specs.Option.{MatchOption, unwrap_or}
use lib.Pow.{pow_pos}
use lib.Dec.{ltb, eqb}
use Rattle.le.specs.Le.{Bytes, bits_from}
use Rattle.reply.specs.Reply.{Reply, given, refused, in_entry}
use Rattle.reply.specs.Scan.{scan}
use Rattle.reply.specs.Some.{some_below, first_below}
use Rattle.reply.proofs.ReplyLaws.{passed, failed, apart}
use Rattle.reply.proofs.ScanLaws.{scan_start, scan_end, scan_stop, scan_pass, scan_hit, scan_miss}
use Rattle.reply.proofs.SomeLaws.{none_below, some_same, some_first, Found, first_found}
use Rattle.directory.specs.Directory.{class_at, reserved_zero, may_stand, repeats_earlier, may_repeat, entry_step, directory_of, entries_at}
use Rattle.directory.specs.Looks.{head_at, clear_below, faulty_at, bad_at, ended_at}
use Rattle.directory.specs.declared.Kind.{Kind}
use Rattle.directory.specs.declared.Directory.{Directory}
use Rattle.directory.proofs.Heads.{head_reserved, head_type, may_first, may_not, may_any}

-- a loop that searches knows that none below i passes: it stops at i, goes on, or comes to the end
module _ (test : ℕ → Bool) where
  pub stops_at : (n i : ℕ) → i < n → ((j : ℕ) → j < i → test j ≡ false) → test i ≡ true → i ≡ first_below test n
  stops_at n i inside before here = sym (scan_hit test (λ i. i) (λ i. i) n 0 i (omega arith) (omega arith) here (λ j a b. before j b))

  pub goes_on : (i : ℕ) → ((j : ℕ) → j < i → test j ≡ false) → test i ≡ false → (j : ℕ) → j < i + 1 → test j ≡ false
  goes_on i before here j l = by (eqb j i) refl
    where
      by : (b : Bool) → eqb j i ≡ b → test j ≡ false
      by true e = ap test (eqb-true j i e) ∙ here
      by false e = let other = eqb-false j i e in before j (omega arith)

  pub comes_to : (n : ℕ) → ((j : ℕ) → j < n → test j ≡ false) → n ≡ first_below test n
  comes_to n before = sym (scan_miss test (λ i. i) (λ i. i) n 0 n (omega arith) (λ j a b. before j b))

-- what a search of the numbers below n finds, or n
pub found_or : (test : ℕ → Bool) (n : ℕ) (r : Option ℕ) → MatchOption r ((k : ℕ) → 0 ≤ k → k < n → test k ≡ false) (λ i. (0 ≤ i) × (i < n) × (test i ≡ true) × ((k : ℕ) → 0 ≤ k → k < i → test k ≡ false)) → unwrap_or r n ≡ first_below test n
found_or test n None none = comes_to test n (λ j l. none j (omega arith) l)
found_or test n (Some i) one = stops_at test n i one.1 (λ j l. one.3 j (omega arith) l) one.2

-- the one comparison says that the flags from bit `used` up are zero
pub reserved_test : (used head : ℕ) → head < 2 ^ 32 → ltb head (clear_below used) ≡ eqb (bits_from used (head / 65536)) 0
reserved_test used head small = by (ltb used 16) refl ∙ ap (λ (x : ℕ). eqb x 0) (sym (div-div-eq-div-mul head 65536 (2 ^ used)))
  where
    below : (p : ℕ) → 0 < p → ltb head p ≡ eqb (head / p) 0
    below p pos = at (ltb head p) refl
      where
        at : (b : Bool) → ltb head p ≡ b → b ≡ eqb (head / p) 0
        at true q = sym (eq-eqb (head / p) 0 (div-eq_of_lt (ltb-true head p q)))
        at false q =
            let h : p ≤ head = ltb-false head p q in
            let one : 1 ≤ head / p = (le-div_iff_mul-le pos).1 (omega arith) in
            sym (ne_eqb (head / p) 0 (λ z. omega arith))

    by : (b : Bool) → ltb used 16 ≡ b → ltb head (65536 * 2 ^ cond b used 16) ≡ eqb (head / (65536 * 2 ^ used)) 0
    by true q = below (65536 * 2 ^ used) (let z : 0 < 2 ^ used = pow_pos used in omega arith)
    by false q =
        let high : 16 ≤ used = ltb-false used 16 q in
        let p : 2 ^ 16 ≤ 2 ^ used = pow-le-pow_right (omega arith) high in
        lt-ltb head (65536 * 2 ^ 16) (omega arith) ∙ sym (eq-eqb (head / (65536 * 2 ^ used)) 0 (div-eq_of_lt (let z : head < 65536 * 2 ^ used = omega arith in z)))

-- neither of two
pub or_false : (a b : Bool) → (a || b) ≡ false → (a ≡ false) × (b ≡ false)
or_false true b e = apart refl e
or_false false b e = (refl, e)

-- which of two tests fails
both_pass : (a b : Bool) → not (a && b) ≡ false → (a ≡ true) × (b ≡ true)
both_pass true true e = (refl, refl)
both_pass true false e = apart refl e
both_pass false b e = apart refl e

one_fails : (a b : Bool) → not (a && b) ≡ true → a ≡ true → b ≡ false
one_fails true true e q = apart e refl
one_fails true false e q = refl
one_fails false b e q = apart q refl

module _ (kind : Kind) (level : ℕ) (s : List ℕ) (o n : ℕ) (bytes : Bytes s) where
  reserved_is : (i : ℕ) → eqb (bits_from kind.used (head_at kind s o i / 65536)) 0 ≡ reserved_zero kind s o i
  reserved_is i = ap (λ (x : ℕ). eqb (bits_from kind.used x) 0) (head_reserved kind s o bytes i)

  stand_is : (i : ℕ) → may_stand kind level (head_at kind s o i % 256) ≡ may_stand kind level (class_at kind s o i)
  stand_is i = ap (may_stand kind level) (head_type kind s o bytes i)

  -- an entry that is not at fault is passed by
  on : (i : ℕ) → faulty_at kind level s o i ≡ false → may_repeat kind s o i ≡ true → (rest : Reply Directory) → entry_step kind level s o i rest ≡ rest
  on i f m rest =
      let g = both_pass _ _ f in
      passed _ _ _ _ (sym (reserved_is i) ∙ g.0) ∙ passed _ _ _ _ (sym (stand_is i) ∙ g.1) ∙ passed _ _ _ _ m

  repeated : (i : ℕ) → faulty_at kind level s o i ≡ false → may_repeat kind s o i ≡ false → (rest : Reply Directory) → entry_step kind level s o i rest ≡ refused 18 (in_entry level i o)
  repeated i f m rest =
      let g = both_pass _ _ f in
      passed _ _ _ _ (sym (reserved_is i) ∙ g.0) ∙ passed _ _ _ _ (sym (stand_is i) ∙ g.1) ∙ failed _ _ _ _ m

  -- the answer of the entries from k on, where those before it are not at fault
  reach : (k : ℕ) → k ≤ n → ((j : ℕ) → j < k → faulty_at kind level s o j ≡ false) → ((j : ℕ) → j < k → may_repeat kind s o j ≡ true) →
      scan (entry_step kind level s o) (λ _. given (directory_of o level n)) (n - k) k ≡ entries_at kind level s o n
  reach zero h f m = scan_start (entry_step kind level s o) (λ _. given (directory_of o level n)) n
  reach (suc k) h f m =
      ap (λ (x : ℕ). scan (entry_step kind level s o) (λ _. given (directory_of o level n)) (n - x) x) (let e : suc k ≡ k + 1 = omega arith in e)
      ∙ sym (scan_pass (entry_step kind level s o) (λ _. given (directory_of o level n)) n k (omega arith) (on k (f k (omega arith)) (m k (omega arith))))
      ∙ reach k (omega arith) (λ j l. f j (omega arith)) (λ j l. m j (omega arith))

  -- the answer at entry k
  stop : (k number : ℕ) → k < n → ((j : ℕ) → j < k → faulty_at kind level s o j ≡ false) → ((j : ℕ) → j < k → may_repeat kind s o j ≡ true) →
      ((rest : Reply Directory) → entry_step kind level s o k rest ≡ refused number (in_entry level k o)) → refused number (in_entry level k o) ≡ entries_at kind level s o n
  stop k number h f m e =
      sym (scan_stop (entry_step kind level s o) (λ _. given (directory_of o level n)) n k (refused number (in_entry level k o)) h e) ∙ reach k (omega arith) f m

  -- by the first that is at fault by itself, where those before it may stand
  ends : (end : ℕ) → end ≤ n → ((j : ℕ) → j < end → faulty_at kind level s o j ≡ false) → (end < n → faulty_at kind level s o end ≡ true) →
      ((j : ℕ) → j < end → may_repeat kind s o j ≡ true) → ended_at kind level s o n end ≡ entries_at kind level s o n
  ends end h f g m = by (ltb end n) refl
    where
      at_end : (b : Bool) → reserved_zero kind s o end ≡ b → end < n → refused (cond b 14 5) (in_entry level end o) ≡ entries_at kind level s o n
      at_end true q l =
          stop end 14 l f m (λ rest. passed _ _ _ _ q ∙ failed _ _ _ _ (sym (stand_is end) ∙ one_fails _ _ (g l) (reserved_is end ∙ q)))
      at_end false q l = stop end 5 l f m (λ rest. failed _ _ _ _ q)

      by : (b : Bool) → ltb end n ≡ b → cond b (refused (cond (reserved_zero kind s o end) 14 5) (in_entry level end o)) (given (directory_of o level n)) ≡ entries_at kind level s o n
      by true q = at_end (reserved_zero kind s o end) refl (ltb-true _ _ q)
      by false q =
          sym (scan_end (entry_step kind level s o) (λ _. given (directory_of o level n)) n end (ltb-false end n q)) ∙ reach end h f m

  found : (end : ℕ) → end ≡ first_below (faulty_at kind level s o) n → Found (faulty_at kind level s o) n end
  found end is = subst (Found (faulty_at kind level s o) n) (sym is) (first_found (faulty_at kind level s o) n)

  -- at an entry that begins like this
  ended_here : (end head : ℕ) → end < n → head ≡ head_at kind s o end → (b : Bool) → eqb (bits_from kind.used (head / 65536)) 0 ≡ b → refused (cond b 14 5) (in_entry level end o) ≡ ended_at kind level s o n end
  ended_here end head l is b q =
      let zero = sym (reserved_is end) ∙ ap (λ (x : ℕ). eqb (bits_from kind.used (x / 65536)) 0) (sym is) ∙ q in
      sym (ap₂ (λ (t z : Bool). cond t (refused (cond z 14 5) (in_entry level end o)) (given (directory_of o level n))) (lt-ltb end n l) zero)

  pub ended_misplaced : (end head : ℕ) → end < n → head ≡ head_at kind s o end → eqb (bits_from kind.used (head / 65536)) 0 ≡ true → refused 14 (in_entry level end o) ≡ ended_at kind level s o n end
  ended_misplaced end head l is q = ended_here end head l is true q

  pub ended_field : (end head : ℕ) → end < n → head ≡ head_at kind s o end → eqb (bits_from kind.used (head / 65536)) 0 ≡ false → refused 5 (in_entry level end o) ≡ ended_at kind level s o n end
  ended_field end head l is q = ended_here end head l is false q

  -- in a directory that may repeat
  pub ends_any : (end : ℕ) → end ≡ first_below (faulty_at kind level s o) n → kind.repeats ≡ true → ended_at kind level s o n end ≡ entries_at kind level s o n
  ends_any end is r = let f = found end is in ends end f.within f.before f.here (λ j l. may_any kind s o j r)

  -- none before it repeats
  pub ends_first : (end : ℕ) → end ≡ first_below (faulty_at kind level s o) n → some_below (bad_at kind level s o) end ≡ false → ended_at kind level s o n end ≡ entries_at kind level s o n
  ends_first end is e = let f = found end is in ends end f.within f.before f.here (λ j l. may_first kind s o j (or_false (faulty_at kind level s o j) (repeats_earlier kind s o j) (none_below (bad_at kind level s o) end e j l)).1)

  -- none is at fault
  pub ends_good : some_below (bad_at kind level s o) n ≡ false → ended_at kind level s o n n ≡ entries_at kind level s o n
  ends_good e =
      let good : (j : ℕ) → j < n → (faulty_at kind level s o j ≡ false) × (repeats_earlier kind s o j ≡ false) = λ j l. or_false (faulty_at kind level s o j) (repeats_earlier kind s o j) (none_below (bad_at kind level s o) n e j l) in
      ends n (omega arith) (λ j l. (good j l).0) (λ l. absurd (let z : ⊥ = omega arith in z)) (λ j l. may_first kind s o j (good j l).1)

  -- one before the first that is at fault by itself repeats: the first that does is told
  pub ends_repeated : (end : ℕ) → end ≡ first_below (faulty_at kind level s o) n → kind.repeats ≡ false → some_below (bad_at kind level s o) end ≡ true →
      refused 18 (in_entry level (first_below (repeats_earlier kind s o) end) o) ≡ entries_at kind level s o n
  ends_repeated end is r e =
      let f = found end is in
      let k = first_below (repeats_earlier kind s o) end in
      let first = first_found (repeats_earlier kind s o) end in
      let repeats = some_same (repeats_earlier kind s o) (bad_at kind level s o) end (λ j l. ap (λ (b : Bool). b || repeats_earlier kind s o j) (sym (f.before j l))) ∙ e in
      let inside : k < end = ltb-true k end (sym (some_first (repeats_earlier kind s o) end) ∙ repeats) in
      stop k 18 (let h = f.within in omega arith) (λ j l. f.before j (omega arith)) (λ j l. may_first kind s o j (first.before j l)) (repeated k (f.before k inside) (may_not kind s o k r (first.here inside)))

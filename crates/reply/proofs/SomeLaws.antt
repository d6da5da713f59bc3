-- When a test holds of some number below a bound, and of which first. Assumes nothing.
use mathlib.Core.Path.{◌≡◌, refl, sym, ap, ap₂, subst, ◌∙◌}
use mathlib.Core.Bool.{Bool, true, false, ◌||◌}
use Prim.Native.Nat.{ℕ, zero, suc, ◌+◌, ◌<◌, ◌≤◌}
use native.Mathlib.Numerals.{add-one}
use native.Mathlib.Omega.{arith}
use borrow.Author.Tests.{eqb-true, eqb-false, ltb-true, ltb-false}
use lib.Dec.{eqb, ltb}
use Rattle.reply.specs.Some.{some_below, first_below}
use Rattle.reply.proofs.ReplyLaws.{apart}
use Rattle.reply.proofs.ScanLaws.{First, hit, miss, first, scan_hit, scan_miss}

-- a test that holds of some number below n: one more, a number of which it holds, and another test
module _ (test : ℕ → Bool) where
  pub some_more : (n : ℕ) → some_below test (n + 1) ≡ (test n || some_below test n)
  unfolding some_below
  some_more n = ap (some_below test) (add-one n)

  pub some_none : some_below test 0 ≡ false
  unfolding some_below
  some_none = refl

pub some_same : (test other : ℕ → Bool) (n : ℕ) → ((j : ℕ) → j < n → test j ≡ other j) → some_below test n ≡ some_below other n
unfolding some_below
some_same test other zero h = refl
some_same test other (suc n) h = ap₂ ◌||◌ (h n (omega arith)) (some_same test other n (λ j l. h j (omega arith)))

pub some_false : (test : ℕ → Bool) (n : ℕ) → ((j : ℕ) → j < n → test j ≡ false) → some_below test n ≡ false
unfolding some_below
some_false test zero h = refl
some_false test (suc n) h = ap₂ ◌||◌ (h n (omega arith)) (some_false test n (λ j l. h j (omega arith)))

pub none_below : (test : ℕ → Bool) (n : ℕ) → some_below test n ≡ false → (j : ℕ) → j < n → test j ≡ false
unfolding some_below
none_below test zero e j h = absurd (let z : ⊥ = omega arith in z)
none_below test (suc n) e j h = by (test n) refl e (eqb n j) refl (none_below test n)
  where
    by : (b : Bool) → test n ≡ b → (b || some_below test n) ≡ false → (s : Bool) → eqb n j ≡ s → (some_below test n ≡ false → (j : ℕ) → j < n → test j ≡ false) → test j ≡ false
    by true t f s q r = apart refl f
    by false t f true q r = ap test (sym (eqb-true n j q)) ∙ t
    by false t f false q r = r f j (let ne = eqb-false n j q in omega arith)

pub some_true : (test : ℕ → Bool) (n j : ℕ) → j < n → test j ≡ true → some_below test n ≡ true
some_true test n j h t = by (some_below test n) refl
  where
    by : (b : Bool) → some_below test n ≡ b → b ≡ true
    by true e = refl
    by false e = apart t (none_below test n e j h)

-- r is the first number below n of which a test holds, or n
pub record Found (test : ℕ → Bool) (n r : ℕ) : Type 0 where
  pub within : r ≤ n
  pub before : (j : ℕ) → j < r → test j ≡ false
  pub here : r < n → test r ≡ true

pub first_found : (test : ℕ → Bool) (n : ℕ) → Found test n (first_below test n)
first_found test n = by (first test n 0 n (omega arith))
  where
    by : First test 0 n → Found test n (first_below test n)
    by (hit j a b t f) =
        subst (Found test n) (sym (scan_hit test (λ i. i) (λ i. i) n 0 j a (omega arith) t f)) (record { within = omega arith; before = λ l h. f l (omega arith) h; here = λ h. t })
    by (miss f) =
        subst (Found test n) (sym (scan_miss test (λ i. i) (λ i. i) n 0 n (omega arith) f)) (record { within = omega arith; before = λ l h. f l (omega arith) h; here = λ h. absurd (let z : ⊥ = omega arith in z) })

-- it holds of some number where the first is below n
pub some_first : (test : ℕ → Bool) (n : ℕ) → some_below test n ≡ ltb (first_below test n) n
some_first test n = by (ltb (first_below test n) n) refl (first_found test n)
  where
    by : (b : Bool) → ltb (first_below test n) n ≡ b → Found test n (first_below test n) → some_below test n ≡ b
    by true q f = let l = ltb-true _ _ q in some_true test n (first_below test n) l (f.here l)
    by false q f = let l : n ≤ first_below test n = ltb-false _ _ q in some_false test n (λ j h. f.before j (omega arith))

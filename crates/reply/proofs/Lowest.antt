-- A search by a test gives the lowest index of which a fact holds, or tells that there is none. Assumes nothing.
use mathlib.Core.Path.{◌≡◌, refl}
use mathlib.Core.Bool.{Bool, true, false, cond}
use Prim.Native.Nat.{ℕ}
use native.Mathlib.Omega.{arith}
use Rattle.reply.specs.Scan.{scan, Lowest, None}
use Rattle.reply.proofs.ReplyLaws.{apart}
use Rattle.reply.proofs.ScanLaws.{First, hit, miss, first, scan_hit, scan_miss}

-- how a search for the lowest index below n of which P holds ends
pub data Searched {A : Type 0} (P : ℕ → Type 0) (found last : ℕ → A) (n : ℕ) (answer : A) : Type 0 where
  lowest : (i : ℕ) → Lowest P n i → answer ≡ found i → Searched P found last n answer
  none : None P n → answer ≡ last n → Searched P found last n answer

-- a test that says whether P holds
pub record Decided (P : ℕ → Type 0) : Type 0 where
  pub test : ℕ → Bool
  pub says : (i : ℕ) → P i → test i ≡ true
  pub holds : (i : ℕ) → test i ≡ true → P i

module _ {A : Type 0} (P : ℕ → Type 0) (by_test : Decided P) (found last : ℕ → A) (n : ℕ) where
  fails : (i : ℕ) → by_test.test i ≡ false → P i → ⊥
  fails i f p = apart (by_test.says i p) f

  fails_test : (i : ℕ) → (P i → ⊥) → by_test.test i ≡ false
  fails_test i f = by (by_test.test i) refl
    where
      by : (b : Bool) → by_test.test i ≡ b → b ≡ false
      by true q = absurd (f (by_test.holds i q))
      by false q = refl

  pub lowest_found : (i : ℕ) → Lowest P n i → scan (λ i rest. cond (by_test.test i) (found i) rest) last n 0 ≡ found i
  lowest_found i l = scan_hit by_test.test found last n 0 i (omega arith) (let b = l.inside in omega arith) (by_test.says i l.here) (λ j a b. fails_test j (l.earlier j b))

  pub none_found : None P n → scan (λ i rest. cond (by_test.test i) (found i) rest) last n 0 ≡ last n
  none_found f = scan_miss by_test.test found last n 0 n (omega arith) (λ j a b. fails_test j (f j b))

  pub searched : Searched P found last n (scan (λ i rest. cond (by_test.test i) (found i) rest) last n 0)
  searched = by (first by_test.test n 0 n (omega arith))
    where
      by : First by_test.test 0 n → Searched P found last n (scan (λ i rest. cond (by_test.test i) (found i) rest) last n 0)
      by (hit i a b t f) = let l : Lowest P n i = record { inside = b; here = by_test.holds i t; earlier = λ j x. fails j (f j (omega arith) x) } in lowest i l (lowest_found i l)
      by (miss f) = let e : None P n = λ j x. fails j (f j (omega arith) x) in none e (none_found e)

-- What a loop that searches from index i up to n cites of `scan`, as the code has its `n - i` and `i + 1`. Assumes nothing.
use mathlib.Core.Path.{◌≡◌, refl, ap, subst, ◌∙◌}
use mathlib.Core.Bool.{Bool, true, false, cond}
use lib.Dec.{eqb}
use borrow.Author.Tests.{eqb-true, eqb-false}
use Rattle.reply.specs.Reply.{Reply, given}
use Prim.Native.Nat.{ℕ, zero, suc, ◌+◌, ◌-◌, ◌<◌, ◌≤◌}
use native.Mathlib.Nat.{sub-zero}
use native.Mathlib.Omega.{arith}
use Rattle.reply.specs.Scan.{scan}

module _ {A : Type 0} (step : ℕ → A → A) (last : ℕ → A) (n : ℕ) where
  -- at the start
  pub scan_start : scan step last (n - 0) 0 ≡ scan step last n 0
  scan_start = rw sub-zero

  -- at the end
  pub scan_end : (i : ℕ) → n ≤ i → scan step last (n - i) i ≡ last i
  unfolding scan
  scan_end i h =
      let e : n - i ≡ 0 = omega arith in
      rw e

  one : (i : ℕ) → i < n → scan step last (n - i) i ≡ step i (scan step last (n - (i + 1)) (i + 1))
  unfolding scan
  one i h =
      let e : n - i ≡ suc (n - (i + 1)) = omega arith in
      rw e

  -- the answer is at i
  pub scan_stop : (i : ℕ) (a : A) → i < n → ((rest : A) → step i rest ≡ a) → scan step last (n - i) i ≡ a
  scan_stop i a h f = one i h ∙ f (scan step last (n - (i + 1)) (i + 1))

  -- the answer is behind i
  pub scan_pass : (i : ℕ) → i < n → ((rest : A) → step i rest ≡ rest) → scan step last (n - i) i ≡ scan step last (n - (i + 1)) (i + 1)
  scan_pass i h f = one i h ∙ f (scan step last (n - (i + 1)) (i + 1))

-- an index from i up is i itself or from i + 1 up
from_next : (P : ℕ → Type 0) (i j : ℕ) → P i → (i + 1 ≤ j → P j) → i ≤ j → P j
from_next P i j here later h = by (eqb i j) refl
  where
    by : (b : Bool) → eqb i j ≡ b → P j
    by true e = subst P (eqb-true i j e) here
    by false e = later (let ne = eqb-false i j e in omega arith)

-- a step with a rule P: it passes on exactly where the rule holds
module _ {A : Type 0} (step : ℕ → Reply A → Reply A) (last : ℕ → Reply A) (P : ℕ → Type 0) where
  -- all m from i on keep the rule where the scan gives
  pub scan_kept : (a : A) → ((i : ℕ) (rest : Reply A) → step i rest ≡ given a → P i × (rest ≡ given a)) → (m i : ℕ) → scan step last m i ≡ given a →
      ((j : ℕ) → i ≤ j → j < i + m → P j) × (last (i + m) ≡ given a)
  unfolding scan
  scan_kept a f zero i e = let n : i + 0 ≡ i = omega arith in (λ j h q. absurd (let z : ⊥ = omega arith in z), rw n e)
  scan_kept a f (suc m) i e =
      let g = f i (scan step last m (i + 1)) e in
      let r = scan_kept a f m (i + 1) g.1 in
      let n : i + suc m ≡ i + 1 + m = omega arith in
      (λ j h q. from_next P i j g.0 (λ l. r.0 j l (omega arith)) h, rw n r.1)

  -- where all m from i on keep the rule the scan comes to its end
  pub scan_through : ((i : ℕ) (rest : Reply A) → P i → step i rest ≡ rest) → (m i : ℕ) → ((j : ℕ) → i ≤ j → j < i + m → P j) → scan step last m i ≡ last (i + m)
  unfolding scan
  scan_through f zero i h = let n : i + 0 ≡ i = omega arith in rw n
  scan_through f (suc m) i h =
      let n : i + suc m ≡ i + 1 + m = omega arith in
      f i _ (h i (omega arith) (omega arith)) ∙ (rw n (scan_through f m (i + 1) (λ j l q. h j (omega arith) (omega arith))))

-- the lowest index from i up to n that passes a test, or none
pub data First (test : ℕ → Bool) (i n : ℕ) : Type 0 where
  hit : (j : ℕ) → i ≤ j → j < n → test j ≡ true → ((l : ℕ) → i ≤ l → l < j → test l ≡ false) → First test i n
  miss : ((l : ℕ) → i ≤ l → l < n → test l ≡ false) → First test i n

pub first : (test : ℕ → Bool) (m i n : ℕ) → n ≡ i + m → First test i n
first test zero i n e = miss (λ l a b. absurd (let z : ⊥ = omega arith in z))
first test (suc m) i n e = by (test i) refl (first test m (i + 1) n (omega arith))
  where
    by : (b : Bool) → test i ≡ b → First test (i + 1) n → First test i n
    by true t r = hit i (omega arith) (omega arith) t (λ l a b. absurd (let z : ⊥ = omega arith in z))
    by false t (hit j a b u f) = hit j (omega arith) b u (λ l x y. from_next (λ l. test l ≡ false) i l t (λ z. f l z y) x)
    by false t (miss f) = miss (λ l x y. from_next (λ l. test l ≡ false) i l t (λ z. f l z y) x)

-- a scan for the first index that passes a test
module _ {A : Type 0} (test : ℕ → Bool) (found : ℕ → A) (last : ℕ → A) where
  pub scan_hit : (m i j : ℕ) → i ≤ j → j < i + m → test j ≡ true → ((l : ℕ) → i ≤ l → l < j → test l ≡ false) → scan (λ i rest. cond (test i) (found i) rest) last m i ≡ found j
  unfolding scan
  scan_hit zero i j a b t f = absurd (let z : ⊥ = omega arith in z)
  scan_hit (suc m) i j a b t f = by (eqb i j) refl (scan_hit m (i + 1) j)
    where
      by : (b : Bool) → eqb i j ≡ b → (i + 1 ≤ j → j < i + 1 + m → test j ≡ true → ((l : ℕ) → i + 1 ≤ l → l < j → test l ≡ false) → scan (λ i rest. cond (test i) (found i) rest) last m (i + 1) ≡ found j) →
          cond (test i) (found i) (scan (λ i rest. cond (test i) (found i) rest) last m (i + 1)) ≡ found j
      by true e r = let q = eqb-true i j e in rw (q, t)
      by false e r = let q = eqb-false i j e in let g = f i (omega arith) (omega arith) in rw g (r (omega arith) (omega arith) t (λ l x y. f l (omega arith) y))

  pub scan_miss : (m i n : ℕ) → n ≡ i + m → ((l : ℕ) → i ≤ l → l < n → test l ≡ false) → scan (λ i rest. cond (test i) (found i) rest) last m i ≡ last n
  unfolding scan
  scan_miss zero i n e f = ap last (omega arith)
  scan_miss (suc m) i n e f = let g = f i (omega arith) (omega arith) in rw g (scan_miss m (i + 1) n (omega arith) (λ l x y. f l (omega arith) y))

-- two steps that agree from i on
pub scan_same : {A : Type 0} (f g : ℕ → A → A) (last : ℕ → A) (m i : ℕ) → ((j : ℕ) → i ≤ j → j < i + m → (rest : A) → f j rest ≡ g j rest) → scan f last m i ≡ scan g last m i
unfolding scan
scan_same f g last zero i h = refl
scan_same f g last (suc m) i h = h i (omega arith) (omega arith) _ ∙ ap (g i) (scan_same f g last m (i + 1) (λ j a b. h j (omega arith) (omega arith)))

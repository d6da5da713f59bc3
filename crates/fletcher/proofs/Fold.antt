-- Between two folds 32 bits hold the sums: how large they may become, and the statements of Fold. Assumes nothing.
use mathlib.Core.Path.{◌≡◌, refl, ap}
use mathlib.Core.List.{List, [], ◌∷◌}
use Prim.Native.Nat.{ℕ, zero, suc, ◌+◌, ◌*◌, ◌-◌, ◌^◌, ◌<◌, ◌≤◌}
use native.Mathlib.Nat.{add-zero, suc-mul, mul-add, mul-le-mul}
use native.Mathlib.Omega.{arith}
use lib.ListN.{length}
use Rattle.fletcher.specs.Fletcher.{sum_of, weighted_of}
use Rattle.fletcher.specs.Fold.{sum_after, weighted_after, Words, Safe, Folds}
use Rattle.fletcher.proofs.Laws.{sum_after_lem, weighted_after_lem}

-- 1 + 2 + .. + n
unfoldable tri : ℕ → ℕ
tri zero = 0
tri (suc n) = tri n + suc n

tri_more : (d k : ℕ) → tri k ≤ tri (k + d)
unfolding tri
tri_more zero k = rw add-zero (omega arith)
tri_more (suc d) k = let e : k + suc d ≡ suc (k + d) = omega arith in rw e (omega (arith, tri_more d k))

-- how large the sums are after words of 16 bits
sum_most : (ws : List ℕ) (x : ℕ) → Words ws → sum_after x ws ≤ x + length ws * 65535
unfolding sum_after
sum_most [] x small = omega arith
sum_most (w ∷ ws) x small = omega (arith, small 0, sum_most ws (x + w) (λ i. small (suc i)))

weighted_most : (ws : List ℕ) (x y : ℕ) → Words ws → weighted_after x y ws ≤ y + length ws * x + tri (length ws) * 65535
unfolding weighted_after tri
weighted_most [] x y small = omega arith
weighted_most (w ∷ ws) x y small =
    let n = length ws in
    let h : w ≤ 65535 = omega (arith, small 0) in
    let more : n * w ≤ n * 65535 = mul-le-mul {n₁ = n} {m₁ = w} {n₂ = n} {m₂ = 65535} (omega arith) h in
    omega (arith, h, more, weighted_most ws (x + w) (y + (x + w)) (λ i. small (suc i)), mul-add n x w, suc-mul n x)

-- n words are safe where the largest sums fit
safe : (top n : ℕ) → top + n * 65535 < 2 ^ 32 → top + n * top + tri n * 65535 < 2 ^ 32 → Safe top n
safe top n low high x y ws hx hy small few =
    let k = length ws in
    let up : k + (n - k) ≡ n = omega arith in
    let t : tri (k + (n - k)) ≡ tri n = ap tri up in
    let product : k * x ≤ n * top = mul-le-mul {n₁ = k} {m₁ = x} {n₂ = n} {m₂ = top} few hx in
    (omega (arith, low, sum_most ws x small), omega (arith, high, t, tri_more (n - k) k, product, weighted_most ws x y small))

-- the run that is made between folds
pub safe_run : Safe 65534 359
unfolding tri
safe_run = safe _ _ (omega arith) (omega arith)

pub folds : Folds
unfolding tri sum_after weighted_after sum_of weighted_of
folds = record {
  running = λ ws. (omega (arith, sum_after_lem ws 0), omega (arith, weighted_after_lem ws 0 0));
  remainder_leaves = λ x. omega arith;
  remainder_reaches = (refl, refl);
  remainder = record {
    safe = safe _ _ (omega arith) (omega arith);
    next = omega arith;
  };
  chosen = safe_run;
  halves_leave = λ x h. omega arith;
  halves = record {
    safe = safe _ _ (omega arith) (omega arith);
    next = omega arith;
  };
}

-- A run of words from sums that were folded: 32 bits hold what it leads to, it may be taken in two parts, and folded it is the sums of all words. Assumes nothing.
use mathlib.Core.Path.{◌≡◌, refl, sym, ap, ◌∙◌}
use mathlib.Core.List.{List, ◌++◌}
use Prim.Native.Nat.{ℕ, ◌+◌, ◌*◌, ◌-◌, ◌/◌, ◌%◌, ◌^◌, ◌<◌, ◌≤◌, min}
use native.Mathlib.Nat.{zero-add, add-zero, mod-mod}
use native.Mathlib.Omega.{arith}
use lib.ListN.{length, take, drop, length-append}
use lib.Seq.{take_at, drop_at, drop-drop}
use Rattle.le.specs.Le.{le_at, Bytes}
use Rattle.le.proofs.Part.{le_own}
use Rattle.fletcher.specs.Fletcher.{words_at, sum_of, weighted_of}
use Rattle.fletcher.specs.Fold.{sum_after, weighted_after}
use Rattle.fletcher.specs.declared.Sums.{Sums}
use Rattle.fletcher.specs.Run.{Folded, Reached}
use Rattle.fletcher.proofs.Laws.{words_add, words_part, words_length, words_small, sum_append, weighted_append, after_sum, after_weighted, sum_after_lem, weighted_after_lem}
use Rattle.fletcher.proofs.Modulo.{Same, plus_same, weighted_same}
use Rattle.fletcher.proofs.Fold.{safe_run}

-- 32 bits hold what a run leads to
pub run_safe : (s : List ℕ) → Bytes s → (x y n o : ℕ) → x ≤ 65534 → y ≤ 65534 → n ≤ 359 → (sum_after x (words_at n s o) < 2 ^ 32) × (weighted_after x y (words_at n s o) < 2 ^ 32)
run_safe s bytes x y n o hx hy few = safe_run x y (words_at n s o) hx hy (words_small s bytes n o) (omega (arith, words_length n s o))

-- one word more
module _ (s : List ℕ) (k o x : ℕ) where
  pub sum_step : sum_after x (words_at (k + 1) s o) ≡ sum_after x (words_at k s o) + le_at 2 s (o + k * 2)
  unfolding words_at sum_after
  sum_step = ap (sum_after x) (words_add k 1 s o) ∙ after_sum (words_at 1 s (o + k * 2)) (words_at k s o) x

  pub weighted_step : (y : ℕ) → weighted_after x y (words_at (k + 1) s o) ≡ weighted_after x y (words_at k s o) + (sum_after x (words_at k s o) + le_at 2 s (o + k * 2))
  unfolding words_at weighted_after
  weighted_step y = ap (weighted_after x y) (words_add k 1 s o) ∙ after_weighted (words_at 1 s (o + k * 2)) (words_at k s o) x y

-- one word more of a run: what the sums are with it, and that 32 bits hold them
pub word_more : (s : List ℕ) (k w : ℕ) (t r : Sums) → Bytes s → (t.sum < 65535) × (t.weighted < 65535) → k < 359 → Reached s 0 k t r →
    w ≡ le_at 2 (take (2 * k + 2 - 2 * k) (drop (2 * k) s)) 0 →
    Reached s 0 (k + 1) t (record { sum = r.sum + w; weighted = r.weighted + (r.sum + w) }) × (r.sum + w < 2 ^ 32) × (r.weighted + (r.sum + w) < 2 ^ 32)
word_more s k w t r bytes small few e word =
    let here : w ≡ le_at 2 s (0 + k * 2) = word ∙ le_own 2 s (2 * k) _ refl ∙ ap (le_at 2 s) (omega arith) in
    let sum : r.sum + w ≡ sum_after t.sum (words_at (k + 1) s 0) = omega (arith, e.0, here, sum_step s k 0 t.sum) in
    let weighted : r.weighted + (r.sum + w) ≡ weighted_after t.sum t.weighted (words_at (k + 1) s 0) = omega (arith, e.0, e.1, here, weighted_step s k 0 t.sum t.weighted) in
    let safe = run_safe s bytes t.sum t.weighted (k + 1) 0 (omega (arith, small.0)) (omega (arith, small.1)) (omega arith) in
    ((sum, weighted), rw sum safe.0, rw weighted safe.1)

-- a run from folded sums comes to the same as all words up to its end
module _ (s : List ℕ) (from n x : ℕ) (e : x ≡ sum_of (words_at from s 0) % 65535) where
  all : words_at (from + n) s 0 ≡ words_at from s 0 ++ words_at n s (from * 2)
  all = words_add from n s 0 ∙ ap (λ (o : ℕ). words_at from s 0 ++ words_at n s o) (zero-add (from * 2))

  same : (x y : ℕ) → x ≡ y % 65535 → Same x y
  same x y e = rw e (mod-mod y 65535)

  pub sum_folds : Same (sum_after x (words_at n s (from * 2))) (sum_of (words_at (from + n) s 0))
  sum_folds =
      let us = words_at from s 0 in
      let ws = words_at n s (from * 2) in
      rw (sum_after_lem ws x, all, sum_append us ws) (plus_same x (sum_of us) (sum_of ws) (same x (sum_of us) e))

  pub weighted_folds : (y : ℕ) → y ≡ weighted_of (words_at from s 0) % 65535 → Same (weighted_after x y (words_at n s (from * 2))) (weighted_of (words_at (from + n) s 0))
  weighted_folds y f =
      let us = words_at from s 0 in
      let ws = words_at n s (from * 2) in
      rw (weighted_after_lem ws x y, all, weighted_append us ws)
      (weighted_same (length ws) y (weighted_of us) x (sum_of us) (weighted_of ws) (same y (weighted_of us) f) (same x (sum_of us) e))

-- t has the sums of the words of s before `rest`, folded
pub record SoFar (s rest : List ℕ) (t : Sums) : Type 0 where
  pub within : length rest ≤ length s
  pub even : 0 < length rest → (length s - length rest) % 2 ≡ 0
  pub behind : drop (length s - length rest) s ≡ rest
  pub folded : Folded s ((length s - length rest) / 2) t

pub so_far_start : (s : List ℕ) (t : Sums) → (t.sum ≡ 0) × (t.weighted ≡ 0) → SoFar s s t
unfolding words_at sum_of weighted_of
so_far_start s t e =
    let none : length s - length s ≡ 0 = omega arith in
    record { within = omega arith; even = λ h. omega arith; behind = rw none refl; folded = rw none e }

pub so_far_more : (s rest run behind : List ℕ) (t r : Sums) → SoFar s rest t → rest ≡ run ++ behind → length run ≡ min 718 (length rest) → 0 < length rest →
    r.sum ≡ sum_after t.sum (words_at (length run / 2) run 0) % 65535 → r.weighted ≡ weighted_after t.sum t.weighted (words_at (length run / 2) run 0) % 65535 → SoFar s behind r
so_far_more s rest run behind t r so e long some sum weighted =
    let from = (length s - length rest) / 2 in
    let n = length run / 2 in
    let split : length rest ≡ length run + length behind = ap length e ∙ length-append run behind in
    let inside : length rest ≤ length s = so.within in
    let even : (length s - length rest) % 2 ≡ 0 = so.even some in
    let at : from * 2 ≡ length s - length rest = omega arith in
    let here : drop (from * 2) s ≡ run ++ behind = ap (λ (k : ℕ). drop k s) at ∙ so.behind ∙ e in
    let part : take (length run) (drop (from * 2) s) ≡ run = ap (take (length run)) here ∙ take_at run behind (length run) refl in
    let words : words_at n run 0 ≡ words_at n s (from * 2) =
    ap (λ (x : List ℕ). words_at n x 0) (sym part) ∙ words_part n (length run) s (from * 2) 0 (omega arith) ∙ ap (words_at n s) (add-zero (from * 2)) in
    let count : from + n ≡ (length s - length behind) / 2 = omega arith in
    let next : length s - length behind ≡ from * 2 + length run = omega arith in
    record {
      within = omega arith;
      even = λ h. omega arith;
      behind = ap (λ (k : ℕ). drop k s) next ∙ sym (drop-drop (length run) (from * 2) s) ∙ ap (drop (length run)) here ∙ drop_at run behind (length run) refl;
      folded = (
        sum ∙ ap (λ (ws : List ℕ). sum_after t.sum ws % 65535) words ∙ sum_folds s from n t.sum so.folded.0 ∙ ap (λ (j : ℕ). sum_of (words_at j s 0) % 65535) count,
        weighted ∙ ap (λ (ws : List ℕ). weighted_after t.sum t.weighted ws % 65535) words ∙ weighted_folds s from n t.sum so.folded.0 t.weighted so.folded.1
            ∙ ap (λ (j : ℕ). weighted_of (words_at j s 0) % 65535) count,
      );
    }

pub so_far_all : (s rest : List ℕ) (t : Sums) → SoFar s rest t → length rest ≡ 0 → Folded s (length s / 2) t
so_far_all s rest t so none = let all : (length s - length rest) / 2 ≡ length s / 2 = omega arith in rw all at so.folded

-- Checksums made of checksums are those of the words. Assumes nothing.
use mathlib.Core.Path.{◌≡◌, ap, ◌∙◌}
use mathlib.Core.List.{List, ◌∷◌, ◌++◌}
use Prim.Native.Nat.{ℕ, ◌+◌, ◌*◌, ◌%◌}
use native.Mathlib.Nat.{mul-add}
use native.Mathlib.Omega.{arith}
use lib.ListN.{length}
use Rattle.fletcher.specs.Fletcher.{sum_of, weighted_of, written_of, field_of}
use Rattle.fletcher.specs.Join.{sum_in, weighted_in, joined_of, raised_of}
use Rattle.fletcher.specs.Made.{MadeOfChecksums}
use Rattle.fletcher.proofs.Laws.{sum_append, weighted_append, written_small}
use Rattle.fletcher.proofs.Modulo.{Same, plus_same, weighted_same, written_same, as_written}

-- the halves of a checksum come to the same as the sums
module _ (ws : List ℕ) where
  sum_in_lem : Same (sum_in (field_of ws)) (sum_of ws)
  sum_in_lem =
      let e : sum_in (field_of ws) ≡ written_of (sum_of ws) = omega (arith, written_small (sum_of ws)) in
      ap (λ (x : ℕ). x % 65535) e ∙ as_written (sum_of ws)

  weighted_in_lem : Same (weighted_in (field_of ws)) (weighted_of ws)
  weighted_in_lem =
      let e : weighted_in (field_of ws) ≡ written_of (weighted_of ws) = omega (arith, written_small (sum_of ws)) in
      ap (λ (x : ℕ). x % 65535) e ∙ as_written (weighted_of ws)

-- two sums that come to the same as those of words make their checksum
field_same : (ws : List ℕ) (x y : ℕ) → Same x (weighted_of ws) → Same y (sum_of ws) → written_of x * 65536 + written_of y ≡ field_of ws
field_same ws x y e f = rw (written_same x (weighted_of ws) e, written_same y (sum_of ws) f)

joined : (us vs : List ℕ) → joined_of (field_of us) (length vs) (field_of vs) ≡ field_of (us ++ vs)
unfolding joined_of
joined us vs =
    let m : ℕ → ℕ = λ j. j % 65535 in
    let n = length vs in
    let T = weighted_in (field_of vs) in
    let S = sum_in (field_of vs) in
    let turn : weighted_of us + n * sum_of us + T ≡ T + (weighted_of us + n * sum_of us) = omega arith in
    let back : weighted_of vs + (weighted_of us + n * sum_of us) ≡ weighted_of (us ++ vs) = omega (arith, weighted_append us vs) in
    let turn-sum : sum_of us + S ≡ S + sum_of us = omega arith in
    let back_sum : sum_of vs + sum_of us ≡ sum_of (us ++ vs) = omega (arith, sum_append us vs) in
    field_same (us ++ vs) (weighted_in (field_of us) + n * sum_in (field_of us) + T) (sum_in (field_of us) + S)
    (weighted_same n (weighted_in (field_of us)) (weighted_of us) (sum_in (field_of us)) (sum_of us) T (weighted_in_lem us) (sum_in_lem us)
    ∙ ap m turn ∙ plus_same T (weighted_of vs) (weighted_of us + n * sum_of us) (weighted_in_lem vs) ∙ ap m back)
    (plus_same (sum_in (field_of us)) (sum_of us) S (sum_in_lem us) ∙ ap m turn-sum ∙ plus_same S (sum_of vs) (sum_of us) (sum_in_lem vs) ∙ ap m back_sum)

raised : (u : ℕ) (us : List ℕ) → raised_of (field_of (u ∷ us)) (length (u ∷ us)) ≡ field_of ((u + 1) ∷ us)
unfolding raised_of sum_of weighted_of
raised u us =
    let m : ℕ → ℕ = λ j. j % 65535 in
    let ws = u ∷ us in
    let n = length ws in
    let T : weighted_of ws + n ≡ weighted_of ((u + 1) ∷ us) = omega (arith, mul-add n u 1) in
    let S : sum_of ws + 1 ≡ sum_of ((u + 1) ∷ us) = omega arith in
    field_same ((u + 1) ∷ us) (weighted_in (field_of ws) + n) (sum_in (field_of ws) + 1)
    (plus_same (weighted_in (field_of ws)) (weighted_of ws) n (weighted_in_lem ws) ∙ ap m T)
    (plus_same (sum_in (field_of ws)) (sum_of ws) 1 (sum_in_lem ws) ∙ ap m S)

pub made_of_checksums : MadeOfChecksums
made_of_checksums = record { joined = joined; raised = raised }

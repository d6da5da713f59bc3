-- Four words at a time: each has 32 bits of its own to be added up in. Assumes nothing.
use mathlib.Core.Path.{◌≡◌, ap, ◌∙◌}
use mathlib.Core.List.{List, [], ◌∷◌, ◌++◌}
use Prim.Native.Nat.{ℕ, ◌+◌, ◌*◌, ◌-◌, ◌/◌, ◌%◌, ◌≤◌, ◌<◌}
use native.Mathlib.Omega.{arith}
use Rattle.le.specs.Le.{le_at, Bytes}
use Rattle.le.proofs.Laws.{le_split, le_small}
use Rattle.fletcher.specs.Fletcher.{words_at}
use Rattle.fletcher.specs.Fold.{sum_after, weighted_after}
use Rattle.fletcher.specs.Run.{across_of, excess_of}
use Rattle.fletcher.proofs.Laws.{words_add, after_sum, after_weighted}

-- the words of a number of eight bytes
number_is : (s : List ℕ) (o : ℕ) →
    le_at 8 s o ≡ le_at 2 s o + 65536 * le_at 2 s (o + 2) + 4294967296 * (le_at 2 s (o + 2 + 2) + 65536 * le_at 2 s (o + 2 + 2 + 2))
number_is s o =
    let three : le_at 2 s (o + 4) ≡ le_at 2 s (o + 2 + 2) = ap (le_at 2 s) (omega arith) in
    let four : le_at 2 s (o + 4 + 2) ≡ le_at 2 s (o + 2 + 2 + 2) = ap (le_at 2 s) (omega arith) in
    omega (arith, three, four, le_split 4 4 s o, le_split 2 2 s o, le_split 2 2 s (o + 4))

-- every other word of four, and the others
module _ (p q r t : ℕ) (hp : p ≤ 65535) (hq : q ≤ 65535) (hr : r ≤ 65535) (four : ℕ) (e : four ≡ p + 65536 * q + 4294967296 * (r + 65536 * t)) where
  alternate_is : four % 65536 + 4294967296 * (four / 4294967296 % 65536) ≡ p + 4294967296 * r
  alternate_is =
      let low : four % 65536 ≡ p = omega arith in
      let up : four / 4294967296 ≡ r + 65536 * t = omega arith in
      let mid : (r + 65536 * t) % 65536 ≡ r = omega arith in
      rw (low, up, mid)

  next_is : four / 65536 ≡ q + 65536 * r + 4294967296 * (t + 65536 * 0)
  next_is = omega arith

-- two numbers of 32 bits in one
parted : (both low high : ℕ) → both ≡ low + 4294967296 * high → low < 4294967296 → (both % 4294967296 ≡ low) × (both / 4294967296 ≡ high)
parted both low high e h = (omega arith, omega arith)

-- what is added up in 32 bits, and the sum of its sums, after k words of at most 89: 5,898,149 is 65,534 and 89 words of 65,535
pub record Lane (k sum sums : ℕ) : Type 0 where
  pub low : sum ≤ 65534 + 65535 * k
  pub high : sums ≤ 5898149 * k

lane_more : (k sum sums w : ℕ) → Lane k sum sums → w ≤ 65535 → k + 1 ≤ 89 → Lane (k + 1) (sum + w) (sums + (sum + w))
lane_more k sum sums w l h few = record { low = omega (arith, l.low); high = omega (arith, l.low, l.high) }

-- after k times four words from sums x and y on: what stands in each 32 bits, how large it is, and what the sums come to
pub record Lanes (s : List ℕ) (x y k odd even odd-sums even-sums : ℕ) : Type 0 where
  pub a1 : ℕ
  pub a2 : ℕ
  pub a3 : ℕ
  pub a4 : ℕ
  pub b1 : ℕ
  pub b2 : ℕ
  pub b3 : ℕ
  pub b4 : ℕ
  pub is_odd : odd ≡ a1 + 4294967296 * a3
  pub is_even : even ≡ a2 + 4294967296 * a4
  pub is_odd_sums : odd-sums ≡ b1 + 4294967296 * b3
  pub is_even_sums : even-sums ≡ b2 + 4294967296 * b4
  pub few : k ≤ 89
  pub lane1 : Lane k a1 b1
  pub lane2 : Lane k a2 b2
  pub lane3 : Lane k a3 b3
  pub lane4 : Lane k a4 b4
  pub low : a1 + a2 + a3 + a4 ≡ sum_after x (words_at (4 * k) s 0)
  pub high : y + 4 * (b1 + b2 + b3 + b4) ≡ weighted_after x y (words_at (4 * k) s 0) + (a2 + 2 * a3 + 3 * a4)

pub lanes_start : (s : List ℕ) (x y : ℕ) → x ≤ 65534 → Lanes s x y 0 x 0 0 0
unfolding words_at sum_after weighted_after
lanes_start s x y h =
    let none : Lane 0 0 0 = record { low = omega arith; high = omega arith } in
    record {
      a1 = x;
      a2 = 0;
      a3 = 0;
      a4 = 0;
      b1 = 0;
      b2 = 0;
      b3 = 0;
      b4 = 0;
      is_odd = omega arith;
      is_even = omega arith;
      is_odd_sums = omega arith;
      is_even_sums = omega arith;
      few = omega arith;
      lane1 = record { low = omega arith; high = omega arith };
      lane2 = none;
      lane3 = none;
      lane4 = none;
      low = omega arith;
      high = omega arith;
    }

module _ (s : List ℕ) (x y k odd even odd-sums even-sums : ℕ) (l : Lanes s x y k odd even odd-sums even-sums) where
  -- four words more
  pub lanes_more : Bytes s → (four : ℕ) → four ≡ le_at 8 s (8 * k) → k + 1 ≤ 89 → (p q : ℕ) →
      p ≡ four % 65536 + 4294967296 * (four / 4294967296 % 65536) → q ≡ four / 65536 % 65536 + 4294967296 * (four / 65536 / 4294967296 % 65536) →
      Lanes s x y (k + 1) (odd + p) (even + q) (odd-sums + (odd + p)) (even-sums + (even + q))
  unfolding words_at sum_after weighted_after
  lanes_more bytes four e h p q pe qe =
      let o = 0 + 4 * k * 2 in
      let w1 = le_at 2 s o in
      let w2 = le_at 2 s (o + 2) in
      let w3 = le_at 2 s (o + 2 + 2) in
      let w4 = le_at 2 s (o + 2 + 2 + 2) in
      let small : (j : ℕ) → le_at 2 s j ≤ 65535 = λ j. omega (arith, le_small s bytes 2 j) in
      let f1 : w1 ≤ 65535 = small o in
      let f2 : w2 ≤ 65535 = small (o + 2) in
      let f3 : w3 ≤ 65535 = small (o + 2 + 2) in
      let f4 : w4 ≤ 65535 = small (o + 2 + 2 + 2) in
      let f = e ∙ ap (le_at 8 s) (omega arith) ∙ number_is s o in
      let count : 4 * (k + 1) ≡ 4 * k + 4 = omega arith in
      more w1 w2 w3 w4 f1 f2 f3 f4 (ap (λ (j : ℕ). words_at j s 0) count ∙ words_add (4 * k) 4 s 0)
      (pe ∙ alternate_is w1 w2 w3 w4 f1 f2 f3 four f) (qe ∙ alternate_is w2 w3 w4 0 f2 f3 f4 (four / 65536) (next_is w1 w2 w3 w4 f1 f2 f3 four f))
    where
      more : (w1 w2 w3 w4 : ℕ) → w1 ≤ 65535 → w2 ≤ 65535 → w3 ≤ 65535 → w4 ≤ 65535 →
          words_at (4 * (k + 1)) s 0 ≡ words_at (4 * k) s 0 ++ (w1 ∷ w2 ∷ w3 ∷ w4 ∷ []) →
          p ≡ w1 + 4294967296 * w3 → q ≡ w2 + 4294967296 * w4 → Lanes s x y (k + 1) (odd + p) (even + q) (odd-sums + (odd + p)) (even-sums + (even + q))
      more w1 w2 w3 w4 f1 f2 f3 f4 run pw qw =
          let four = w1 ∷ w2 ∷ w3 ∷ w4 ∷ [] in
          let us = words_at (4 * k) s 0 in
          let S = ap (sum_after x) run ∙ after_sum four us x in
          let T = ap (weighted_after x y) run ∙ after_weighted four us x y in
          record {
            a1 = l.a1 + w1;
            a2 = l.a2 + w2;
            a3 = l.a3 + w3;
            a4 = l.a4 + w4;
            b1 = l.b1 + (l.a1 + w1);
            b2 = l.b2 + (l.a2 + w2);
            b3 = l.b3 + (l.a3 + w3);
            b4 = l.b4 + (l.a4 + w4);
            is_odd = omega (arith, l.is_odd, pw);
            is_even = omega (arith, l.is_even, qw);
            is_odd_sums = omega (arith, l.is_odd, l.is_odd_sums, pw);
            is_even_sums = omega (arith, l.is_even, l.is_even_sums, qw);
            few = h;
            lane1 = lane_more k l.a1 l.b1 w1 l.lane1 f1 h;
            lane2 = lane_more k l.a2 l.b2 w2 l.lane2 f2 h;
            lane3 = lane_more k l.a3 l.b3 w3 l.lane3 f3 h;
            lane4 = lane_more k l.a4 l.b4 w4 l.lane4 f4 h;
            low = omega (arith, l.low, S);
            high = omega (arith, l.low, l.high, T);
          }

  -- no sum passes its 32 bits
  odd_is : (odd % 4294967296 ≡ l.a1) × (odd / 4294967296 ≡ l.a3)
  odd_is = parted odd l.a1 l.a3 l.is_odd (omega (arith, l.lane1.low, l.few))

  even_is : (even % 4294967296 ≡ l.a2) × (even / 4294967296 ≡ l.a4)
  even_is = parted even l.a2 l.a4 l.is_even (omega (arith, l.lane2.low, l.few))

  odd_sums_is : (odd-sums % 4294967296 ≡ l.b1) × (odd-sums / 4294967296 ≡ l.b3)
  odd_sums_is = parted odd-sums l.b1 l.b3 l.is_odd_sums (omega (arith, l.lane1.high, l.few))

  even_sums_is : (even-sums % 4294967296 ≡ l.b2) × (even-sums / 4294967296 ≡ l.b4)
  even_sums_is = parted even-sums l.b2 l.b4 l.is_even_sums (omega (arith, l.lane2.high, l.few))

  -- what the sums of the sums come to is what the words lead to
  module _ (high less : ℕ) (ph : high ≡ across_of odd-sums even-sums) (pe : less ≡ excess_of odd even) where
    high_is : high ≡ l.b1 + l.b2 + l.b3 + l.b4
    high_is = ph ∙ rw (odd_sums_is.0, even_sums_is.0, odd_sums_is.1, even_sums_is.1)

    less_is : less ≡ l.a2 + 2 * l.a3 + 3 * l.a4
    less_is = pe ∙ rw (even_is.0, odd_is.1, even_is.1)

    pub weighted_is : y + 4 * high - less ≡ weighted_after x y (words_at (4 * k) s 0)
    weighted_is = omega (arith, high_is, less_is, l.high)

-- The bits of a word: the one that is set, the others, and the lowest turned over. Assumes nothing.
use mathlib.Core.Path.{◌≡◌, refl, sym, ap, ap₂, ◌∙◌}
use mathlib.Core.Bool.{Bool, true, false}
use Prim.Native.Nat.{ℕ, zero, suc, ◌+◌, ◌*◌, ◌-◌, ◌/◌, ◌%◌, ◌^◌, ◌<◌, max}
use native.Mathlib.Nat.{pow-suc, one-mul, zero-max, max-zero, div-eq_of_lt}
use native.Mathlib.Omega.{arith}
use borrow.Author.Tests.{ltb-true, ltb-false, eq-eqb}
use lib.Dec.{eqb, ltb}
use lib.Pow.{pow-lt, pow-add, shl-shr, shl_exact}
use lib.Bits.{bit_or, bit_xor, differ, or_shr, or_step, xor_step, xor_zero_r}
use Rattle.marks.specs.Marks.{bit_of, kept_as}

-- a word kept twice is the word
pub kept_kept : (word : ℕ) → kept_as (kept_as word) ≡ word
kept_kept word = omega arith

pub kept_xor : (word : ℕ) → bit_xor word 1 ≡ kept_as word
kept_xor word = xor_step word 1 ∙ ap₂ (λ (x y : ℕ). x * 2 + y) (xor_zero_r (word / 2)) (turned (word % 2) (omega arith))
  where
    turned : (r : ℕ) → r < 2 → differ r 1 ≡ 1 - r
    turned zero h = refl
    turned (suc zero) h = refl
    turned (suc (suc r)) h = absurd (let z : ⊥ = omega arith in z)

-- `1 << b` of 64 bits
pub one_shifted : (b : ℕ) → b < 64 → (1 * 2 ^ b) % 2 ^ 64 ≡ 2 ^ b
one_shifted b h = shl_exact {a = 1} 1 b 64 (omega arith) (omega arith) ∙ one-mul (2 ^ b)

-- the bits of a power of two
power_here : (b : ℕ) → 2 ^ b / 2 ^ b ≡ 1
power_here b = ap (λ (x : ℕ). x / 2 ^ b) (sym (one-mul (2 ^ b))) ∙ shl-shr 1 b

power_low : (b c : ℕ) → b < c → 2 ^ b / 2 ^ c ≡ 0
power_low b c h = div-eq_of_lt (pow-lt h)

power_high : (b c : ℕ) → c < b → 2 ^ b / 2 ^ c % 2 ≡ 0
power_high b c h =
    let e : b ≡ suc (b - c - 1) + c = omega arith in
    let q : 2 ^ b ≡ 2 ^ suc (b - c - 1) * 2 ^ c = ap (λ (x : ℕ). 2 ^ x) e ∙ pow-add 2 (suc (b - c - 1)) c in
    ap (λ (x : ℕ). x / 2 ^ c % 2) q ∙ ap (λ (x : ℕ). x % 2) (shl-shr (2 ^ suc (b - c - 1)) c) ∙ ap (λ (x : ℕ). x % 2) (pow-suc 2 (b - c - 1)) ∙ omega arith

-- the greater of two bits
max_small : (u v : ℕ) → u < 2 → v < 2 → max u v < 2
max_small zero v h k = rw (zero-max v) k
max_small (suc u) zero h k = rw (max-zero (suc u)) h
max_small (suc u) (suc v) h k =
    let a : u ≡ 0 = omega arith in
    let b : v ≡ 0 = omega arith in
    rw (a, b) (let z : 1 < 2 = omega arith in z)

max_one : (u : ℕ) → u < 2 → max u 1 ≡ 1
max_one zero h = zero-max 1
max_one (suc u) h = let a : u ≡ 0 = omega arith in rw a

or_bit : (m p c : ℕ) → bit_or m p / 2 ^ c % 2 ≡ max (m / 2 ^ c % 2) (p / 2 ^ c % 2)
or_bit m p c =
    let x = m / 2 ^ c in
    let y = p / 2 ^ c in
    ap (λ (z : ℕ). z % 2) (or_shr m p c ∙ or_step x y)
    ∙ low_bit (bit_or (x / 2) (y / 2)) (max (x % 2) (y % 2)) (max_small (x % 2) (y % 2) (omega arith) (omega arith))
  where
    low_bit : (w z : ℕ) → z < 2 → (w * 2 + z) % 2 ≡ z
    low_bit w z h = omega arith

-- the bit that is set is one, the others stay
pub bit_set : (m b : ℕ) → bit_of (bit_or m (2 ^ b)) b ≡ true
bit_set m b =
    eq-eqb _ 1 (or_bit m (2 ^ b) b ∙ ap (λ (x : ℕ). max (m / 2 ^ b % 2) (x % 2)) (power_here b) ∙ max_one (m / 2 ^ b % 2) (omega arith))

pub bit_other : (m b c : ℕ) → (b ≡ c → ⊥) → bit_of (bit_or m (2 ^ b)) c ≡ bit_of m c
bit_other m b c ne = ap (λ (x : ℕ). eqb x 1) (or_bit m (2 ^ b) c ∙ ap (max (m / 2 ^ c % 2)) (by (ltb b c) refl) ∙ max-zero (m / 2 ^ c % 2))
  where
    by : (t : Bool) → ltb b c ≡ t → 2 ^ b / 2 ^ c % 2 ≡ 0
    by true q = ap (λ (x : ℕ). x % 2) (power_low b c (ltb-true b c q))
    by false q = power_high b c (let l = ltb-false b c q in omega arith)

-- Numbers that come to the same modulo 65,535 are as good as each other in a sum, and are written the same. Assumes nothing.
use mathlib.Core.Path.{◌≡◌, refl, sym, ap, ◌∙◌}
use mathlib.Core.Bool.{Bool, true, false, cond}
use Prim.Native.Nat.{ℕ, zero, suc, ◌+◌, ◌*◌, ◌%◌}
use native.Mathlib.Nat.{suc-mul, mod-mod}
use native.Mathlib.Omega.{arith}
use borrow.Author.Tests.{eqb-true}
use lib.Dec.{eqb}
use Rattle.fletcher.specs.Fletcher.{written_of}

-- x and y come to the same
abbrev pub Same : (x y : ℕ) → Type 0
Same x y = x % 65535 ≡ y % 65535

pub plus_same : (p q z : ℕ) → Same p q → Same (p + z) (q + z)
plus_same p q z e = omega arith

pub times_same : (n p q z : ℕ) → Same p q → Same (n * p + z) (n * q + z)
times_same zero p q z e = omega arith
times_same (suc n) p q z e =
    let m : ℕ → ℕ = λ j. j % 65535 in
    let one : suc n * p + z ≡ n * p + (p + z) = omega (arith, suc-mul n p) in
    let two : n * q + (p + z) ≡ p + (n * q + z) = omega arith in
    let three : q + (n * q + z) ≡ suc n * q + z = omega (arith, suc-mul n q) in
    ap m one ∙ times_same n p q (p + z) e ∙ ap m two ∙ plus_same p q (n * q + z) e ∙ ap m three

-- T of words with n others behind them, from S and T that come to the same
pub weighted_same : (n p q x y z : ℕ) → Same p q → Same x y → Same (p + n * x + z) (q + n * y + z)
weighted_same n p q x y z e f =
    let m : ℕ → ℕ = λ j. j % 65535 in
    let one : p + n * x + z ≡ p + (n * x + z) = omega arith in
    let two : q + (n * x + z) ≡ n * x + (q + z) = omega arith in
    let three : n * y + (q + z) ≡ q + n * y + z = omega arith in
    ap m one ∙ plus_same p q (n * x + z) e ∙ ap m two ∙ times_same n x y (q + z) f ∙ ap m three

pub written_same : (x y : ℕ) → Same x y → written_of x ≡ written_of y
written_same x y e = rw e

pub written_mod : (x : ℕ) → written_of (x % 65535) ≡ written_of x
written_mod x = written_same (x % 65535) x (mod-mod x 65535)

-- a sum as it is written comes to the same as the sum
pub as_written : (x : ℕ) → Same (written_of x) x
as_written x = by (eqb (x % 65535) 0) refl
  where
    by : (b : Bool) → eqb (x % 65535) 0 ≡ b → cond b 65535 (x % 65535) % 65535 ≡ x % 65535
    by true e = sym (eqb-true (x % 65535) 0 e)
    by false e = mod-mod x 65535

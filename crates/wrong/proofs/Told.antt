-- What the answers tell, and by which number. Assumes nothing.
use mathlib.Core.Path.{◌≡◌, refl, sym}
use mathlib.Core.Bool.{Bool, true, false, cond}
use Prim.Native.Nat.{ℕ, ◌+◌}
use borrow.Author.Tests.{eqb-true}
use lib.ListN.{length}
use lib.Dec.{leb, eqb}
use Rattle.reply.proofs.Told.{told_one}
use Rattle.wrong.specs.Told.{ToldApart, SameNumber}
use Rattle.wrong.specs.declared.WrongField.{WrongField}

pub told_apart : ToldApart
told_apart = told_one

-- one of two, by a test
by_test : {n : ℕ} (b : Bool) (x y : WrongField) → (b ≡ true → x.number ≡ n) → y.number ≡ n → (cond b x y).number ≡ n
by_test true x y f g = f refl
by_test false x y f g = g

pub same_number : SameNumber
same_number = record {
  header = λ r s number level o.
      let is : (k : ℕ) → eqb number k ≡ true → k ≡ number = λ k e. sym (eqb-true number k e) in
      by_test (eqb number 1) _ _ (λ e. by_test (leb (o + 16) (length s)) _ _ (λ _. is 1 e) (is 1 e))
      (by_test (eqb number 2) _ _ (is 2) (by_test (eqb number 3) _ _ (is 3) (by_test (eqb number 4) _ _ (is 4) refl)));
  entry = λ r s number i o.
      let is : (k : ℕ) → eqb number k ≡ true → k ≡ number = λ k e. sym (eqb-true number k e) in
      by_test (eqb number 5) _ _ (is 5) (by_test (eqb number 14) _ _ (is 14) (by_test (eqb number 18) _ _ (is 18) (by_test (eqb number 17) _ _ (is 17) (by_test (eqb number 16) _ _ (is 16) refl))));
}

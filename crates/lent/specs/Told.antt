-- What a call that leaves words answers is fixed by the number that it tells. Assumes nothing: these are statements.
use Rattle.std.specs.Prelude.{ℕ, ◌≡◌, Result}
use Rattle.reply.specs.declared.Refusal.{Refusal}
use Rattle.lent.specs.Lent.{answered}

-- no two answers tell the same number, so that two which fit one promise are equal
pub record AnsweredApart : Type 0 where
  pub apart : (x y : Result (Unit {0}) Refusal) → answered x ≡ answered y → x ≡ y
  pub settled : (promised : ℕ) (x y : Result (Unit {0}) Refusal) → answered x ≡ promised → answered y ≡ promised → x ≡ y

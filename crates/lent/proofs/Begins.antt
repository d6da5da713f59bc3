-- The words that begin with these values. Assumes nothing.
use mathlib.Core.Path.{◌≡◌, refl}
use mathlib.Core.Bool.{true}
use mathlib.Core.List.{List, [], ◌∷◌, ◌++◌}
use Prim.Native.Nat.{ℕ}
use borrow.Author.Tests.{eq-eqb}
use Rattle.lent.specs.Lent.{begins}

-- a list begins with its beginning
pub begins_front : (values more : List ℕ) → begins values (values ++ more) ≡ true
unfolding begins
begins_front [] more = refl
begins_front (v ∷ values) more = rw (eq-eqb v v refl) (begins_front values more)

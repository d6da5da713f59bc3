-- A search through numbered things, in order, what it looks for, and what holds of a whole list. Assumes nothing: these are definitions.
use Rattle.std.specs.Prelude.{ℕ, zero, suc, ◌+◌, ◌<◌, List, [], ◌∷◌}

-- the m things from index i on: `step i rest` is the answer at i, given the answer of those behind it, and `last i` the answer at the end
unfoldable pub scan : {A : Type 0} → (ℕ → A → A) → (ℕ → A) → ℕ → ℕ → A
scan step last zero i = last i
scan step last (suc m) i = step i (scan step last m (i + 1))

-- i is the lowest index below n of which P holds
pub record Lowest (P : ℕ → Type 0) (n i : ℕ) : Type 0 where
  pub inside : i < n
  pub here : P i
  pub earlier : (j : ℕ) → j < i → P j → ⊥

-- P holds of no index below n
abbrev pub None : (ℕ → Type 0) → ℕ → Type 0
None P n = (j : ℕ) → j < n → P j → ⊥

-- P holds of each thing of a list
abbrev pub All : {A : Type 0} → (P : A → Type 0) → List A → Type 0
All P [] = Unit {0}
All P (x ∷ xs) = P x × All P xs

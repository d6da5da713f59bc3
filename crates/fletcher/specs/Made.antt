-- That a checksum made of checksums is the one of the words as they then are. Assumes nothing: these are statements.
use Rattle.std.specs.Prelude.{ℕ, ◌+◌, ◌≡◌, List, ◌∷◌, ◌++◌, length}
use Rattle.fletcher.specs.Fletcher.{field_of}
use Rattle.fletcher.specs.Join.{joined_of, raised_of}

pub record MadeOfChecksums : Type 0 where
  -- words with others behind them
  pub joined : (us vs : List ℕ) → joined_of (field_of us) (length vs) (field_of vs) ≡ field_of (us ++ vs)
  -- words whose first is one larger, with its weight
  pub raised : (u : ℕ) (us : List ℕ) → raised_of (field_of (u ∷ us)) (length (u ∷ us)) ≡ field_of ((u + 1) ∷ us)

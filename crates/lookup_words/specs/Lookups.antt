-- How what the lookups give is laid out in lent words. Assumes nothing: these are definitions.
use Rattle.std.specs.Prelude.{ℕ, List, [], ◌∷◌}
use Rattle.entries.specs.declared.Match.{Match}
use Rattle.walk.specs.declared.ImageMatch.{ImageMatch}

-- a match in a directory: its index, and how many entries were tested
abbrev pub lay_match : Match → List ℕ
lay_match m = m.index ∷ m.tested ∷ []

-- a match in the whole image: its directory's place and level, its index, and how many entries were tested
abbrev pub lay_image_match : ImageMatch → List ℕ
lay_image_match f = f.place.0 ∷ f.level ∷ f.index ∷ f.tested ∷ []

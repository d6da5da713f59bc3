-- A format is a table of fields: how many bytes each takes, and where it begins. Assumes nothing: these are definitions.
use Rattle.std.specs.Prelude.{ℕ, ◌+◌, List}
use Rattle.le.specs.Le.{le_at, Number}

-- byte length and byte offset, the columns of the sources' tables
pub record Field : Type 0 where
  pub bytes : ℕ
  pub at : ℕ

abbrev pub field : (bytes at : ℕ) → Field
field bytes at = record { bytes = bytes; at = at }

-- what the field holds in s, of a thing that begins at place o
abbrev pub get : Field → (s : List ℕ) → (o : ℕ) → ℕ
get f s o = le_at f.bytes s (o + f.at)

-- what a field is to hold, in its bytes; a writer names the fields of a thing in their order, with none left out
abbrev pub filled : Field → (value : ℕ) → Number
filled f value = record { bytes = f.bytes; value = value }

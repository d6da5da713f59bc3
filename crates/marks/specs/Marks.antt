-- A word of marks and its bits. Assumes nothing: these are definitions.
use Rattle.std.specs.Prelude.{ℕ, ◌+◌, ◌*◌, ◌-◌, ◌/◌, ◌%◌, ◌^◌, Bool, eqb}

-- bit b of a word is one
abbrev pub bit_of : (word b : ℕ) → Bool
bit_of word b = eqb (word / 2 ^ b % 2) 1

-- a word with its lowest bit turned over
abbrev pub kept_as : (word : ℕ) → ℕ
kept_as word = word / 2 * 2 + (1 - word % 2)

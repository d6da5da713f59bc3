-- Checksums made of checksums, with no second pass over the words: words that follow others, and a first word one larger. Assumes nothing: these are definitions.
use Rattle.std.specs.Prelude.{ℕ, ◌+◌, ◌*◌, ◌/◌, ◌%◌}
use Rattle.fletcher.specs.Fletcher.{written_of}

-- S and T as a checksum has them
abbrev pub sum_in : (field : ℕ) → ℕ
sum_in field = field % 65536

abbrev pub weighted_in : (field : ℕ) → ℕ
weighted_in field = field / 65536

-- of words with n others behind them: each of the first weighs n more, so T grows by n times their S
unfoldable pub joined_of : (first n second : ℕ) → ℕ
joined_of first n second = written_of (weighted_in first + n * sum_in first + weighted_in second) * 65536 + written_of (sum_in first + sum_in second)

-- of words whose first is one larger: T grows by its weight
unfoldable pub raised_of : (field weight : ℕ) → ℕ
raised_of field weight = written_of (weighted_in field + weight) * 65536 + written_of (sum_in field + 1)

-- What the functions of the pass promise one another, and what the pass keeps from run to run (`Folded`). Assumes nothing: these are definitions.
use Rattle.std.specs.Prelude.{ℕ, ◌+◌, ◌*◌, ◌/◌, ◌%◌, ◌≡◌, List}
use Rattle.fletcher.specs.declared.Sums.{Sums}
use Rattle.fletcher.specs.Fletcher.{words_at, sum_of, weighted_of}
use Rattle.fletcher.specs.Fold.{sum_after, weighted_after}

-- t has the sums of the first i words of s, folded
abbrev pub Folded : (s : List ℕ) (i : ℕ) (t : Sums) → Type 0
Folded s i t = (t.sum ≡ sum_of (words_at i s 0) % 65535) × (t.weighted ≡ weighted_of (words_at i s 0) % 65535)

-- r has the sums that n words of s, from the one at `from` on, lead to from those of t, with no fold
abbrev pub Reached : (s : List ℕ) (from n : ℕ) (t r : Sums) → Type 0
Reached s from n t r =
    (r.sum ≡ sum_after t.sum (words_at n s (from * 2))) × (r.weighted ≡ weighted_after t.sum t.weighted (words_at n s (from * 2)))

-- four sums of 32 bits in two numbers, added up
abbrev pub across_of : (odd even : ℕ) → ℕ
across_of odd even = odd % 4294967296 + even % 4294967296 + odd / 4294967296 + even / 4294967296

-- what four times the sums of the sums has too much: of each four words the second counts once less than the first, the third twice, the fourth three times
abbrev pub excess_of : (odd even : ℕ) → ℕ
excess_of odd even = even % 4294967296 + 2 * (odd / 4294967296) + 3 * (even / 4294967296)

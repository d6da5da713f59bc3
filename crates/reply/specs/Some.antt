-- A test of numbers, made of all below a bound. Assumes nothing: these are definitions.
use Rattle.std.specs.Prelude.{ℕ, zero, suc, Bool, false, cond, ◌||◌}
use Rattle.reply.specs.Scan.{scan}

-- it holds of some number below n
unfoldable pub some_below : (ℕ → Bool) → ℕ → Bool
some_below test zero = false
some_below test (suc j) = test j || some_below test j

-- the lowest number below n of which it holds, or n
abbrev pub first_below : (ℕ → Bool) → ℕ → ℕ
first_below test n = scan (λ i rest. cond (test i) i rest) (λ i. i) n 0

use Rattle.std.proofs.Common.{ℕ, ◌≡◌, get_or, ◌<◌, length}
use Rattle.le.proofs.padded.Given as goal

abbrev pub invariant-loop-i : goal.invariant-loop-i
invariant-loop-i g l = (length l.bytes ≡ length l.initial.bytes) × ((j : ℕ) → j < l.i → get_or l.bytes j 0 ≡ get_or l.s j 0)

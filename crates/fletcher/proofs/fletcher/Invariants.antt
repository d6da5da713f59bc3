use mathlib.Core.Path.{◌≡◌}
use Rattle.fletcher.proofs.Run.{SoFar}
use Rattle.fletcher.proofs.fletcher.Given as goal

abbrev pub invariant-loop-run : goal.invariant-loop-run
invariant-loop-run l = (l.run-iterator.size ≡ 718) × SoFar l.s l.run-iterator.rest.now l.sums

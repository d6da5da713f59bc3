use Rattle.fletcher.specs.Run.{Reached}
use Rattle.fletcher.proofs.Sums.with_run.Given as goal

abbrev pub invariant-loop-k : goal.invariant-loop-k
invariant-loop-k l = Reached l.run 0 l.k l.fn.self l.sums

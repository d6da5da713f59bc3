use Rattle.fletcher.proofs.Lanes.{Lanes}
use Rattle.fletcher.proofs.Sums.with_fours.Given as goal

abbrev pub invariant-loop-k : goal.invariant-loop-k
invariant-loop-k l = Lanes l.run l.self.sum l.self.weighted l.k l.odd l.even l.odd_sums l.even_sums

use mathlib.Core.Path.{◌≡◌}
use Rattle.guids.proofs.Walk.{end_of}
use Rattle.guids.proofs.entry_in.Given as goal

abbrev pub invariant-loop : goal.invariant-loop
invariant-loop l = l.end ≡ end_of l.image l.counter

use mathlib.Core.Path.{◌≡◌}
use Prim.Native.Nat.{◌-◌, ◌≤◌}
use Rattle.entries.specs.Entry.{find_in}
use Rattle.entries.proofs.Cases.{find_from}
use Rattle.entries.proofs.find_in.Given as goal

abbrev pub invariant-loop-i : goal.invariant-loop-i
invariant-loop-i l = (l.i ≤ l.n) × (find_from l.kind l.image l.fn.d l.class l.sub l.n l.i ≡ find_in l.kind l.image l.fn.d l.class l.sub)

abbrev pub decreases-loop-i : goal.decreases-loop-i
decreases-loop-i l = l.n - l.i

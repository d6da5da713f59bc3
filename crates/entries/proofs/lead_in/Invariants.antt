use mathlib.Core.Path.{◌≡◌}
use Prim.Native.Nat.{◌-◌, ◌≤◌}
use Rattle.entries.specs.Entry.{lead_in}
use Rattle.entries.proofs.Cases.{lead_from}
use Rattle.entries.proofs.lead_in.Given as goal

abbrev pub invariant-loop-i : goal.invariant-loop-i
invariant-loop-i l = (l.i ≤ l.n) × (lead_from l.kind l.image l.fn.d l.n l.i ≡ lead_in l.kind l.image l.fn.d)

abbrev pub decreases-loop-i : goal.decreases-loop-i
decreases-loop-i l = l.n - l.i

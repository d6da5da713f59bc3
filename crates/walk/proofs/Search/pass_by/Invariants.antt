use mathlib.Core.Path.{◌≡◌}
use Prim.Native.Nat.{ℕ, ◌+◌, ◌-◌, ◌≤◌}
use Rattle.walk.specs.Probe.{found_from}
use Rattle.walk.proofs.Search.pass_by.Given as goal

abbrev pub invariant-loop-i : goal.invariant-loop-i
invariant-loop-i l = (l.from ≤ l.i) × (l.i ≤ l.total) × ((tested : ℕ) → found_from l.self l.image l.i (tested + (l.i - l.from)) ≡ found_from l.self l.image l.from tested)

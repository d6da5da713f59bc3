use mathlib.Core.Path.{◌≡◌}
use mathlib.Core.List.{◌++◌}
use Prim.Native.Nat.{◌≤◌}
use lib.ListN.{length, take, drop}
use Rattle.lent.proofs.put.Given as goal

abbrev pub invariant-loop-i : goal.invariant-loop-i
invariant-loop-i l = (length l.values ≤ length l.initial.words) × (length l.words ≡ length l.initial.words) × (l.words ≡ take l.i l.values ++ drop l.i l.initial.words)

use mathlib.Core.Path.{◌≡◌}
use Prim.Native.Nat.{◌-◌}
use lib.ListN.{length, take}
use Rattle.aspt.specs.Rules.{done}
use Rattle.aspt.specs.Calls.{parts_checks}
use Rattle.aspt.proofs.Checks.{parts_from}
use Rattle.aspt.proofs.parts_checks.Given as goal

abbrev pub invariant-loop-i : goal.invariant-loop-i
invariant-loop-i l = (length l.seen ≡ 3) × (parts_from l.pages l.table (3 - l.i) l.i (take l.i l.seen) ≡ parts_checks l.table done)

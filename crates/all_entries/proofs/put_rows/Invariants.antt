use mathlib.Core.Path.{◌≡◌}
use Prim.Native.Nat.{◌≤◌, ◌-◌}
use lib.ListN.{length}
use Rattle.efs.specs.Rules.{rules_of}
use Rattle.all_entries.proofs.Rows.{filled}
use Rattle.all_entries.proofs.put_rows.Given as goal

abbrev pub invariant-loop-i : goal.invariant-loop-i
invariant-loop-i l = (l.i ≤ l.n) × (length l.words ≡ length l.initial.words) × (l.words ≡ filled (rules_of l.image) l.image l.d l.initial.words l.i)

use mathlib.Core.Path.{◌≡◌}
use Prim.Native.Nat.{◌+◌, ◌≤◌}
use lib.ListN.{length}
use Rattle.reply.specs.Reply.{then}
use Rattle.guids.specs.Table.{entries_before}
use Rattle.guids.proofs.Walk.{count_from}
use Rattle.guids.proofs.counted.Given as goal

abbrev pub invariant-loop-end : goal.invariant-loop-end
invariant-loop-end l = record {
  within : l.end ≤ length l.entries;
  few : l.count + l.end ≤ length l.entries;
  same : then (entries_before l.entries l.end l.end) (count_from l.count) ≡ then (entries_before l.entries (length l.entries) (length l.entries)) (count_from 0);
}

abbrev pub decreases-loop-end : goal.decreases-loop-end
decreases-loop-end l = l.end

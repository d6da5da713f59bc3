use mathlib.Core.Path.{◌≡◌}
use Prim.Native.Nat.{◌+◌, ◌≤◌}
use lib.ListN.{length}
use Rattle.reply.specs.Reply.{then}
use Rattle.guids.specs.Table.{entries_before, entries_under, find_in}
use Rattle.guids.proofs.Walk.{find_from}
use Rattle.guids.proofs.find_under.Given as goal

abbrev pub invariant-loop-end : goal.invariant-loop-end
invariant-loop-end l = record {
  within : l.end ≤ length l.entries;
  few : l.before + l.end ≤ l.total;
  same : then (entries_before l.image (l.begin + l.end) l.end) (find_from l.guid l.before) ≡ then (entries_under l.image l.total) (find_in l.guid);
}

abbrev pub decreases-loop-end : goal.decreases-loop-end
decreases-loop-end l = l.end

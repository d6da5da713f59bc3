use Prim.Native.Nat.{◌≤◌}
use mathlib.Core.Path.{◌≡◌}
use lib.ListN.{take}
use lib.Dec.{eqb}
use Rattle.std.specs.List.{count_by}
use Rattle.mailbox_layout.specs.Layout.{post_from}
use Rattle.mailbox_held.proofs.times_in.Given as goal

abbrev pub invariant-loop-word : goal.invariant-loop-word
invariant-loop-word l = record {
  counted : l.total ≡ count_by (λ w. eqb (post_from w).caller l.caller) (take l.word-index l.line);
  bound : l.total ≤ l.word-index;
}

use native.Mathlib.Omega.{arith}
use Rattle.guids.proofs.Walk.{good_table, next_end}
use Rattle.guids.proofs.entry_in.Goals as goal

pub loop-preserved : goal.loop-preserved
loop-preserved c = let l = c.loop in
    next_end _ _ (good_table _ _ c.requires) l.counter l.end _ (omega arith) l.invariant c.entry_before-end.ensures

use mathlib.Core.Path.{refl, ◌∙◌}
use Prim.Native.Nat.{◌*◌}
use native.Mathlib.Omega.{arith}
use Rattle.le.specs.Le.{Bytes}
use Rattle.le.proofs.Part.{le_own}
use Rattle.fletcher.proofs.Lanes.{lanes_start, lanes_more, weighted_is}
use Rattle.fletcher.proofs.Run.{run_safe}
use Rattle.fletcher.proofs.Sums.with_fours.Goals as goal

pub loop-k-init : goal.loop-k-init
loop-k-init c = let a = c.args in rw c.from-odd.ensures (lanes_start a.run.now a.self.sum a.self.weighted (omega arith))

pub loop-k-preserved : goal.loop-k-preserved
loop-k-preserved c =
    let bytes : Bytes c.args.run.now = λ i. (c.type_inv.run i).fits in
    lanes_more _ _ _ _ _ _ _ _ c.loop-k.invariant bytes _ (c.u64_at-four.ensures ∙ le_own 8 _ _ _ refl) (omega arith) _ _ c.alternate-odd.ensures c.alternate-even.ensures

pub with_lanes-requires-clause-less_bound_2 : goal.with_lanes-requires-clause-less_bound_2
with_lanes-requires-clause-less_bound_2 c =
    let a = c.args in
    let bytes : Bytes a.run.now = λ i. (c.type_inv.run i).fits in
    let safe = run_safe a.run.now bytes a.self.sum a.self.weighted (4 * c.loop-k.k) 0 (omega arith) (omega arith) (omega arith) in
    rw (weighted_is _ _ _ _ _ _ _ _ c.loop-k.invariant _ _ c.across-2.ensures c.excess.ensures) safe.1

use mathlib.Core.Path.{sym, ◌∙◌}
use native.Mathlib.Omega.{arith}
use Rattle.walk.proofs.Steps.{found_passed}
use Rattle.walk.proofs.Search.pass_by.Goals as goal

pub loop-i-preserved : goal.loop-i-preserved
loop-i-preserved c = (
  omega arith,
  omega arith,
  λ tested. found_passed c.args.self c.args.image.now c.args.from c.loop-i.i tested (omega arith) (omega arith) (sym c.passes.ensures ∙ c.if-not-passes.false) (c.loop-i.invariant.2 tested),
)

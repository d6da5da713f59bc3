use native.Mathlib.Omega.{arith}
use Rattle.std.proofs.lemmas.Grind.{common_steps}
use Rattle.aspt.specs.Bytes.{reserved_zero}
use Rattle.aspt.proofs.Checks.{three_behind}
use Rattle.aspt.proofs.reserved_zero.Goals as goal

pub returns-in-1 : goal.returns-in-1
unfolding reserved_zero
returns-in-1 c =
    let behind = three_behind c.args.part.now (λ i. (c.type_inv.part i).fits) in
    grind (arith, common_steps)

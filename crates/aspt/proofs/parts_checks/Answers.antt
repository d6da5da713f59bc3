use native.Mathlib.Omega.{arith}
use lib.ListN.{take}
use Rattle.std.proofs.lemmas.Grind.{common_steps}
use Rattle.std.proofs.lemmas.List.{take_more_set}
use Rattle.aspt.proofs.Checks.{parts_refused, parts_passed}
use Rattle.aspt.proofs.parts_checks.Goals as goal

pub returns-in_err-part_checks : goal.returns-in_err-part_checks
returns-in_err-part_checks c =
    let l = c.loop-i in
    let refused = parts_refused _ c.args.table.now l.i (take l.i l.seen) (omega arith) _ (omega arith) _ c.in_err-part_checks.ensures in
    grind (arith, common_steps)

pub loop-i-preserved : goal.loop-i-preserved
loop-i-preserved c =
    let l = c.loop-i in
    let passed = parts_passed _ c.args.table.now l.i (take l.i l.seen) (omega arith) _ (omega arith) c.in_ok-part_checks.ensures in
    let more = take_more_set l.seen l.i c.u16_at.result (omega arith) in
    grind (arith, common_steps)

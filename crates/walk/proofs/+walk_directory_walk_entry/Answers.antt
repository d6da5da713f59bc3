use mathlib.Core.Path.{refl, subst, ◌∙◌}
use Prim.Native.Nat.{◌+◌, ◌-◌}
use native.Mathlib.Omega.{arith}
use Rattle.walk.specs.Probe.{Enterable}
use Rattle.walk.proofs.Steps.{by_fault, enter_absent, enter_count}
use Rattle.walk.proofs.+walk_directory_walk_entry.Goals as goal

pub walk_entry-walk_entry-requires-in-Err-Absent : goal.walk_entry-walk_entry-requires-in-Err-Absent
walk_entry-walk_entry-requires-in-Err-Absent t c = let p = c.pass_by-i in
    let a = c.args in
    let n = c.in-Ok-Enter in
    let u = c.in-Err-Absent in
    let e = subst (Enterable a.by) n.field-0-is n.ensures.enterable in
    let deep = e.0 in
    let few = e.1 in
    let count = enter_count a.by a.image.now p.result (a.tested + (p.result - a.from)) refl (omega arith) n.directory n.field-0-is n.ensures.result_value u.t u.field-0-is u.ensures (omega arith) in
    (omega arith, record { sized = c.requires.sized; most = omega arith; levels = omega arith; few = omega arith; entries = omega arith; count = omega arith })

pub walk_entry-returns-in-Err-Absent : goal.walk_entry-returns-in-Err-Absent
walk_entry-returns-in-Err-Absent t c = let p = c.pass_by-i in
    let a = c.args in
    let n = c.in-Ok-Enter in
    let u = c.in-Err-Absent in
    c.walk_entry-in-Err-Absent.ensures ∙ enter_absent a.by a.image.now p.result _ (p.ensures.same a.tested) (omega arith) n.directory n.field-0-is n.ensures.result_value u.t u.field-0-is u.ensures

pub walk_entry-returns-in-Err : goal.walk_entry-returns-in-Err
walk_entry-returns-in-Err t c = let p = c.pass_by-i in by_fault c.args.by c.args.image.now p.result _ (p.ensures.same c.args.tested) (omega arith) _ _ c.in-Err.ensures.result_value

use native.Mathlib.Omega.{arith}
use Rattle.efs.proofs.Pointers.{as_address, as_offset, as_neither}
use Rattle.efs.proofs.pointer_to.Goals as goal

pub returns-in-Ok : goal.returns-in-Ok
returns-in-Ok c = let a = c.args in
    as_address a.window a.image.now a.p _ c.offset.ensures _ c.in-Ok.is c.within.ensures

pub returns-in-Err : goal.returns-in-Err
returns-in-Err c = let a = c.args in
    as_offset a.window a.image.now a.p _ c.offset.ensures _ c.in-Err.is (omega arith) c.if-p-window.true c.within-in-Err.ensures

pub returns-in-Err-2 : goal.returns-in-Err-2
returns-in-Err-2 c = let a = c.args in
    as_neither a.window a.image.now a.p _ c.offset.ensures _ c.in-Err.is (omega arith) c.if-p-window.false

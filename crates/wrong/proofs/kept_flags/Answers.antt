use mathlib.Core.Path.{sym}
use Prim.Native.Nat.{◌^◌, ◌<◌, ◌≤◌}
use native.Mathlib.Nat.{pow-le-pow_right, mod-eq_of_lt}
use native.Mathlib.Omega.{arith}
use Rattle.wrong.proofs.kept_flags.Goals as goal

-- all sixteen are used
pub returns : goal.returns
returns c = let a = c.args in
    let high : 16 ≤ a.used = omega arith in
    let p : 2 ^ 16 ≤ 2 ^ a.used = pow-le-pow_right (omega arith) high in
    sym (mod-eq_of_lt (let z : a.flags < 2 ^ a.used = omega arith in z))

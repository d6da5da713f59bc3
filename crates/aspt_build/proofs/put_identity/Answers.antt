use Rattle.le.proofs.Numbers.{puts_all}
use Rattle.aspt_build.proofs.Written.{put_next}
use Rattle.aspt_build.specs.Write.{identity_fields}
use Rattle.le.specs.Le.{le_bytes, bytes_of}
use native.Mathlib.Omega.{arith}
use mathlib.Core.Path.{◌∙◌}
use Rattle.aspt_build.proofs.put_identity.Goals as goal

pub returns : goal.returns
unfolding bytes_of le_bytes
returns c =
    let a = c.args in
    put_next _ _ c.put8-2.ensures (put_next _ _ c.put8.ensures (put_next _ _ c.put32-2.ensures c.put32.ensures))
    ∙ puts_all (identity_fields a.sum) a.buf.now 0 (omega arith)

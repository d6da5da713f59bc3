use Rattle.le.proofs.Numbers.{puts_all}
use Rattle.aspt_build.proofs.Written.{put_next}
use Rattle.aspt_build.specs.Write.{space_fields}
use Rattle.le.specs.Le.{le_bytes, bytes_of}
use native.Mathlib.Omega.{arith}
use mathlib.Core.Path.{◌∙◌}
use Rattle.aspt_build.proofs.put_space.Goals as goal

pub returns : goal.returns
unfolding bytes_of le_bytes
returns c =
    let a = c.args in
    put_next _ _ c.put32-2.ensures (put_next _ _ c.put32.ensures c.put64.ensures)
    ∙ puts_all (space_fields a.table) a.buf.now 36 (omega arith)

use Rattle.le.proofs.Numbers.{puts_all}
use Rattle.aspt_build.proofs.Written.{put_next}
use Rattle.aspt_build.specs.Write.{maker_fields}
use Rattle.le.specs.Le.{le_bytes, bytes_of}
use native.Mathlib.Omega.{arith}
use mathlib.Core.Path.{◌∙◌}
use Rattle.aspt_build.proofs.put_maker.Goals as goal

pub returns : goal.returns
unfolding bytes_of le_bytes
returns c =
    let a = c.args in
    put_next _ _ c.put32-4.ensures (put_next _ _ c.put32-3.ensures (put_next _ _ c.put32-2.ensures (put_next _ _ c.put64.ensures (put_next _ _ c.put16.ensures c.put32.ensures))))
    ∙ puts_all (maker_fields a.table) a.buf.now 10 (omega arith)

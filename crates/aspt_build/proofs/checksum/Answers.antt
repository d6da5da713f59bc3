use Rattle.aspt_build.proofs.SumLaws.{table_is}
use Rattle.aspt_build.specs.Write.{structure_fields, structure_bytes}
use Rattle.aspt.specs.Rules.{sum_of}
use Rattle.aspt.specs.declared.Structure.{Structure}
use Rattle.aspt.specs.declared.Table.{Table}
use Rattle.le.specs.Le.{bytes_of}
use Prim.Native.Nat.{ℕ, ◌-◌, ◌%◌}
use mathlib.Core.Path.{sym, ap, ◌∙◌}
use Rattle.aspt_build.proofs.checksum.Goals as goal

pub returns : goal.returns
unfolding structure_bytes
returns c =
    let own = sym c.requires in
    let sum : Structure → ℕ = λ st. sum_of (bytes_of (structure_fields st)) in
    ap (λ (x : ℕ). (256 - x % 256) % 256)
    (table_is c.args.t _ _ _ _ c.header_pairs.ensures.result_value
    (c.structure_pairs.ensures.result_value ∙ ap (λ (t : Table). sum t.first) own)
    (c.structure_pairs-2.ensures.result_value ∙ ap (λ (t : Table). sum t.second) own)
    (c.structure_pairs-3.ensures.result_value ∙ ap (λ (t : Table). sum t.third) own))

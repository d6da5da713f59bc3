use Rattle.aspt_build.proofs.Written.{own_table_twice, own_checksum, fields_written}
use Rattle.aspt_build.specs.Write.{structure_fields, structure_bytes, identity_fields, maker_fields, space_fields, checksum_of, table_bytes}
use Rattle.aspt.specs.declared.Structure.{Structure}
use Rattle.aspt.specs.declared.Table.{Table}
use Rattle.le.specs.Le.{put_bytes, bytes_of}
use borrow.Rule.Slice.PartMut.{put_mid}
use native.Mathlib.Omega.{arith}
use Prim.Native.Nat.{ℕ}
use mathlib.Core.List.{List}
use mathlib.Core.Path.{ap, ◌∙◌}
use Rattle.aspt_build.proofs.put_table.Goals as goal

pub checksum-requires : goal.checksum-requires
checksum-requires c = own_table_twice c.args.table c.own_table-table.ensures

pub returns : goal.returns
unfolding table_bytes structure_bytes
returns c =
    let t = c.args.table in
    let s = c.args.buf.now in
    let own = c.own_table-table.ensures in
    let part : Structure → List ℕ = λ st. bytes_of (structure_fields st) in
    let identity = c.put_identity.ensures ∙ ap (λ (x : ℕ). put_bytes (bytes_of (identity_fields x)) s 0) (c.checksum.ensures ∙ ap checksum_of own ∙ own_checksum t) in
    let maker = c.put_maker.ensures ∙ (λ i. put_bytes (bytes_of (maker_fields (own i))) (identity i) 10) in
    let space = c.put_space.ensures ∙ (λ i. put_bytes (bytes_of (space_fields (own i))) (maker i) 36) in
    let first = c.put_structure.ensures ∙ ap (λ (o : Table). part o.first) own in
    let second = c.put_structure-2.ensures ∙ ap (λ (o : Table). part o.second) own in
    let third = c.put_structure-3.ensures ∙ ap (λ (o : Table). part o.third) own in
    (λ i. put_mid 92 20 (put_mid 72 20 (put_mid 52 20 (space i) (first i)) (second i)) (third i))
    ∙ fields_written (checksum_of t) t s (omega arith)

use mathlib.Core.Path.{◌≡◌, sym, ap, ◌∙◌}
use native.Mathlib.Omega.{arith}
use Prim.Native.Nat.{◌-◌}
use lib.ListN.{length}
use Rattle.std.proofs.Common.{rules, Err}
use Rattle.guids.specs.declared.Guid.{Guid}
use mathlib.Core.Bool.{true}
use Rattle.std.proofs.iter.Serving.{serving}
use Rattle.reply.specs.Reply.{given, told_alone, told_search_alone}
use Rattle.guids.specs.Table.{guid_at, same_guid, length_before}
use Rattle.guids.proofs.Walk.{header_facts}
use Rattle.guids.proofs.Part.{part_lies}
use Rattle.guids.proofs.Lookup.{find_hit, find_bad}
use Rattle.guids.proofs.find_under.Goals as goal

pub returns-in_err-map_err : goal.returns-in_err-map_err
returns-in_err-map_err c = let a = c.args in
    let l = c.loop-end in
    let lies = part_lies a.image.now a.total (length a.image.now - 32 - c.from.result) c.entries_part-entries.result.now (header_facts _ _ c.requires) c.entries_part-entries.ensures (omega arith) in
    let this : same_guid (guid_at c.entries_part-entries.result.now (l.end - 18)) a.guid ≡ true = ap (λ (g : Guid). same_guid g a.guid) (sym c.guid_at.ensures) ∙ sym c.eq.ensures ∙ c.if-eq.true in
    let here : length_before c.entries_part-entries.result.now l.end l.end ≡ given c.in_ok-length.length = grind serving in
    let bad : told_search_alone (Err c.in_err-map_err.field-0.0) ≡ told_alone c.counted.result = grind serving in
    let told = find_bad _ _ _ lies _ l.end l.before _ l.invariant.within (omega arith) l.invariant.same _ here this _ (bad ∙ c.counted.ensures) in
    search (rules, told)

pub returns-then-eq : goal.returns-then-eq
returns-then-eq c = let a = c.args in
    let l = c.loop-end in
    let lies = part_lies a.image.now a.total (length a.image.now - 32 - c.from.result) c.entries_part-entries.result.now (header_facts _ _ c.requires) c.entries_part-entries.ensures (omega arith) in
    let this : same_guid (guid_at c.entries_part-entries.result.now (l.end - 18)) a.guid ≡ true = ap (λ (g : Guid). same_guid g a.guid) (sym c.guid_at.ensures) ∙ sym c.eq.ensures ∙ c.if-eq.true in
    let here : length_before c.entries_part-entries.result.now l.end l.end ≡ given c.in_ok-length.length = grind serving in
    let good : given c.in_ok-map_err.field-0 ≡ told_alone c.counted.result = grind serving in
    find_hit _ _ _ lies _ l.end l.before _ l.invariant.within (omega arith) l.invariant.same _ here this _ (good ∙ c.counted.ensures)

use mathlib.Core.Path.{◌≡◌, sym, ap, ap₂, ◌∙◌}
use mathlib.Core.Bool.{◌||◌}
use Prim.Native.Nat.{◌/◌, ◌%◌, ◌<◌}
use native.Mathlib.Omega.{arith}
use borrow.Author.Tests.{leb-false}
use Rattle.reply.proofs.SomeLaws.{some_more, some_none}
use Rattle.directory.specs.Looks.{faulty_head, bad_at}
use Rattle.directory.proofs.Heads.{seen_none, seen_tells, seen_more}
use Rattle.directory.proofs.Steps.{or_false}
use Rattle.directory.proofs.Entries.bad_by_few_marks.Goals as goal

pub loop-i-init : goal.loop-i-init
loop-i-init c = let e = c.args.self.now in
    λ none. (some_none (bad_at e.kind e.level e.image.now e.at.0), seen_none e.kind e.image.now e.at.0 64)

pub loop-i-preserved : goal.loop-i-preserved
loop-i-preserved c = λ none.
    let e = c.args.self.now in
    let is = c.head_at-head.ensures in
    let before = or_false c.either.result c.loop-i.bad (sym c.either-bad.ensures ∙ none) in
    let both = or_false c.faulty_head.result c.either-again.result (sym c.either.ensures ∙ before.0) in
    let mark = or_false _ c.marked.result (sym c.either-again.ensures ∙ both.1) in
    let small : c.head_at-head.result % 65536 < 4096 = leb-false _ _ mark.0 in
    let place : c.cell-w.result % 64 ≡ (c.head_at-head.result % 65536) / 64 = omega (arith, c.cell-w.ensures.value) in
    let now = c.loop-i.invariant before.1 in
    let fault = c.faulty_head.ensures ∙ ap (faulty_head e.kind e.level) is in
    let again = c.marked.ensures ∙ seen_tells e.kind e.image.now e.at.0 e.bytes now.1 is small place in (
      some_more (bad_at e.kind e.level e.image.now e.at.0) c.loop-i.i ∙ ap₂ ◌||◌ (ap₂ ◌||◌ (sym fault ∙ both.0) (sym again ∙ mark.1)) now.0,
      seen_more e.kind e.image.now e.at.0 e.bytes now.1 is small place c.with_mark.ensures,
    )

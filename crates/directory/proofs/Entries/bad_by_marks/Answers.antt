use mathlib.Core.Path.{sym, ap, ap₂, ◌∙◌}
use mathlib.Core.Bool.{◌||◌}
use native.Mathlib.Omega.{arith}
use Rattle.reply.proofs.SomeLaws.{some_more, some_none}
use Rattle.directory.specs.Looks.{faulty_head, bad_at}
use Rattle.directory.proofs.Heads.{seen_none, seen_tells, seen_more}
use Rattle.directory.proofs.Entries.bad_by_marks.Goals as goal

pub loop-i-init : goal.loop-i-init
loop-i-init c = let e = c.args.self.now in
    record { tells = sym (some_none (bad_at e.kind e.level e.image.now e.at.0)); seen = seen_none e.kind e.image.now e.at.0 1024 }

pub loop-i-preserved : goal.loop-i-preserved
loop-i-preserved c =
    let e = c.args.self.now in
    let now = c.loop-i.invariant in
    let is = c.head_at-head.ensures in
    let fault = c.faulty_head-fault.ensures ∙ ap (faulty_head e.kind e.level) is in
    let again = c.marked.ensures ∙ seen_tells e.kind e.image.now e.at.0 e.bytes now.seen is (omega arith) c.cell-w.ensures.value in record {
      tells = c.either-bad.ensures ∙ ap₂ ◌||◌ (c.either.ensures ∙ ap₂ ◌||◌ fault again) now.tells ∙ sym (some_more (bad_at e.kind e.level e.image.now e.at.0) c.loop-i.i);
      seen = seen_more e.kind e.image.now e.at.0 e.bytes now.seen is (omega arith) c.cell-w.ensures.value c.with_mark.ensures;
    }

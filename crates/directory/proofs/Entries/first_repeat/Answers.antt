use mathlib.Core.Path.{◌≡◌, sym, ◌∙◌}
use native.Mathlib.Omega.{arith}
use Rattle.directory.specs.Directory.{repeats_earlier}
use Rattle.directory.proofs.Heads.{seen_none, seen_tells, seen_more}
use Rattle.directory.proofs.Steps.{stops_at, goes_on}
use Rattle.directory.proofs.Entries.first_repeat.Goals as goal
use Rattle.directory.proofs.Entries.first_repeat.Goals.{After-marked}

pub loop-i-init : goal.loop-i-init
loop-i-init c = let e = c.args.self.now in
    record { none = λ j l. absurd (let z : ⊥ = omega arith in z); seen = seen_none e.kind e.image.now e.at.0 1024 }

-- the mark tells whether the entry repeats an earlier one
repeats : (c : After-marked) → let e = c.args.self.now in repeats_earlier e.kind e.image.now e.at.0 c.loop-i.i ≡ c.marked.result
repeats c = let e = c.args.self.now in
    sym (c.marked.ensures ∙ seen_tells e.kind e.image.now e.at.0 e.bytes c.loop-i.invariant.seen c.head_at.ensures (omega arith) c.cell-w.ensures.value)

pub returns-then-marked : goal.returns-then-marked
returns-then-marked c = let e = c.args.self.now in
    stops_at (repeats_earlier e.kind e.image.now e.at.0) _ _ c.loop-i-test.true c.loop-i.invariant.none (repeats (goal.at.returns-then-marked c).After-marked ∙ c.if-marked.true)

pub loop-i-preserved : goal.loop-i-preserved
loop-i-preserved c = let e = c.args.self.now in record {
  none = goes_on (repeats_earlier e.kind e.image.now e.at.0) _ c.loop-i.invariant.none (repeats (goal.at.loop-i-preserved c).After-marked ∙ c.if-marked.false);
  seen = seen_more e.kind e.image.now e.at.0 e.bytes c.loop-i.invariant.seen c.head_at.ensures (omega arith) c.cell-w.ensures.value c.with_mark.ensures;
}

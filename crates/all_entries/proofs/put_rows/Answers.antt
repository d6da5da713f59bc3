use mathlib.Core.Path.{refl, ap, ◌∙◌}
use Rattle.all_entries.proofs.Rows.{filled_none, filled_more}
use borrow.Author.Rules.{rules}
use Prim.Native.Nat.{◌-◌}
use native.Mathlib.Omega.{arith}
use Rattle.efs.specs.Rules.{rules_of}
use Rattle.all_entries.proofs.Rows.{filled}
use Rattle.all_entries.proofs.put_rows.Goals as goal

pub loop-i-init : goal.loop-i-init
loop-i-init c = let a = c.args in (omega arith, refl, filled_none (rules_of a.image.now) a.image.now a.d a.words.now)

pub loop-i-preserved : goal.loop-i-preserved
loop-i-preserved c = let l = c in
    let start = l in
    let a = start.args in
    (omega arith, search rules, filled_more (rules_of a.image.now) a.image.now a.d a.words.now l.loop-i.i (omega (arith, start.requires.3, l.total-n.ensures)) l.loop-i.words _ l.loop-i.invariant.2 c.put_entry.ensures)

pub returns : goal.returns
returns c = let l = c in
    let a = l.args in
    l.loop-i.invariant.2 ∙ ap (filled (rules_of a.image.now) a.image.now a.d a.words.now) (omega (arith, l.total-n.ensures))

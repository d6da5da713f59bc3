use native.Mathlib.Omega.{arith}
use mathlib.Core.Path.{◌∙◌}
use Rattle.lent.proofs.Laws.{words_copied}
use Rattle.lent.proofs.put.Goals as goal

pub returns-clause-words_after : goal.returns-clause-words_after
returns-clause-words_after c = let l = c.loop-i in l.invariant.2 ∙ words_copied c.args.values.now c.args.words.now l.i (omega arith) (omega arith)

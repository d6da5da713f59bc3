use mathlib.Core.Path.{◌∙◌}
use native.Mathlib.Omega.{arith}
use Rattle.fletcher.proofs.Run.{word_more}
use Rattle.fletcher.proofs.Sums.with_run.Goals as goal

pub overflow_add-sums : goal.overflow_add-sums
overflow_add-sums c = record { fits = (word_more c.args.run.now c.loop-k.k c.from-word.result c.args.self c.loop-k.sums (λ i. (c.type_inv.run i).fits) c.requires.sum_bound (omega arith) c.loop-k.invariant (c.from-word.ensures ∙ c.u16_at.ensures)).1 }

pub overflow_add-sums-in-loop-k : goal.overflow_add-sums-in-loop-k
overflow_add-sums-in-loop-k c = record { fits = (word_more c.args.run.now c.loop-k.k c.from-word.result c.args.self c.loop-k.sums (λ i. (c.type_inv.run i).fits) c.requires.sum_bound (omega arith) c.loop-k.invariant (c.from-word.ensures ∙ c.u16_at.ensures)).2 }

pub loop-k-preserved : goal.loop-k-preserved
loop-k-preserved c = (word_more c.args.run.now c.loop-k.k c.from-word.result c.args.self c.loop-k.sums (λ i. (c.type_inv.run i).fits) c.requires.sum_bound (omega arith) c.loop-k.invariant (c.from-word.ensures ∙ c.u16_at.ensures)).0

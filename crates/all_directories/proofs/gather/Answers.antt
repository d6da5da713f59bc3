use native.Mathlib.Omega.{arith}
use borrow.Author.Rules.{rules}
use Rattle.all_directories.proofs.Reached.{reached_fault, none_held, counted_end, held_end}
use Rattle.all_directories.proofs.gather.Goals as goal

pub returns-in_err-below-clause-result_value : goal.returns-in_err-below-clause-result_value
returns-in_err-below-clause-result_value c = let e = reached_fault _ _ _ _ _ _ _ c.loop-i.invariant.1 _ _ (omega arith) c.in_err-below.ensures in search rules

pub returns-in_err-below-clause-rows_held : goal.returns-in_err-below-clause-rows_held
returns-in_err-below-clause-rows_held c = none_held _ _ _ _ _ _ _ c.loop-i.invariant.1 _ _ _ (omega arith) c.in_err-below.ensures

pub returns-clause-result_value : goal.returns-clause-result_value
returns-clause-result_value c = counted_end _ _ _ _ _ _ _ c.loop-i.invariant.1 (omega arith)

pub returns-clause-rows_held : goal.returns-clause-rows_held
returns-clause-rows_held c = held_end _ _ _ _ _ _ _ c.loop-i.invariant.1 (omega arith)

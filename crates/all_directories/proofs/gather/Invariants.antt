use mathlib.Core.Path.{◌≡◌}
use lib.ListN.{length}
use Rattle.all_directories.proofs.Reached.{Reached}
use Rattle.all_directories.proofs.gather.Given as goal

abbrev pub invariant-loop-i : goal.invariant-loop-i
invariant-loop-i l = (length l.rows ≡ length l.initial.rows) × Reached l.rules l.fn.one.image.now l.fn.one.directory l.fn.one.directory.total l.count l.i l.rows

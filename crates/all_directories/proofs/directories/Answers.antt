use mathlib.Core.Path.{sym}
use Rattle.window.proofs.Length.{allowed_test}
use Rattle.flash.proofs.Ways.{opened_small}
use Rattle.all_directories.proofs.directories.Goals as goal

pub invariant_of-list : goal.invariant_of-list
invariant_of-list c = let o = opened_small _ _ _ 1 (sym c.in-Ok.ensures) in record { allowed = allowed_test _ o.0; few = o.1 }

use mathlib.Core.Path.{◌∙◌}
use Rattle.place.proofs.View.{part_kept}
use Rattle.place.proofs.part_at.Goals as goal

pub returns : goal.returns
returns c = c.part_in.ensures ∙ part_kept _ _ _ _ _ c.rules_of-rules.ensures c.in_ok-d.ensures

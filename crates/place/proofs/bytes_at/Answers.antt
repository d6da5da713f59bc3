use mathlib.Core.Path.{ap, ◌∙◌}
use Rattle.entries.specs.Part.{bytes_of, begin_of}
use Rattle.place.proofs.View.{part_kept}
use Rattle.place.proofs.bytes_at.Goals as goal

pub returns-in-Ok : goal.returns-in-Ok
returns-in-Ok c = let a = c.args in
    let e = part_kept a.image.now a.place.0 a.i c.rules_of-rules.result c.in-Ok.d c.rules_of-rules.ensures c.in-Ok.ensures in
    (c.bytes_in.ensures.result_value ∙ ap (bytes_of a.image.now) e, c.bytes_in.ensures.ref_ptr_value ∙ ap (begin_of a.image.ref_ptr) e)

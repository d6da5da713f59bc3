use mathlib.Core.Path.{◌∙◌}
use Rattle.all_entries.proofs.Rows.{row_put}
use Rattle.all_entries.proofs.put_entry.Goals as goal

pub returns : goal.returns
returns c = let a = c.args in
    c.copy_from_slice.ensures.after
    ∙ row_put a.image.now a.d a.i _ c.rules_of-rules.ensures _ c.place-at.ensures _ c.entry_place-from.ensures.value c.requires.0 c.requires.1 _ c.fields_of-e.ensures
    _ _ c.entry_part-part.ensures c.row_of-values.ensures

use Rattle.le.proofs.Numbers.{puts_fill}
use Rattle.aspt_build.proofs.Written.{put_next, structure_written}
use Rattle.le.specs.Field.{field, filled}
use Rattle.le.specs.Le.{le_bytes, Number, bytes_of}
use Prim.Native.Nat.{ℕ}
use mathlib.Core.List.{List, ◌∷◌, []}
use mathlib.Core.Path.{sym, ◌∙◌}
use borrow.Author.Rules.{rules}
use Rattle.aspt_build.proofs.put_structure.Goals as goal

-- a structure's bytes, as the code writes them
abbrev fields : ℕ → ℕ → ℕ → List Number
fields front two third = filled (field 8 0) front ∷ filled (field 8 8) two ∷ filled (field 4 16) third ∷ []

pub returns : goal.returns
unfolding bytes_of le_bytes
returns c =
    let a = c.args in
    put_next _ _ c.put32.ensures (put_next _ _ c.put64-2.ensures c.put64.ensures)
    ∙ puts_fill (fields c.front.result c.joined.result a.st.third) a.part.now (sym c.requires)
    ∙ (λ i. bytes_of (fields (c.front.ensures i) (c.joined.ensures i) a.st.third))
    ∙ structure_written a.st (search rules) (search rules) (search rules)

use Rattle.std.proofs.Common.{◌≡◌, true, false, ◌∙◌, arith, rules, tests}
use Rattle.std.proofs.lemmas.Iterator.{first_from_Range}
use Rattle.directory.specs.Directory.{same_entry}
use Rattle.directory.proofs.Steps.{found_or}
use Rattle.directory.proofs.earlier_of.Goals as goal

pub returns : goal.returns
returns c =
    let a = c.args in
    let same = same_entry a.kind a.image.now a.at.0 a.i in
    c.unwrap_or.ensures ∙ found_or same a.i _ (first_from_Range _ _ _ _ (λ j. same j ≡ true) (λ j. same j ≡ false) c.find.ensures.ran (λ x q k. grind (arith, tests)) (λ x q k. (search rules, grind (arith, tests))))

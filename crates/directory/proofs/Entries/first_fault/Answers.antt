use Rattle.std.proofs.Common.{◌≡◌, true, false, ◌∙◌, arith, rules, tests}
use Rattle.std.proofs.lemmas.Iterator.{first_from_Range}
use Rattle.directory.specs.Looks.{faulty_at}
use Rattle.directory.proofs.Steps.{found_or}
use Rattle.directory.proofs.Entries.first_fault.Goals as goal

pub returns-clause-value : goal.returns-clause-value
returns-clause-value c =
    let e = c.args.self.now in
    let faulty = faulty_at e.kind e.level e.image.now e.at.0 in
    c.unwrap_or.ensures ∙ found_or faulty e.total _ (first_from_Range _ _ _ _ (λ j. faulty j ≡ true) (λ j. faulty j ≡ false) c.find.ensures.ran (λ x q k. grind (arith, tests)) (λ x q k. (search rules, grind (arith, tests))))

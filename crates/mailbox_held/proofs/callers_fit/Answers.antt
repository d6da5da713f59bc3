use mathlib.Core.Path.{refl, sym, ◌∙◌}
use borrow.Author.Rules.{rules}
use borrow.Author.Tests.{tests}
use mathlib.Core.List.{map}
use Rattle.std.proofs.lemmas.Iterator.{YieldsList-from_range}
use Rattle.std.proofs.lemmas.Iterator.Search.{all_from_yields_List}
use Rattle.mailbox.specs.Consistent.{caller_fits}
use Rattle.mailbox.proofs.ConsistentLaws.{all_below_all}
use Rattle.mailbox_layout.specs.Layout.{post_from, place_from}
use Rattle.mailbox_held.proofs.callers_fit.Goals as goal

pub returns : goal.returns
returns c =
    let fit = caller_fits (map post_from c.args.line.now) c.args.register (map place_from c.args.places.now) in
    all_from_yields_List fit _ _ c.all.result c.all.ensures.ran (YieldsList-from_range 0 8 8 refl refl) (λ x b q k. search (rules, tests))
    ∙ sym (all_below_all 8 fit)

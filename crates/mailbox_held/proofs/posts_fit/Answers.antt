use mathlib.Core.Path.{sym, ◌∙◌}
use borrow.Author.Rules.{rules}
use borrow.Author.Tests.{tests}
use Rattle.std.proofs.lemmas.Iterator.{YieldsList-from_slice}
use Rattle.std.proofs.lemmas.Iterator.Search.{all_from_yields_List}
use Rattle.mailbox.specs.Consistent.{post_fits}
use Rattle.mailbox_layout.specs.Layout.{post_from}
use Rattle.mailbox_held.proofs.FitLaws.{posts_all}
use Rattle.mailbox_held.proofs.posts_fit.Goals as goal

pub returns : goal.returns
returns c =
    all_from_yields_List (λ w. post_fits (post_from w)) _ _ _ c.all.ensures.ran (YieldsList-from_slice c.args.line.now cc) (λ x b q k. search (rules, tests))
    ∙ sym (posts_all c.args.line.now)

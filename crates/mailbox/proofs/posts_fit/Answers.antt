use mathlib.Core.Path.{sym, ◌∙◌}
use borrow.Author.Rules.{rules}
use borrow.Author.Tests.{tests}
use Rattle.std.proofs.lemmas.Iterator.{YieldsList-from_slice}
use Rattle.std.proofs.lemmas.Iterator.Search.{all_from_yields_List}
use Rattle.mailbox.specs.Consistent.{post_fits}
use Rattle.mailbox.proofs.ConsistentLaws.{posts_fit_all}
use Rattle.mailbox.proofs.posts_fit.Goals as goal

pub returns : goal.returns
returns c =
    all_from_yields_List post_fits _ _ _ c.all.ensures.ran (YieldsList-from_slice c.args.posts.now cc) (λ x b q k. search (rules, tests))
    ∙ sym (posts_fit_all c.args.posts.now)

use mathlib.Core.Path.{refl, sym, ◌∙◌}
use borrow.Author.Rules.{rules}
use borrow.Author.Tests.{tests}
use Rattle.std.proofs.lemmas.Iterator.{YieldsList-from_range}
use Rattle.std.proofs.lemmas.Iterator.Search.{all_from_yields_List}
use Rattle.mailbox.specs.Machine.{waiting}
use Rattle.mailbox.specs.Consistent.{caller_fits}
use Rattle.mailbox.proofs.ConsistentLaws.{all_below_all}
use Rattle.mailbox.proofs.Mailbox.callers_fit.Goals as goal

pub returns : goal.returns
returns c =
    let m = c.args.self.now in
    all_from_yields_List (caller_fits (waiting m) m.register m.places) _ _ c.all.result c.all.ensures.ran (YieldsList-from_range 0 8 8 refl refl) (λ x b q k. search (rules, tests))
    ∙ sym (all_below_all 8 (caller_fits (waiting m) m.register m.places))

use mathlib.Core.Path.{◌∙◌}
use borrow.Author.Rules.{rules}
use borrow.Author.Tests.{tests}
use lib.ListN.{take, drop}
use Rattle.std.proofs.lemmas.Iterator.{YieldsList-from_slice}
use Rattle.std.proofs.lemmas.Iterator.Search.{all_from_yields_List}
use Rattle.mailbox_held.proofs.HeldLaws.{place_kept, places_all}
use Rattle.mailbox_held.proofs.Packed.places_held.Goals as goal

pub returns : goal.returns
returns c =
    all_from_yields_List place_kept _ _ _ c.all.ensures.ran (YieldsList-from_slice (take 8 (drop 16 c.args.self.words.now)) cc) (λ x b q k. search (rules, tests))
    ∙ places_all c.args.self.words.now c.args.self.long

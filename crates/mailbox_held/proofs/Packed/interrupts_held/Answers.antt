use mathlib.Core.Path.{refl, sym, ◌∙◌}
use borrow.Author.Rules.{rules}
use borrow.Author.Tests.{tests}
use Prim.Native.Nat.{◌+◌, ◌*◌}
use Rattle.std.proofs.lemmas.Iterator.{YieldsList-from_range}
use Rattle.std.proofs.lemmas.Iterator.Search.{all_from_yields_List}
use Rattle.mailbox.proofs.ConsistentLaws.{all_below_all}
use Rattle.mailbox_held.specs.Held.{held_between}
use Rattle.mailbox_held.proofs.HeldLaws.{eights_all}
use Rattle.mailbox_held.proofs.Packed.interrupts_held.Goals as goal

pub returns : goal.returns
returns c =
    let ws = c.args.self.words.now in
    all_from_yields_List (λ k. held_between ws (24 + k * 8) (24 + k * 8 + 8)) _ _ c.all.result c.all.ensures.ran (YieldsList-from_range 0 8 8 refl refl) (λ x b q k. search (rules, tests))
    ∙ sym (all_below_all 8 (λ k. held_between ws (24 + k * 8) (24 + k * 8 + 8)))
    ∙ eights_all ws 8

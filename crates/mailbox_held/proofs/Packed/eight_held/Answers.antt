use mathlib.Core.Path.{◌≡◌, ap, ◌∙◌}
use Prim.Native.Nat.{ℕ, ◌+◌, ◌-◌}
use native.Mathlib.Omega.{arith}
use borrow.Author.Rules.{rules}
use borrow.Author.Tests.{tests}
use lib.ListN.{take, drop}
use Rattle.std.proofs.lemmas.Iterator.{YieldsList-from_slice}
use Rattle.std.proofs.lemmas.Iterator.Search.{all_from_yields_List}
use Rattle.mailbox_held.proofs.HeldLaws.{id_kept, eight_all, eight_zero}
use Rattle.mailbox_held.proofs.Packed.eight_held.Goals as goal

pub returns-then-four_zero-2 : goal.returns-then-four_zero-2
returns-then-four_zero-2 c =
    eight_zero c.args.self.words.now c.args.at c.requires.0 c.requires.1 (c.four_zero.ensures c.if-four_zero.true) (c.four_zero-then-four_zero.ensures c.if-four_zero-2.true)

pub returns : goal.returns
returns c =
    let same : c.args.at + 8 - c.args.at ≡ 8 = omega arith in
    all_from_yields_List id_kept _ _ _ c.all.ensures.ran (YieldsList-from_slice (take 8 (drop c.args.at c.args.self.words.now)) (c.iter.ensures.rest ∙ ap (λ (k : ℕ). take k (drop c.args.at c.args.self.words.now)) same))
    (λ x b q k. search (rules, tests))
    ∙ eight_all c.args.self.words.now c.args.at c.requires.0 c.requires.1 c.args.self.long

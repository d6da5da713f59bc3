use mathlib.Core.Path.{ap, ◌∙◌}
use Prim.Native.Nat.{ℕ, ◌+◌}
use borrow.Author.Rules.{rules}
use Rattle.le.specs.Le.{le_bytes}
use Rattle.aspt.specs.Rules.{sum_of}
use Rattle.aspt_build.proofs.SumLaws.{header_is}
use Rattle.aspt_build.proofs.header_pairs.Goals as goal

pub returns-clause-result_value : goal.returns-clause-result_value
returns-clause-result_value c =
    let t = c.args.t in
    let high = ap (λ (x : ℕ). sum_of (le_bytes 4 t.oem_low) + sum_of (le_bytes 4 x)) c.from.ensures in
    header_is t (search rules) _ _ _ _ _ _ (c.joined_pairs.ensures.result_value ∙ high) c.pairs.ensures.result_value
    c.joined_pairs-2.ensures.result_value c.joined_pairs-3.ensures.result_value c.pairs-2.ensures.result_value c.joined_pairs-4.ensures.result_value

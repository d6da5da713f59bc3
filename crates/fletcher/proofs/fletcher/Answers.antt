use mathlib.Core.Path.{◌≡◌, refl, ◌∙◌}
use Prim.Native.Nat.{◌/◌}
use borrow.Author.Rules.{rules}
use lib.ListN.{length}
use Rattle.fletcher.specs.Fletcher.{words_at, sum_of, weighted_of, fletcher_of}
use Rattle.fletcher.proofs.Modulo.{written_mod}
use Rattle.fletcher.proofs.Run.{so_far_start, so_far_more, so_far_all}
use Rattle.fletcher.proofs.fletcher.Goals as goal

pub loop-run-init : goal.loop-run-init
loop-run-init c =
    let all : c.into_iter-run-iterator.result.rest.now ≡ c.args.s.now = search rules in
    (search rules, rw all (so_far_start c.args.s.now _ (refl, refl)))

pub loop-run-preserved : goal.loop-run-preserved
loop-run-preserved c =
    let step = c.in-Some.ensures.steps in
    let sums = c.with_run-sums.ensures in
    (search rules, so_far_more _ _ _ _ _ _ c.loop-run.invariant.1 step.1.0 (rw c.loop-run.invariant.0 at step.1.1) step.1.2 sums.sum sums.weighted)

pub returns : goal.returns
unfolding fletcher_of
returns c =
    let s = c.args.s.now in
    let ws = words_at (length s / 2) s 0 in
    let f = so_far_all s _ _ c.loop-run.invariant.1 c.in-None.ensures.steps.1.0 in
    c.field.ensures ∙ rw (f.1, f.0, written_mod (weighted_of ws), written_mod (sum_of ws))

use mathlib.Core.Path.{sym, ap, ◌∙◌}
use native.Mathlib.Nat.{add-zero}
use native.Mathlib.Omega.{arith}
use Prim.Native.Nat.{◌+◌}
use Rattle.reply.specs.Reply.{given}
use Rattle.std.proofs.Common.{rules}
use Rattle.guids.proofs.Walk.{length_facts, seen_all, seen_refused, seen_one, count_from, count_start}
use Rattle.guids.proofs.counted.Goals as goal

pub loop-end-preserved : goal.loop-end-preserved
loop-end-preserved c = let l = c.loop-end in
    let here = sym c.in_ok-end.ensures in
    let f = length_facts _ _ _ _ here in
    record {
      within = omega arith;
      few = omega arith;
      same = seen_one _ l.end l.end (count_from l.count) _ l.invariant.same (omega arith) _ here (count_from (l.count + 1)) (λ es. ap given (omega arith));
    }

pub returns-in_err-end : goal.returns-in_err-end
returns-in_err-end c = let l = c.loop-end in
    let refused = seen_refused _ l.end l.end (count_from l.count) _ l.invariant.same (omega arith) _ _ (sym c.in_err-end.ensures) ∙ count_start _ in
    search (rules, refused)

pub returns : goal.returns
returns c = let l = c.loop-end in
    ap given (sym (add-zero l.count)) ∙ seen_all _ l.end l.end (count_from l.count) _ l.invariant.same (omega arith) ∙ count_start _

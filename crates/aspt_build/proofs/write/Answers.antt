use borrow.Author.Tests.{le-leb}
use lib.Dec.{leb}
use lib.ListN.{length, drop}
use mathlib.Core.List.{List, ◌++◌}
use mathlib.Core.Path.{sym, ap, ◌∙◌}
use Prim.Native.Nat.{ℕ}
use Rattle.reply.specs.Reply.{Reply, alone, guard, then}
use Rattle.reply.proofs.ReplyLaws.{passed}
use Rattle.aspt.specs.Rules.{done}
use Rattle.aspt_build.specs.Write.{write_of, written_by}
use Rattle.aspt_build.proofs.write.Goals as goal

pub returns : goal.returns
unfolding write_of
returns c =
    let t = c.args.table in
    let s = c.args.buf.now in
    let room = guard (leb 112 (length s)) 12 done in
    let e = sym (passed _ 12 alone done (le-leb _ _ c.in-Some.ensures.cases.enough)) ∙ ap (λ (r : Reply Unit). then r (λ _. room)) c.in_ok-admit.ensures in
    record { result_value = e; buf_after = ap (λ (bytes : List ℕ). bytes ++ drop 112 s) c.put_table.ensures ∙ ap (written_by t s) e }

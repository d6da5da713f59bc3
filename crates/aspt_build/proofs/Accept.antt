-- Which tables are written, both ways. Assumes nothing.
use mathlib.Core.Path.{ap, ◌∙◌}
use lib.ListN.{length}
use lib.Dec.{leb}
use borrow.Author.Tests.{le-leb, leb-true}
use Rattle.reply.specs.Reply.{Reply, alone, check, then}
use Rattle.reply.proofs.ReplyLaws.{past, passed, then_given}
use Rattle.aspt.specs.Rules.{done}
use Rattle.aspt.specs.Calls.{admit_of}
use Rattle.aspt.proofs.Accept.{admit_only, admit_all}
use Rattle.aspt_build.specs.Write.{write_of}
use Rattle.aspt_build.specs.Accept.{WriteAcceptance}

pub write_acceptance : WriteAcceptance
unfolding write_of
write_acceptance = record {
  only = λ t s e.
      let g = then_given (admit_of t) _ e in
      (admit_only t g.1, leb-true 112 (length s) (past (leb 112 (length s)) _ _ _ g.2).0);
  all = λ t s g room. ap (λ (r : Reply Unit). then r (λ _. check (leb 112 (length s)) 12 alone done)) (admit_all t g) ∙ passed _ _ _ _ (le-leb 112 (length s) room);
}

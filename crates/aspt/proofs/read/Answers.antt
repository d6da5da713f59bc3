use borrow.Author.Tests.{le-leb}
use mathlib.Core.Path.{sym, ap, ◌∙◌}
use Rattle.reply.specs.Reply.{alone}
use Rattle.reply.proofs.ReplyLaws.{passed}
use Rattle.aspt.specs.Calls.{table_of, read_of}
use Rattle.aspt.proofs.read.Goals as goal

pub returns : goal.returns
unfolding read_of
returns c = let chunk = c.in-Some.ensures.cases in c.table_of.ensures ∙ ap table_of chunk.same ∙ sym (passed _ 1 alone _ (le-leb _ _ chunk.enough))

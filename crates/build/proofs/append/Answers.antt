use borrow.Author.Rules.{rules}
use Rattle.build.proofs.Appended.{append_put}
use Rattle.build.proofs.append.Goals as goal

pub returns : goal.returns
returns c = search (rules, append_put)

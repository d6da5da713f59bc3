-- Two results of a call that fit its promise are equal. Assumes nothing.
use Rattle.reply.specs.Reply.{told_alone, Settled}
use Rattle.reply.proofs.ReplyLaws.{settled}
use Rattle.reply.proofs.Told.{told_alone_one}
use Rattle.aspt.specs.declared.Table.{Table}

pub table_settled : Settled (told_alone {A = Table})
table_settled = settled told_alone told_alone_one

pub check_settled : Settled (told_alone {A = Unit})
check_settled = settled told_alone told_alone_one

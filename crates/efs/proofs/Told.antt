-- Two results of a search for the EFS, or for the directory pointer, that fit its promise are equal. Assumes nothing.
use Rattle.reply.specs.Reply.{Settled, told_alone}
use Rattle.reply.proofs.ReplyLaws.{settled}
use Rattle.reply.proofs.Told.{told_alone_one}
use Rattle.efs.specs.declared.Efs.{Efs}
use Rattle.efs.specs.declared.Pointer.{Pointer}

pub efs_settled : Settled (told_alone {A = Efs})
efs_settled = settled told_alone told_alone_one

pub pointer_settled : Settled (told_alone {A = Pointer})
pointer_settled = settled told_alone told_alone_one

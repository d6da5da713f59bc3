-- Two results of the version that fit its promise are equal. Assumes nothing.
use Prim.Native.Nat.{ℕ}
use Rattle.reply.specs.Reply.{Settled, told_alone}
use Rattle.reply.proofs.ReplyLaws.{settled}
use Rattle.reply.proofs.Told.{told_alone_one}

pub version_settled : Settled (told_alone {A = ℕ})
version_settled = settled told_alone told_alone_one

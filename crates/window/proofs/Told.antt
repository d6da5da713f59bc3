-- Two results of the conversion, and two of the making of an image, that fit one promise are equal. Assumes nothing.
use Rattle.std.specs.Prelude.{ℕ, List}
use Rattle.reply.specs.Reply.{Settled, told_alone}
use Rattle.reply.proofs.ReplyLaws.{settled}
use Rattle.reply.proofs.Told.{told_alone_one}
use Rattle.window.specs.declared.Offset.{Offset}

pub offset_settled : Settled (told_alone {A = Offset})
offset_settled = settled told_alone told_alone_one

-- an image is seen as the list of its bytes
pub image_settled : Settled (told_alone {A = List ℕ})
image_settled = settled told_alone told_alone_one

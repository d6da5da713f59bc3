-- What each answer tells is one-to-one, so a promise leaves one result. Assumes nothing.
use Rattle.reply.proofs.Told.{told_one}
use Rattle.directory.specs.Good.{ToldApart}

pub told_apart : ToldApart
told_apart = record { directory = told_one; repeated = told_one }

-- What each answer tells is one-to-one, so a promise leaves one result. Assumes nothing.
use Rattle.reply.proofs.Told.{told_one, told_search_one}
use Rattle.entries.specs.Good.{ToldApart}

pub told_apart : ToldApart
told_apart = record { entry = told_one; lead = told_one; lookup = told_search_one; part = told_one }

-- No two answers of a step tell the same. Assumes nothing.
use Rattle.reply.proofs.Told.{told_alone_one}
use Rattle.mailbox_calls.proofs.Settled.{beside}
use Rattle.mailbox_steps.specs.Settled.{Settled}

pub settled : Settled
settled = record { step = told_alone_one; after_step = beside }

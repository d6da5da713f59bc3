-- No two answers tell the same, with the mailbox beside them too. Assumes nothing.
use mathlib.Core.Path.{◌≡◌, sym, ap, ap₂, ◌∙◌}
use Rattle.std.specs.Prelude.{Result}
use Rattle.reply.specs.Reply.{Reply}
use Rattle.reply.specs.declared.Refusal.{Refusal}
use Rattle.reply.proofs.Told.{told_alone_one}
use Rattle.mailbox.specs.declared.Mailbox.{Mailbox}
use Rattle.mailbox_calls.specs.Calls.{After, after, told_after}
use Rattle.mailbox_calls.specs.Settled.{Settled}

pub beside : {A : Type 0} (promised : After (Reply A)) (x y : After (Result A Refusal)) → told_after x ≡ promised → told_after y ≡ promised → x ≡ y
beside {A = A} promised x y p q =
    let e = p ∙ sym q in
    ap₂ {A = Mailbox} {B = Result A Refusal} {C = After (Result A Refusal)} (λ m a. after m a)
    (ap (λ (a : After (Reply A)). a.mailbox) e)
    (told_alone_one x.answer y.answer (ap (λ (a : After (Reply A)). a.answer) e))

pub settled : Settled
settled = record { post = told_alone_one; word = told_alone_one; after_post = beside; after_take = beside }

-- No two answers of a step tell the same, so two results that fit one promise are equal: stated. The proofs stand in proofs/Settled.antt.
use Rattle.std.specs.Prelude.{◌≡◌, Bool, Result}
use Rattle.reply.specs.Reply.{Reply, OneToOne, told_alone}
use Rattle.reply.specs.declared.Refusal.{Refusal}
use Rattle.mailbox_calls.specs.Calls.{After, told_after}

pub record Settled : Type 0 where
  pub step : OneToOne (told_alone {A = Bool})
  -- the same with the mailbox beside the answer
  pub after_step : (promised : After (Reply Bool)) (x y : After (Result Bool Refusal)) → told_after x ≡ promised → told_after y ≡ promised → x ≡ y

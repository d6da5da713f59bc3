-- No two answers tell the same, so two results that fit one promise are equal: stated. The proofs stand in proofs/Settled.antt.
use Rattle.std.specs.Prelude.{◌≡◌, ℕ, Result}
use Rattle.reply.specs.Reply.{Reply, OneToOne, told_alone}
use Rattle.reply.specs.declared.Refusal.{Refusal}
use Rattle.mailbox_calls.specs.Calls.{After, Accepted, told_after}

pub record Settled : Type 0 where
  pub post : OneToOne (told_alone {A = Accepted})
  pub word : OneToOne (told_alone {A = ℕ})
  -- the same with the mailbox beside the answer
  pub after_post : (promised : After (Reply Accepted)) (x y : After (Result Accepted Refusal)) → told_after x ≡ promised → told_after y ≡ promised → x ≡ y
  pub after_take : (promised : After (Reply ℕ)) (x y : After (Result ℕ Refusal)) → told_after x ≡ promised → told_after y ≡ promised → x ≡ y

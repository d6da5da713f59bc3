-- Where a pointer leads, case by case, as the code comes to it. Assumes nothing.
use mathlib.Core.Path.{◌≡◌, sym, ap, ◌∙◌}
use mathlib.Core.List.{List}
use Prim.Native.Nat.{ℕ, ◌<◌, ◌≤◌}
use borrow.Author.Tests.{le-leb, lt-leb, lt-ltb, le-ltb}
use Rattle.std.specs.Prelude.{Result, Ok, Err}
use Rattle.reply.specs.Number.{refusal_number}
use Rattle.reply.specs.Reply.{Reply, given, refused, alone, told_alone}
use Rattle.reply.specs.declared.Refusal.{Refusal}
use Rattle.reply.proofs.ReplyLaws.{then_told}
use Rattle.window.specs.Window.{window_start, offset_in, within}
use Rattle.window.specs.declared.Offset.{Offset}
use Rattle.window.proofs.Inside.{offset_fact, below_window}
use Rattle.efs.specs.Efs.{pointer_to}

module _ (window : ℕ) (s : List ℕ) (p : ℕ) (q : Result Offset Refusal) (asked : told_alone q ≡ offset_in window p) where
  pub as_address : {x : Reply Offset} (o : Offset) → q ≡ Ok o → x ≡ within s o.0 (given o) → x ≡ pointer_to window s p
  unfolding pointer_to
  as_address o is h =
      let shown = offset_fact window p o (sym asked ∙ ap told_alone is) in
      simp (le-leb _ _ shown.0) (h ∙ then_told told_alone (λ o. within s o.0 (given o)) is asked)

  module _ (refusal : Refusal) (is : q ≡ Err refusal) (small : p ≤ 0xFFFF_FFFF) where
    below : p < window_start window
    below = below_window window p (refusal_number refusal) alone small (sym asked ∙ ap told_alone is)

    pub as_offset : {x : Reply Offset} → p < window → x ≡ within s p (given (record { 0 = p })) → x ≡ pointer_to window s p
    unfolding pointer_to
    as_offset h e = simp (lt-leb _ _ below, lt-ltb _ _ h) e

    pub as_neither : window ≤ p → refused 7 alone ≡ pointer_to window s p
    unfolding pointer_to
    as_neither h = simp (lt-leb _ _ below, le-ltb _ _ h)

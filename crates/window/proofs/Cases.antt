-- What the window answers, case by case, as the code comes to it. Assumes nothing.
use mathlib.Core.Path.{◌≡◌, sym, ap, ◌∙◌}
use Prim.Native.Nat.{ℕ, ◌-◌, ◌<◌, ◌≤◌}
use native.Mathlib.Omega.{arith}
use borrow.Author.Tests.{le-leb, lt-leb}
use Rattle.reply.specs.Reply.{given, refused, alone}
use Rattle.reply.proofs.ReplyLaws.{passed, failed}
use Rattle.window.specs.Window.{window_start, offset_in}

-- of a window that begins at `first`
module _ (window first a : ℕ) (begins : first ≡ window_start window) where
  pub below : a < first → refused 7 alone ≡ offset_in window a
  unfolding offset_in
  below h = sym (failed _ _ _ _ (lt-leb (window_start window) a (omega (arith, begins))))

  module _ (inside : first ≤ a) where
    low : window_start window ≤ a
    low = omega (arith, begins)

    pub above : 0xFFFF_FFFF < a → refused 7 alone ≡ offset_in window a
    unfolding offset_in
    above h = sym (passed _ _ _ _ (le-leb _ _ low) ∙ failed _ _ _ _ (lt-leb _ _ h))

    pub shown : a ≤ 0xFFFF_FFFF → given (record { 0 = a - first }) ≡ offset_in window a
    unfolding offset_in
    shown h = ap (λ (x : ℕ). given (record { 0 = a - x })) begins ∙ sym (passed _ _ _ _ (le-leb _ _ low) ∙ passed _ _ _ _ (le-leb _ _ h))

-- The window's acceptance, both ways. Assumes nothing.
use mathlib.Core.Path.{◌≡◌, refl, sym, ap, ◌∙◌}
use mathlib.Core.Bool.{Bool, true, false}
use Prim.Native.Nat.{ℕ, ◌-◌, ◌<◌, ◌≤◌}
use native.Mathlib.Omega.{arith}
use lib.Dec.{leb}
use borrow.Author.Tests.{leb-true, leb-false, le-leb}
use Rattle.reply.specs.Reply.{Carried, given, refused}
use Rattle.reply.proofs.ReplyLaws.{past, passed, clash}
use Rattle.window.specs.declared.Offset.{Offset}
use Rattle.window.specs.Window.{four_gib, window_start, offset_in}
use Rattle.window.specs.Inside.{Shown, WindowsAccepted}

-- what the checks say of an address whose offset is given
pub offset_fact : (window a : ℕ) (o : Offset) → offset_in window a ≡ given o → (window_start window ≤ a) × (a ≤ 0xFFFF_FFFF) × (a - window_start window ≡ o.0)
unfolding offset_in
offset_fact window a o e =
    let low = past (leb (window_start window) a) _ _ _ e in
    let high = past (leb a 0xFFFF_FFFF) _ _ _ low.1 in
    (leb-true _ _ low.0, leb-true _ _ high.0, cc high.1)

pub offset_given : (window a o : ℕ) → window_start window ≤ a → a ≤ 0xFFFF_FFFF → a - window_start window ≡ o → offset_in window a ≡ given (record { 0 = o })
unfolding offset_in
offset_given window a o l h e = passed _ _ _ _ (le-leb _ _ l) ∙ passed _ _ _ _ (le-leb _ _ h) ∙ ap (λ (n : ℕ). given (record { 0 = n })) e

-- an address below 4 GiB that is refused lies below the window
pub below_window : (window a number : ℕ) (carried : Carried) → a ≤ 0xFFFF_FFFF → offset_in window a ≡ refused number carried → a < window_start window
below_window window a number carried h e = by (leb (window_start window) a) refl
  where
    by : (b : Bool) → leb (window_start window) a ≡ b → a < window_start window
    by true q = clash (sym e ∙ offset_given window a (a - window_start window) (leb-true _ _ q) h refl)
    by false q = leb-false _ _ q

module _ (window : ℕ) (fits : window ≤ four_gib) where
  pub offset_shown : (a : ℕ) (o : Offset) → offset_in window a ≡ given o → Shown window a o.0
  offset_shown a o e = let f = offset_fact window a o e in record { inside = omega (arith, f.0, f.1, f.2); counted = omega (arith, f.0, f.2) }

  pub shown_offset : (a : ℕ) (o : Offset) → Shown window a o.0 → offset_in window a ≡ given o
  shown_offset a o s = offset_given window a o.0 (omega (arith, s.inside, s.counted)) (omega (arith, s.inside, s.counted)) (omega (arith, s.counted))

pub windows_accepted : WindowsAccepted
windows_accepted window fits = record { only = offset_shown window fits; all = shown_offset window fits }

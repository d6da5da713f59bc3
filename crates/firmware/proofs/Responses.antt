-- Every word and every response, proved. Assumes nothing.
use mathlib.Core.Bool.{Bool, true, false, cond, not}
use mathlib.Core.Path.{◌≡◌, refl}
use Prim.Native.Nat.{ℕ, ◌/◌, ◌%◌}
use native.Mathlib.Omega.{arith}
use lib.Dec.{eqb}
use borrow.Author.Tests.{eqb-true}
use Rattle.firmware.specs.Word.{command_in, data_in, word_of}
use Rattle.firmware.specs.Rules.{answers, id_in, kept_for, when_saved, delivering, delivery_of, rule_of}
use Rattle.firmware.specs.Responses.{Fields, Responds, Responses}
use Rattle.firmware.specs.declared.Descriptor.{Descriptor}
use Rattle.std.specs.Prelude.{Option, Some, None}
use Rattle.firmware.specs.declared.Firmware.{Firmware}
use Rattle.firmware.specs.declared.Ran.{Ran}

fields_of : (response status command d : ℕ) → Fields response status command d
unfolding word_of
fields_of response status command d = record { response_back = omega arith; status_back = omega arith; command_back = omega arith; data_back = omega arith }

-- what both arms of a test have
pub either : (P : Ran → Type 0) (b : Bool) (x y : Ran) → (b ≡ true → P x) → (b ≡ false → P y) → P (cond b x y)
either P true x y f g = f refl
either P false x y f g = g refl

module _ (f : Firmware) (w : ℕ) where
  abbrev Fits : Ran → Type 0
  Fits = Responds f w

  -- status 0, with any state
  succeeds : (g : Firmware) (c d : ℕ) → c ≡ command_in w → ((c ≡ 0x81 → ⊥) → d ≡ data_in w) → Fits (answers g 0 c d)
  succeeds g c d e same =
      let k = fields_of 1 0 c d in
      record {
        response = k.response_back;
        repeats = let h = k.command_back in omega arith;
        copies = λ n. let h = k.data_back in let s = same (λ q. n (omega arith)) in omega arith;
        changes = λ n. absurd (n k.status_back);
      }

  -- any status, with the state kept
  keeps : (status c : ℕ) → c ≡ command_in w → Fits (answers f status c (data_in w))
  keeps status c e =
      let k = fields_of 1 status c (data_in w) in
      record {
        response = k.response_back;
        repeats = let h = k.command_back in omega arith;
        copies = λ n. let h = k.data_back in omega arith;
        changes = λ n. refl;
      }

  delivers : 0x85 ≡ command_in w → Fits (delivery_of f (data_in w))
  unfolding delivery_of
  delivers c =
      either Fits f.interface _ _ (λ _. keeps 3 0x85 c)
      (λ _. either Fits (not (eqb (data_in w / 2 % 512) 0)) _ _ (λ _. keeps 0x1F 0x85 c)
      (λ _. saved (kept_for f (id_in (data_in w))).descriptor))
    where
      saved : (d : Option Descriptor) → Fits (when_saved d (answers f 2 0x85 (data_in w)) (answers (delivering f (data_in w)) 0 0x85 (data_in w)))
      saved None = keeps 2 0x85 c
      saved (Some kept) = succeeds (delivering f (data_in w)) 0x85 (data_in w) c (λ _. refl)

  fits : (c : ℕ) → c ≡ command_in w → Fits (rule_of f c (data_in w))
  unfolding rule_of
  fits c e =
      either Fits (eqb c 0x80) _ _ (λ _. succeeds _ c _ e (λ _. refl))
      (λ _. either Fits (eqb c 0x81) _ _ (λ q. succeeds f c _ e (λ n. absurd (n (eqb-true c 0x81 q))))
      (λ _. either Fits (eqb c 0x82) _ _ (λ _. succeeds _ c _ e (λ _. refl))
      (λ _. either Fits (eqb c 0x83) _ _ (λ _. succeeds _ c _ e (λ _. refl))
      (λ _. either Fits (eqb c 0x84) _ _ (λ _. succeeds _ c _ e (λ _. refl))
      (λ _. either Fits (eqb c 0x85) _ _ (λ q. delivers (let h = eqb-true c 0x85 q in omega arith)) (λ _. keeps 1 c e))))))

pub responses : Responses
responses = record { fields = fields_of; responds = λ f w. fits f w (command_in w) refl }

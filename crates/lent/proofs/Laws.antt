-- The copy of a reply's values into lent words, and what an export cites of it. Assumes nothing.
use mathlib.Core.Path.{◌≡◌, refl, sym, ap, ◌∙◌}
use mathlib.Core.Bool.{Bool, true, false, cond}
use mathlib.Core.List.{List, [], ◌∷◌, ◌++◌}
use Prim.Native.Nat.{ℕ, ◌≤◌, ◌<◌}
use native.Mathlib.Omega.{arith}
use lib.Dec.{leb}
use lib.ListN.{length, take, drop}
use lib.Seq.{take_all}
use borrow.Author.Tests.{le-leb, lt-leb}
use Rattle.reply.specs.Reply.{Reply, given, refused, alone, tested, carried_of}
use Rattle.reply.specs.Number.{refusal_number}
use Rattle.reply.specs.declared.Refusal.{Refusal}
use Rattle.reply.proofs.Told.{refusal_above}
use Rattle.reply.specs.declared.Fault.{Fault}
use Rattle.lent.specs.Lent.{lay_carried, number_for, words_for, number_left, words_left}

module _ (vs ws : List ℕ) where
  -- values that do not fit
  pub number_12 : (n : ℕ) → length ws < length vs → 12 ≡ number_for n vs ws
  unfolding number_for
  number_12 n p = rw (lt-leb _ _ p)

  pub words_12 : length ws < length vs → ws ≡ words_for vs ws
  unfolding words_for
  words_12 p = rw (lt-leb _ _ p)

  -- values that fit
  pub number_fits : (n : ℕ) → length vs ≤ length ws → n ≡ number_for n vs ws
  unfolding number_for
  number_fits n p = rw (le-leb _ _ p)

  pub words_fits : length vs ≤ length ws → vs ++ drop (length vs) ws ≡ words_for vs ws
  unfolding words_for
  words_fits p = rw (le-leb _ _ p)

-- values that fit, copied to the last
pub words_copied : (vs ws : List ℕ) (i : ℕ) → i ≡ length vs → length vs ≤ length ws → take i vs ++ drop i ws ≡ words_for vs ws
words_copied vs ws i e p = rw (e, take_all (length vs) vs (omega arith)) (words_fits vs ws p)

-- no values change no word
pub words_kept : (ws : List ℕ) → ws ≡ words_for [] ws
words_kept ws = words_fits [] ws (omega arith)

-- what a put answers tells whether the values fit, and so what a refusal that carries them answers
module _ (vs ws : List ℕ) (n : ℕ) where
  pub number_kept : ◌≡◌ {A = ℕ} 0 (number_for 0 vs ws) → n ≡ number_for n vs ws
  unfolding number_for
  number_kept e = by (leb (length vs) (length ws)) e
    where
      by : (b : Bool) → ◌≡◌ {A = ℕ} 0 (cond b 0 12) → n ≡ cond b n 12
      by true e = refl
      by false e = absurd (omega (arith, e))

  pub number_passed : (refusal : Refusal) → refusal_number refusal ≡ number_for 0 vs ws → refusal_number refusal ≡ number_for n vs ws
  unfolding number_for
  number_passed refusal e = by (leb (length vs) (length ws)) e
    where
      by : (b : Bool) → refusal_number refusal ≡ cond b 0 12 → refusal_number refusal ≡ cond b n 12
      by true e = absurd (refusal_above refusal e)
      by false e = e

  -- a number other than the one that was to be answered is 12
  pub number_full : (k : ℕ) → k ≡ number_for n vs ws → (k ≡ n → ⊥) → 12 ≡ number_for n vs ws
  unfolding number_for
  number_full k e other = by (leb (length vs) (length ws)) e
    where
      by : (b : Bool) → k ≡ cond b n 12 → 12 ≡ cond b n 12
      by true e = absurd (other e)
      by false e = refl

-- what an export leaves, once its reply is known: what it gives, a number with a count, a fault with its place, or a number alone
module _ {A : Type 0} (lay : A → List ℕ) (d : Reply A) (ws : List ℕ) where
  pub given_number : (a : A) (k : ℕ) → d ≡ given a → k ≡ number_for 0 (lay a) ws → k ≡ number_left lay d ws
  given_number a k e h = h ∙ ap (λ (r : Reply A). number_left lay r ws) (sym e)

  pub given_words : (a : A) (after : List ℕ) → d ≡ given a → after ≡ words_for (lay a) ws → after ≡ words_left lay d ws
  given_words a after e h = h ∙ ap (λ (r : Reply A). words_left lay r ws) (sym e)

  pub tested_number : (n count k : ℕ) → d ≡ refused n (tested count) → k ≡ number_for n (count ∷ []) ws → k ≡ number_left lay d ws
  tested_number n count k e h = h ∙ ap (λ (r : Reply A). number_left lay r ws) (sym e)

  pub tested_words : (n count : ℕ) (after : List ℕ) → d ≡ refused n (tested count) → after ≡ words_for (count ∷ []) ws → after ≡ words_left lay d ws
  tested_words n count after e h = h ∙ ap (λ (r : Reply A). words_left lay r ws) (sym e)

  pub fault_number : (fault : Fault) (k : ℕ) → d ≡ refused (refusal_number fault.refusal) (carried_of fault.met) → k ≡ number_for (refusal_number fault.refusal) (lay_carried (carried_of fault.met)) ws → k ≡ number_left lay d ws
  fault_number fault k e h = h ∙ ap (λ (r : Reply A). number_left lay r ws) (sym e)

  pub fault_words : (fault : Fault) (after : List ℕ) → d ≡ refused (refusal_number fault.refusal) (carried_of fault.met) → after ≡ words_for (lay_carried (carried_of fault.met)) ws → after ≡ words_left lay d ws
  fault_words fault after e h = h ∙ ap (λ (r : Reply A). words_left lay r ws) (sym e)

  pub alone_number : (n : ℕ) → d ≡ refused n alone → n ≡ number_left lay d ws
  alone_number n e = number_fits [] ws n (omega arith) ∙ ap (λ (r : Reply A). number_left lay r ws) (sym e)

  pub alone_words : (n : ℕ) → d ≡ refused n alone → ws ≡ words_left lay d ws
  alone_words n e = words_fits [] ws (omega arith) ∙ ap (λ (r : Reply A). words_left lay r ws) (sym e)

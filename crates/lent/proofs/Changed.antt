-- What a call leaves that changes lent bytes and answers one word. Assumes nothing.
use mathlib.Core.Path.{◌≡◌, refl, sym, ap}
use mathlib.Core.List.{List, [], ◌∷◌}
use mathlib.Core.Bool.{Bool, true, false, cond}
use Prim.Native.Nat.{ℕ, ◌<◌, ◌≤◌}
use native.Mathlib.Omega.{arith}
use borrow.Author.Tests.{le-leb}
use lib.ListN.{length}
use lib.Dec.{leb}
use Rattle.reply.specs.Reply.{Reply, Carried, given, refused, alone, tested, in_header, in_entry}
use Rattle.lent.specs.Lent.{values_of, number_for, words_for, number_left, words_left, bytes_left, lay_number}

-- values that fit: the bytes are changed as the reply says
module _ {A : Type 0} (lay : A → List ℕ) (d : Reply A) (after : Reply A → List ℕ) (before words : List ℕ) where
  bytes_fit : length (values_of lay d) ≤ length words → after d ≡ bytes_left lay d after before words
  unfolding bytes_left
  bytes_fit h = rw (le-leb (length (values_of lay d)) (length words) h)

  pub given_bytes : (a : A) → d ≡ given a → length (lay a) ≤ length words → after d ≡ bytes_left lay d after before words
  given_bytes a e h = bytes_fit (rw e h)

  pub alone_bytes : (n : ℕ) → d ≡ refused n alone → after d ≡ bytes_left lay d after before words
  alone_bytes n e = bytes_fit (rw e (omega arith))

  -- a reply that changes no byte: whether its values fit or not
  pub kept_bytes : after d ≡ before → after d ≡ bytes_left lay d after before words
  unfolding bytes_left
  kept_bytes e = by (leb (length (values_of lay d)) (length words))
    where
      by : (b : Bool) → after d ≡ cond b (after d) before
      by true = refl
      by false = e

-- no words lent
pub no_words : (words : List ℕ) → length words < 1 → words ≡ []
no_words [] h = refl
no_words (w ∷ words) h = absurd (let f : ⊥ = omega arith in f)

pub number_none : (d : Reply ℕ) (n : ℕ) → d ≡ given n → 12 ≡ number_left lay_number d []
unfolding number_for
number_none d n e = ap (λ (r : Reply ℕ). number_left lay_number r []) (sym e)

pub words_none : (d : Reply ℕ) → [] ≡ words_left lay_number d []
unfolding words_for
words_none (given n) = refl
words_none (refused number alone) = refl
words_none (refused number (tested count)) = refl
words_none (refused number (in_header level directory)) = refl
words_none (refused number (in_entry level index directory)) = refl

pub bytes_none : (d : Reply ℕ) (after : Reply ℕ → List ℕ) (before : List ℕ) → ((number : ℕ) (carried : Carried) → after (refused number carried) ≡ before) → before ≡ bytes_left lay_number d after before []
unfolding bytes_left
bytes_none (given n) after before h = refl
bytes_none (refused number alone) after before h = sym (h number alone)
bytes_none (refused number (tested count)) after before h = refl
bytes_none (refused number (in_header level directory)) after before h = refl
bytes_none (refused number (in_entry level index directory)) after before h = refl

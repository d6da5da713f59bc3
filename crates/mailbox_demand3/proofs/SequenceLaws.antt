-- A line run in two parts, a caller's words in two parts, and how many they are. Assumes nothing.
use mathlib.Core.Bool.{Bool, true, false, cond}
use mathlib.Core.List.{List, [], ◌∷◌, ◌++◌}
use mathlib.Core.Path.{◌≡◌, refl, ap}
use Prim.Native.Nat.{ℕ, ◌+◌}
use native.Mathlib.Omega.{arith}
use lib.ListN.{length}
use lib.Dec.{eqb}
use Rattle.firmware.specs.Rules.{run_of}
use Rattle.firmware.specs.declared.Firmware.{Firmware}
use Rattle.mailbox.specs.declared.Post.{Post}
use Rattle.mailbox.specs.Machine.{command_word}
use Rattle.mailbox.specs.Consistent.{once, times_in}
use Rattle.mailbox_demand3.specs.Log.{Got, got}
use Rattle.mailbox_demand3.specs.Sequence.{state_after, answers_to, words_of}

pub state_append : (f : Firmware) (l l' : List Post) → state_after f (l ++ l') ≡ state_after (state_after f l) l'
unfolding state_after
state_append f [] l' = refl
state_append f (p ∷ l) l' = state_append (run_of f (command_word p)).firmware l l'

pub answers_append : (f : Firmware) (l l' : List Post) → answers_to f (l ++ l') ≡ answers_to f l ++ answers_to (state_after f l) l'
unfolding state_after answers_to
answers_append f [] l' = refl
answers_append f (p ∷ l) l' = ap (λ t. got p.caller (run_of f (command_word p)).word ∷ t) (answers_append (run_of f (command_word p)).firmware l l')

pub words_append : (c : ℕ) (a b : List Got) → words_of c (a ++ b) ≡ words_of c a ++ words_of c b
unfolding words_of
words_append c [] b = refl
words_append c (t ∷ a) b = rw (words_append c a b) (go (eqb t.caller c) (words_of c a))
  where
    go : (e : Bool) (l : List ℕ) → cond e (t.word ∷ (l ++ words_of c b)) (l ++ words_of c b) ≡ cond e (t.word ∷ l) l ++ words_of c b
    go true l = refl
    go false l = refl

-- a caller gets as many words as it has posts in the line
pub words_count : (c : ℕ) (f : Firmware) (l : List Post) → length (words_of c (answers_to f l)) ≡ times_in c l
unfolding words_of answers_to times_in
words_count c f [] = refl
words_count c f (p ∷ l) = go (eqb p.caller c) _ _ (words_count c (run_of f (command_word p)).firmware l)
  where
    go : (e : Bool) (w : ℕ) (ws : List ℕ) → length ws ≡ times_in c l → length (cond e (w ∷ ws) ws) ≡ once e + times_in c l
    go true w ws h = omega arith
    go false w ws h = omega arith

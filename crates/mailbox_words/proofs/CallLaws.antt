-- The laws of a call on a mailbox in lent words: what each of its ways through leaves. Assumes nothing.
use mathlib.Core.Bool.{Bool, true, false, ◌&&◌}
use mathlib.Core.Path.{◌≡◌, refl, sym, ap, ◌∙◌}
use mathlib.Core.List.{List, [], ◌∷◌}
use Prim.Native.Nat.{ℕ, ◌+◌, ◌≤◌, ◌<◌}
use native.Mathlib.Omega.{arith}
use lib.ListN.{length, get_or, set, replicate}
use Rattle.reply.specs.Reply.{Reply, refused, alone}
use Rattle.lent.specs.Lent.{words_for}
use Rattle.lent.proofs.Laws.{words_fits, words_kept}
use Rattle.mailbox.specs.declared.Phase.TheVariants.{Response}
use Rattle.mailbox.specs.declared.PlaceState.TheVariants.{Free}
use Rattle.mailbox.specs.declared.Place.{Place}
use Rattle.mailbox.specs.declared.Mailbox.{Mailbox}
use Rattle.mailbox.specs.Machine.{place_with, state_of}
use Rattle.mailbox.specs.Consistent.{consistent_of}
use Rattle.mailbox_calls.specs.Calls.{After, after, post_of, load_of, turn_of, unload_of, take_of}
use Rattle.mailbox.proofs.Facts.{room, response_low}
use Rattle.mailbox_layout.specs.Layout.{phase_from, place_from, place_at, pack_of, unpack_of}
use Rattle.mailbox_words.specs.Calls.{lay_accepted, lay_acted, lay_word, left, left_by, call_on, fresh_words}
use Rattle.mailbox_held.specs.Held.{held_in}
use Rattle.mailbox_layout.proofs.LayoutLaws.{get_or_up_to, unpacked_whole}
use Rattle.mailbox_held.proofs.HeldLaws.{held_long}
use Rattle.mailbox_words.proofs.StoredLaws.{held_kept}

-- ---- what the words of a mailbox that is served tell
module _ (ws : List ℕ) where
  -- what stands in a caller's place
  pub state_read : (caller : ℕ) → caller ≤ 7 → state_of (unpack_of ws) caller ≡ (place_from (get_or ws (16 + caller) 0)).state
  unfolding unpack_of
  state_read caller p = ap (λ (s : Place). s.state) (get_or_up_to (place_at ws) (place_with Free) 8 caller (omega arith))

  pub count_read : (unpack_of ws).count ≡ get_or ws 3 0
  unfolding unpack_of
  count_read = refl

  pub register_read : (unpack_of ws).register ≡ phase_from (get_or ws 0 0) (get_or ws 1 0) (get_or ws 2 0)
  unfolding unpack_of
  register_read = refl

  pub line_has_room : (caller : ℕ) → consistent_of (unpack_of ws) ≡ true → caller ≤ 7 → (place_from (get_or ws (16 + caller) 0)).state ≡ Free → get_or ws 3 0 < 8
  line_has_room caller e p r = rw count_read at (room (unpack_of ws) caller (unpacked_whole ws).line_long e p (state_read caller p ∙ r))

  -- whoever a response in the register is for
  pub response_caller : (caller word : ℕ) → consistent_of (unpack_of ws) ≡ true → phase_from (get_or ws 0 0) (get_or ws 1 0) (get_or ws 2 0) ≡ Response caller word → caller ≤ 7
  response_caller caller word e r = let h = response_low (unpack_of ws) caller word e (register_read ∙ r) in omega arith

  -- a mailbox that stays
  pub words_stay : held_in ws ≡ true → words_for (pack_of (unpack_of ws)) ws ≡ ws
  words_stay h = sym (held_kept ws h)

-- ---- a call, by what it makes of the mailbox
module _ {A : Type 0} (lay : A → List ℕ) (call : Mailbox → After (Reply A)) (ws vs : List ℕ) where
  pub on_mailbox : held_in ws ≡ true → call_on lay call ws vs ≡ left_by lay (call (unpack_of ws)).mailbox (call (unpack_of ws)).answer ws vs
  unfolding call_on
  on_mailbox p = rw p

  -- words that are no mailbox's, or a mailbox's that breaks the rules
  pub on_other : (consistent_of (unpack_of ws) ≡ false → call (unpack_of ws) ≡ after (unpack_of ws) (refused 5 alone)) → (held_in ws && consistent_of (unpack_of ws)) ≡ false
      → call_on lay call ws vs ≡ left 5 ws vs
  unfolding call_on
  on_other bad e = go (held_in ws) refl e
    where
      go : (b : Bool) → held_in ws ≡ b → (b && consistent_of (unpack_of ws)) ≡ false → call_on lay call ws vs ≡ left 5 ws vs
      go true p e = rw (p, bad e)
      go false p e = rw p

-- the calls on those
module _ (ws vs : List ℕ) (bad : (held_in ws && consistent_of (unpack_of ws)) ≡ false) where
  pub post_other : (caller command d : ℕ) → call_on lay_accepted (λ m. post_of m caller command d) ws vs ≡ left 5 ws vs
  unfolding post_of
  post_other caller command d = on_other lay_accepted (λ m. post_of m caller command d) ws vs (λ k. rw k) bad

  pub load_other : call_on lay_acted load_of ws vs ≡ left 5 ws vs
  unfolding load_of
  load_other = on_other lay_acted load_of ws vs (λ k. rw k) bad

  pub turn_other : call_on lay_acted turn_of ws vs ≡ left 5 ws vs
  unfolding turn_of
  turn_other = on_other lay_acted turn_of ws vs (λ k. rw k) bad

  pub unload_other : call_on lay_acted unload_of ws vs ≡ left 5 ws vs
  unfolding unload_of
  unload_other = on_other lay_acted unload_of ws vs (λ k. rw k) bad

  pub take_other : (caller : ℕ) → call_on lay_word (λ m. take_of m caller) ws vs ≡ left 5 ws vs
  unfolding take_of
  take_other caller = on_other lay_word (λ m. take_of m caller) ws vs (λ k. rw k) bad

-- one value, where there is a word for it
pub one_value : (vs : List ℕ) (x : ℕ) → 1 ≤ length vs → words_for (x ∷ []) vs ≡ set vs 0 x
one_value [] x p = absurd (omega arith)
one_value (v ∷ vs) x p = sym (words_fits (x ∷ []) (v ∷ vs) (omega arith))

-- none
pub no_value : (vs : List ℕ) → words_for [] vs ≡ vs
no_value vs = sym (words_kept vs)

pub ruleset call_cases = (held_long, state_read, count_read, register_read, line_has_room, response_caller, words_stay, on_mailbox, one_value, no_value)

-- ---- a fresh mailbox: word 4 is 1, and the others are 0
pub fresh_is : fresh_words ≡ set (replicate 88 0) 4 1
unfolding pack_of
fresh_is = refl

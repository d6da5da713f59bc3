-- What a post and a take leave in the lent words: the words of the mailbox that they make. Assumes nothing.
use mathlib.Core.Bool.{true}
use mathlib.Core.Path.{◌≡◌, refl, ap, ◌∙◌}
use mathlib.Core.List.{List}
use Prim.Native.Nat.{ℕ, ◌+◌, ◌≤◌, ◌<◌}
use native.Mathlib.Omega.{arith}
use lib.ListN.{get_or, set, drop, length-set}
use Rattle.lent.specs.Lent.{words_for}
use Rattle.mailbox.specs.declared.PlaceState.TheVariants.{Free, Waiting}
use Rattle.mailbox.specs.declared.Mailbox.{Mailbox}
use Rattle.mailbox.specs.Machine.{post_by, place_with, joined, freed}
use Rattle.mailbox_layout.specs.Layout.{post_word, place_word, head_of, pack_of, unpack_of}
use Rattle.mailbox_held.specs.Held.{held_in}
use Rattle.mailbox_layout.proofs.LayoutLaws.{Whole, unpacked_whole}
use Rattle.mailbox_words.proofs.StoredLaws.{laid_of, post_in, place_in, held_laid, laid_words}

-- ---- on a mailbox that is laid out
module _ (m : Mailbox) (w : Whole m) (behind : List ℕ) where
  laid_joined : (caller command d : ℕ) → m.count < 8 → caller ≤ 7
      → set (set (set (laid_of m behind) 3 (m.count + 1)) (8 + m.count) (post_word (post_by caller command d))) (16 + caller) (place_word (place_with Waiting))
      ≡ laid_of (joined m caller command d) behind
  laid_joined caller command d p q =
      let line = m.line in
      let next = joined m caller command d in
      let long = w.line_long in
      let more = w.places_long in
      ap (λ (l : List ℕ). set l (16 + caller) (place_word (place_with Waiting)))
      (post_in (head_of next) line m.places m.firmware.interrupts behind m.count refl (post_by caller command d) (omega arith))
      ∙ place_in (head_of next) next.line m.places m.firmware.interrupts behind caller refl (length-set line m.count (post_by caller command d) ∙ long) (place_with Waiting) (omega arith)

  laid_freed : (caller : ℕ) → caller ≤ 7 → set (laid_of m behind) (16 + caller) (place_word (place_with Free)) ≡ laid_of (freed m caller) behind
  laid_freed caller q =
      let long = w.places_long in
      place_in (head_of m) m.line m.places m.firmware.interrupts behind caller refl w.line_long (place_with Free) (omega arith)

-- ---- in the lent words
module _ (ws : List ℕ) (h : held_in ws ≡ true) where
  abbrev m : Mailbox
  m = unpack_of ws

  abbrev behind : List ℕ
  behind = drop 88 ws

  whole : Whole m
  whole = unpacked_whole ws

  laid_down : (next : Mailbox) (after : List ℕ) → Whole next → after ≡ laid_of next behind → after ≡ words_for (pack_of next) ws
  laid_down = laid_words ws h

  pub join_words : (caller command d post place : ℕ) → caller ≤ 7 → get_or ws 3 0 < 8 → post ≡ post_word (post_by caller command d) → place ≡ place_word (place_with Waiting)
      → set (set (set ws 3 (get_or ws 3 0 + 1)) (8 + get_or ws 3 0) post) (16 + caller) place ≡ words_for (pack_of (joined (unpack_of ws) caller command d)) ws
  unfolding unpack_of
  join_words caller command d post place p q e k =
      let w = whole in
      laid_down (joined m caller command d) _
      (record {
        line_long = length-set m.line m.count (post_by caller command d) ∙ w.line_long;
        places_long = length-set m.places caller (place_with Waiting) ∙ w.places_long;
        interrupts_long = w.interrupts_long;
      })
      ((λ i. set (set (set (held_laid ws h i) 3 (get_or ws 3 0 + 1)) (8 + get_or ws 3 0) (e i)) (16 + caller) (k i)) ∙ laid_joined m w behind caller command d q p)

  pub free_words : (caller place : ℕ) → caller ≤ 7 → place ≡ place_word (place_with Free) → set ws (16 + caller) place ≡ words_for (pack_of (freed (unpack_of ws) caller)) ws
  free_words caller place p e =
      let w = whole in
      laid_down (freed m caller) _
      (record { line_long = w.line_long; places_long = length-set m.places caller (place_with Free) ∙ w.places_long; interrupts_long = w.interrupts_long })
      ((λ i. set (held_laid ws h i) (16 + caller) (e i)) ∙ laid_freed m w behind caller p)

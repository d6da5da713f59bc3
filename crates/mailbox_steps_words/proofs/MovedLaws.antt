-- What a load and an unload leave in the lent words: the words of the mailbox that they make. Assumes nothing.
use mathlib.Core.Bool.{true}
use mathlib.Core.Path.{◌≡◌, refl, ap, ◌∙◌}
use mathlib.Core.List.{List, [], ◌∷◌}
use Prim.Native.Nat.{ℕ, ◌+◌, ◌-◌, ◌≤◌}
use native.Mathlib.Omega.{arith}
use lib.ListN.{length, get_or, set, drop, length-set}
use lib.Seq.{paste}
use Rattle.lent.specs.Lent.{words_for}
use Rattle.mailbox.specs.declared.PlaceState.TheVariants.{Ready}
use Rattle.mailbox.specs.declared.Post.{Post}
use Rattle.mailbox.specs.declared.Mailbox.{Mailbox}
use Rattle.mailbox.proofs.LineLaws.{shifted_long}
use Rattle.mailbox.specs.Machine.{no_post, command_word, place_with, shifted, with_oldest, handed_over}
use Rattle.mailbox_layout.specs.Layout.{up_to, place_word, post_from, head_of, pack_of, unpack_of}
use Rattle.mailbox_held.specs.Held.{held_in}
use Rattle.mailbox_layout.proofs.LayoutLaws.{Whole, unpacked_whole}
use Rattle.mailbox_words.proofs.StoredLaws.{laid_of, place_in, held_laid, laid_words}

-- ---- on a mailbox that is laid out
module _ (m : Mailbox) (w : Whole m) (behind : List ℕ) where
  laid_handed : (caller word : ℕ) → caller ≤ 7
      → set (set (set (set (laid_of m behind) 0 0) 1 0) 2 0) (16 + caller) (place_word (place_with (Ready word))) ≡ laid_of (handed_over m caller word) behind
  laid_handed caller word q =
      let long = w.places_long in
      place_in (head_of (handed_over m caller word)) m.line m.places m.firmware.interrupts behind caller refl w.line_long (place_with (Ready word)) (omega arith)

-- ---- the oldest post taken out of the line: the seven behind it move up, and the last slot is empty
abbrev moved : List ℕ → List ℕ
moved ws = paste ws 8 (drop 9 ws) 7

abbrev advanced : (caller word : ℕ) → List ℕ → List ℕ
advanced caller word ws = set (moved (set (set (set (set ws 3 (get_or ws 3 0 - 1)) 0 1) 1 caller) 2 word)) 15 0

-- the mailbox with this line, in all else the same
abbrev lined : Mailbox → List Post → Mailbox
lined m line = record { register = m.register; count = m.count; line = line; places = m.places; firmware = m.firmware }

-- a line of eight, one by one
module _ (m : Mailbox) (behind : List ℕ) (caller word : ℕ) where
  eight_moved : (line : List Post) → length line ≡ 8 → caller ≡ (get_or line 0 no_post).caller → word ≡ command_word (get_or line 0 no_post)
      → advanced caller word (laid_of (lined m line) behind) ≡ laid_of (with_oldest (lined m line)) behind
  unfolding shifted
  eight_moved (p0 ∷ p1 ∷ p2 ∷ p3 ∷ p4 ∷ p5 ∷ p6 ∷ p7 ∷ []) e p q = rw (p, q)
  eight_moved [] e p q = absurd (omega arith)
  eight_moved (p0 ∷ []) e p q = absurd (omega arith)
  eight_moved (p0 ∷ p1 ∷ []) e p q = absurd (omega arith)
  eight_moved (p0 ∷ p1 ∷ p2 ∷ []) e p q = absurd (omega arith)
  eight_moved (p0 ∷ p1 ∷ p2 ∷ p3 ∷ []) e p q = absurd (omega arith)
  eight_moved (p0 ∷ p1 ∷ p2 ∷ p3 ∷ p4 ∷ []) e p q = absurd (omega arith)
  eight_moved (p0 ∷ p1 ∷ p2 ∷ p3 ∷ p4 ∷ p5 ∷ []) e p q = absurd (omega arith)
  eight_moved (p0 ∷ p1 ∷ p2 ∷ p3 ∷ p4 ∷ p5 ∷ p6 ∷ []) e p q = absurd (omega arith)
  eight_moved (p0 ∷ p1 ∷ p2 ∷ p3 ∷ p4 ∷ p5 ∷ p6 ∷ p7 ∷ p8 ∷ more) e p q = absurd (omega arith)

-- ---- in the lent words
module _ (ws : List ℕ) (h : held_in ws ≡ true) where
  abbrev m : Mailbox
  m = unpack_of ws

  abbrev behind : List ℕ
  behind = drop 88 ws

  whole : Whole m
  whole = unpacked_whole ws

  laid_down : (next : Mailbox) (after : List ℕ) → Whole next → after ≡ laid_of next behind → after ≡ words_for (pack_of next) ws
  laid_down = laid_words ws h

  first_is : post_from (get_or ws 8 0) ≡ get_or (unpack_of ws).line 0 no_post
  unfolding unpack_of up_to
  first_is = refl

  pub advance_words : (caller word : ℕ) (first : Post) → first ≡ post_from (get_or ws 8 0) → caller ≡ first.caller → word ≡ command_word first
      → advanced caller word ws ≡ words_for (pack_of (with_oldest (unpack_of ws))) ws
  advance_words caller word first f p q =
      let w = whole in
      let oldest : first ≡ get_or m.line 0 no_post = f ∙ first_is in
      laid_down (with_oldest m) _ (record { line_long = shifted_long m.line w.line_long; places_long = w.places_long; interrupts_long = w.interrupts_long })
      (ap (advanced caller word) (held_laid ws h) ∙ eight_moved m behind caller word m.line w.line_long (p ∙ ap (λ (x : Post). x.caller) oldest) (q ∙ ap command_word oldest))

  pub hand_over_words : (caller word place : ℕ) → caller ≤ 7 → place ≡ place_word (place_with (Ready word))
      → set (set (set (set ws 0 0) 1 0) 2 0) (16 + caller) place ≡ words_for (pack_of (handed_over (unpack_of ws) caller word)) ws
  hand_over_words caller word place p e =
      let w = whole in
      laid_down (handed_over m caller word) _
      (record { line_long = w.line_long; places_long = length-set m.places caller (place_with (Ready word)) ∙ w.places_long; interrupts_long = w.interrupts_long })
      ((λ i. set (set (set (set (held_laid ws h i) 0 0) 1 0) 2 0) (16 + caller) (e i)) ∙ laid_handed m w behind caller word p)

-- Words that are a mailbox's, told word by word: what the proofs of the functions that look at words cite. Assumes nothing.
use mathlib.Core.Bool.{Bool, true, false, ◌&&◌, false≢true}
use mathlib.Core.Path.{◌≡◌, refl, sym, ap, ◌∙◌}
use mathlib.Core.List.{List, [], ◌∷◌}
use Prim.Native.Nat.{ℕ, zero, suc, ◌+◌, ◌*◌, ◌-◌, ◌/◌, ◌%◌, ◌≤◌, ◌<◌}
use native.Mathlib.Omega.{arith}
use lib.ListN.{length, get_or, take, drop, length-drop}
use lib.Dec.{eqb, ltb, leb}
use borrow.Author.Tests.{ltb-true, ltb-false, eqb-true, eq-eqb, ne_eqb, le-leb, lt-leb, leb-true}
use Rattle.std.specs.List.{list_all}
use Rattle.std.proofs.Math.Bool.{and_comm}
use Rattle.std.proofs.lemmas.Bool.{and_parts}
use Rattle.std.proofs.lemmas.Bool.Decides.{same_from_decides}
use Rattle.std.proofs.lemmas.List.{get_or-drop}
use Rattle.std.proofs.lemmas.List.Folds.{list_all_more}
use Rattle.lent.specs.Lent.{begins}
use Rattle.firmware.specs.Rules.{nothing}
use Rattle.mailbox.specs.declared.PlaceState.TheVariants.{Free}
use Rattle.mailbox.specs.Machine.{no_post, place_with}
use Rattle.mailbox.specs.Consistent.{all_below}
use Rattle.mailbox.proofs.Facts.{all_facts, all_test}
use Rattle.mailbox_layout.specs.Layout.{bit_of, phase_word, caller_word, word_word, part_word, post_word, place_word, interrupt_word, head_of, pack_of}
use Rattle.mailbox_layout.specs.Layout.{phase_from, part_from, post_from, place_from, interrupt_from, post_at, place_at, interrupt_at, firmware_from, unpack_of}
use Rattle.mailbox_held.specs.Held.{held_in, held_at, held_between}
use Rattle.mailbox_layout.proofs.LayoutLaws.{get_or_up_to, unpacked_whole, pack_long, pack_head, pack_post, pack_place, pack_interrupt}

-- two tests, each of which tells the other
agree : (a b : Bool) → (a ≡ true → b ≡ true) → (b ≡ true → a ≡ true) → a ≡ b
agree a b f g = same_from_decides a b (f, g) (λ e. e, λ e. e)

-- ---- tests of every word of a stretch
all_same : (n : ℕ) (f g : ℕ → Bool) → ((i : ℕ) → i < n → f i ≡ g i) → all_below n f ≡ all_below n g
unfolding all_below
all_same zero f g h = refl
all_same (suc n) f g h = rw (h n (omega arith), all_same n f g (λ i p. h i (omega arith)))

all_read : (f : ℕ → Bool) (l : List ℕ) (n : ℕ) → n ≤ length l → list_all f (take n l) ≡ all_below n (λ i. f (get_or l i 0))
unfolding all_below
all_read f l zero p = refl
all_read f l (suc n) p =
    let e : suc n ≡ n + 1 = omega arith in
    ap (λ (k : ℕ). list_all f (take k l)) e
    ∙ (list_all_more f l n 0 (omega arith) ∙ (and_comm (list_all f (take n l)) (f (get_or l n 0)) ∙ ap (λ (b : Bool). f (get_or l n 0) && b) (all_read f l n (omega arith))))

-- ---- the word of a post
-- a number of 64 bits in four of 16
module _ (w : ℕ) (fits : w < 0x1_0000_0000_0000_0000) where
  low_split : w ≡ w % 0x1_0000 + w / 0x1_0000 % 0x1_0000 * 0x1_0000 + w / 0x1_0000_0000 * 0x1_0000_0000
  low_split = omega arith

  high_whole : w / 0x1_0000_0000 % 0x1_0000_0000 ≡ w / 0x1_0000_0000
  high_whole = omega arith

  pub post_same : w ≡ post_word (post_from w)
  post_same = let a = low_split in let b = high_whole in omega arith

-- ---- one word of the mailbox that is read
module _ (ws : List ℕ) where
  at_head : (i : ℕ) → i < 8 → held_at ws i ≡ eqb (get_or ws i 0) (get_or (head_of (unpack_of ws)) i 0)
  at_head i p = ap (eqb (get_or ws i 0)) (pack_head (unpack_of ws) (unpacked_whole ws) i p)

  -- any word is a post's
  at_post : (i : ℕ) → 8 ≤ i → i < 16 → get_or ws i 0 < 0x1_0000_0000_0000_0000 → held_at ws i ≡ true
  unfolding unpack_of
  at_post i a b fits =
      let e : 8 + (i - 8) ≡ i = omega arith in
      let word : get_or (pack_of (unpack_of ws)) i 0 ≡ post_word (post_from (get_or ws i 0)) =
      pack_post (unpack_of ws) (unpacked_whole ws) i a b ∙ ap post_word (get_or_up_to (post_at ws) no_post 8 (i - 8) (omega arith) ∙ ap (λ (j : ℕ). post_from (get_or ws j 0)) e) in
      eq-eqb (get_or ws i 0) (get_or (pack_of (unpack_of ws)) i 0) (post_same (get_or ws i 0) fits ∙ sym word)

  at_place : (i : ℕ) → 16 ≤ i → i < 24 → held_at ws i ≡ eqb (get_or ws i 0) (place_word (place_from (get_or ws i 0)))
  unfolding unpack_of
  at_place i a b =
      let e : 16 + (i - 16) ≡ i = omega arith in
      ap (eqb (get_or ws i 0))
      (pack_place (unpack_of ws) (unpacked_whole ws) i a b ∙ ap place_word (get_or_up_to (place_at ws) (place_with Free) 8 (i - 16) (omega arith) ∙ ap (λ (j : ℕ). place_from (get_or ws j 0)) e))

  at_id : (i : ℕ) → 24 ≤ i → i < 88 → held_at ws i ≡ eqb (get_or ws i 0) (interrupt_word (interrupt_from (get_or ws i 0)))
  unfolding unpack_of firmware_from
  at_id i a b =
      let e : 24 + (i - 24) ≡ i = omega arith in
      ap (eqb (get_or ws i 0))
      (pack_interrupt (unpack_of ws) (unpacked_whole ws) i a ∙ ap interrupt_word (get_or_up_to (interrupt_at ws) nothing 64 (i - 24) (omega arith) ∙ ap (λ (j : ℕ). interrupt_from (get_or ws j 0)) e))

-- ---- the words between two places
module _ (ws : List ℕ) where
  between_all : (a b : ℕ) → ((i : ℕ) → a ≤ i → i < b → held_at ws i ≡ true) → held_between ws a b ≡ true
  unfolding held_between
  between_all a b h = all_test (b - a) (λ i. held_at ws (a + i)) (λ i p. h (a + i) (omega arith) (omega arith))

  between_at : (a b : ℕ) → held_between ws a b ≡ true → (i : ℕ) → a ≤ i → i < b → held_at ws i ≡ true
  unfolding held_between
  between_at a b e i p q =
      let j : i ≡ a + (i - a) = omega arith in
      ap (λ (k : ℕ). held_at ws k) j ∙ all_facts (b - a) (λ i. held_at ws (a + i)) e (i - a) (omega arith)

  -- one after another
  between_join : (a i b : ℕ) → held_between ws a i ≡ true → held_between ws i b ≡ true → held_between ws a b ≡ true
  between_join a i b e q = between_all a b (λ j p r. either j p r (ltb j i) refl)
    where
      either : (j : ℕ) → a ≤ j → j < b → (t : Bool) → ltb j i ≡ t → held_at ws j ≡ true
      either j p r true f = between_at a i e j p (ltb-true j i f)
      either j p r false f = between_at i b q j (ltb-false j i f) r

  -- a part of them
  between_part : (a b i j : ℕ) → a ≤ i → j ≤ b → held_between ws a b ≡ true → held_between ws i j ≡ true
  between_part a b i j p q e = between_all i j (λ k r s. between_at a b e k (omega arith) (omega arith))

  -- a slice of them, each tested by f
  between_slice : (a n : ℕ) (f : ℕ → Bool) → a + n ≤ length ws → ((i : ℕ) → a ≤ i → i < a + n → held_at ws i ≡ f (get_or ws i 0)) → list_all f (take n (drop a ws)) ≡ held_between ws a (a + n)
  unfolding held_between
  between_slice a n f long h =
      let rest = length-drop a ws in
      let some : n ≡ a + n - a = omega arith in
      all_read f (drop a ws) n (omega arith)
      ∙ (all_same n (λ i. f (get_or (drop a ws) i 0)) (λ i. held_at ws (a + i)) (λ i p. ap f (get_or-drop a ws i 0) ∙ sym (h (a + i) (omega arith) (omega arith)))
      ∙ ap (λ (k : ℕ). all_below k (λ i. held_at ws (a + i))) some)

-- ---- the places and the IDs
abbrev pub place_kept : (word : ℕ) → Bool
place_kept w = eqb w (place_word (place_from w))

abbrev pub id_kept : (word : ℕ) → Bool
id_kept w = eqb w (interrupt_word (interrupt_from w))

module _ (ws : List ℕ) where
  pub places_all : 88 ≤ length ws → list_all place_kept (take 8 (drop 16 ws)) ≡ held_between ws 16 24
  places_all long = between_slice ws 16 8 place_kept (omega arith) (λ i p q. at_place ws i p q)

  module _ (from : ℕ) (low : 24 ≤ from) (high : from + 8 ≤ 88) where
    pub eight_all : 88 ≤ length ws → list_all id_kept (take 8 (drop from ws)) ≡ held_between ws from (from + 8)
    eight_all long = between_slice ws from 8 id_kept (omega arith) (λ i p q. at_id ws i (omega arith) (omega arith))

    -- eight words that are zero, four and four
    pub eight_zero : ((i : ℕ) → i < 4 → get_or ws (from + i) 0 ≡ 0) → ((i : ℕ) → i < 4 → get_or ws (from + 4 + i) 0 ≡ 0) → true ≡ held_between ws from (from + 8)
    eight_zero front back =
        sym (between_all ws from (from + 8)
        (λ i p q. at_id ws i (omega arith) (omega arith) ∙ ap id_kept (zero_at i p q (ltb i (from + 4)) refl)))
      where
        zero_at : (i : ℕ) → from ≤ i → i < from + 8 → (b : Bool) → ltb i (from + 4) ≡ b → get_or ws i 0 ≡ 0
        zero_at i p q true e =
            let h = ltb-true i (from + 4) e in
            let same : i ≡ from + (i - from) = omega arith in
            ap (λ (k : ℕ). get_or ws k 0) same ∙ front (i - from) (omega arith)
        zero_at i p q false e =
            let h = ltb-false i (from + 4) e in
            let same : i ≡ from + 4 + (i - (from + 4)) = omega arith in
            ap (λ (k : ℕ). get_or ws k 0) same ∙ back (i - (from + 4)) (omega arith)

  -- eight after eight
  pub eights_all : (n : ℕ) → all_below n (λ k. held_between ws (24 + k * 8) (24 + k * 8 + 8)) ≡ held_between ws 24 (24 + n * 8)
  unfolding all_below
  eights_all zero = sym (between_all ws 24 24 (λ i p q. absurd (omega arith)))
  eights_all (suc n) =
      let e : 24 + n * 8 + 8 ≡ 24 + suc n * 8 = omega arith in
      ap (λ (b : Bool). held_between ws (24 + n * 8) (24 + n * 8 + 8) && b) (eights_all n)
      ∙ (agree (held_between ws (24 + n * 8) (24 + n * 8 + 8) && held_between ws 24 (24 + n * 8)) (held_between ws 24 (24 + n * 8 + 8))
      (λ t. let h = and_parts (held_between ws (24 + n * 8) (24 + n * 8 + 8)) (held_between ws 24 (24 + n * 8)) t in between_join ws 24 (24 + n * 8) (24 + n * 8 + 8) h.1 h.0)
      (λ t. rw (between_part ws 24 (24 + n * 8 + 8) (24 + n * 8) (24 + n * 8 + 8) (omega arith) (omega arith) t, between_part ws 24 (24 + n * 8 + 8) 24 (24 + n * 8) (omega arith) (omega arith) t))
      ∙ ap (held_between ws 24) e)

-- ---- the first sixteen words
interface_small : (w : ℕ) → eqb w (bit_of (eqb w 1)) ≡ leb w 1
interface_small zero = refl
interface_small (suc zero) = refl
interface_small (suc (suc w)) = rw (ne_eqb (suc (suc w)) 1 (λ e. omega arith), lt-leb (suc (suc w)) 1 (omega arith)) (ne_eqb (suc (suc w)) 0 (λ e. omega arith))

module _ (ws : List ℕ) where
  abbrev phase_kept : Bool
  phase_kept = eqb (get_or ws 0 0) (phase_word (phase_from (get_or ws 0 0) (get_or ws 1 0) (get_or ws 2 0)))

  abbrev caller_kept : Bool
  caller_kept = eqb (get_or ws 1 0) (caller_word (phase_from (get_or ws 0 0) (get_or ws 1 0) (get_or ws 2 0)))

  abbrev word_kept : Bool
  word_kept = eqb (get_or ws 2 0) (word_word (phase_from (get_or ws 0 0) (get_or ws 1 0) (get_or ws 2 0)))

  abbrev part_kept : ℕ → Bool
  part_kept i = eqb (get_or ws i 0) (part_word (part_from (get_or ws i 0)))

  -- all that is asked of them
  abbrev pub head_kept : Bool
  head_kept = (phase_kept && caller_kept && word_kept) && leb (get_or ws 4 0) 1 && part_kept 5 && part_kept 6 && part_kept 7

  at_phase : held_at ws 0 ≡ phase_kept
  unfolding unpack_of
  at_phase = at_head ws 0 (omega arith)

  at_caller : held_at ws 1 ≡ caller_kept
  unfolding unpack_of
  at_caller = at_head ws 1 (omega arith)

  at_word : held_at ws 2 ≡ word_kept
  unfolding unpack_of
  at_word = at_head ws 2 (omega arith)

  at_count : held_at ws 3 ≡ true
  unfolding unpack_of
  at_count = at_head ws 3 (omega arith) ∙ eq-eqb (get_or ws 3 0) (get_or ws 3 0) refl

  at_interface : held_at ws 4 ≡ leb (get_or ws 4 0) 1
  unfolding unpack_of firmware_from
  at_interface = at_head ws 4 (omega arith) ∙ interface_small (get_or ws 4 0)

  at_part1 : held_at ws 5 ≡ part_kept 5
  unfolding unpack_of firmware_from
  at_part1 = at_head ws 5 (omega arith)

  at_part2 : held_at ws 6 ≡ part_kept 6
  unfolding unpack_of firmware_from
  at_part2 = at_head ws 6 (omega arith)

  at_part3 : held_at ws 7 ≡ part_kept 7
  unfolding unpack_of firmware_from
  at_part3 = at_head ws 7 (omega arith)

  pub head_all : ((i : ℕ) → get_or ws i 0 < 0x1_0000_0000_0000_0000) → held_between ws 0 16 ≡ head_kept
  head_all fits = agree (held_between ws 0 16) head_kept (λ e. every (λ i p. between_at ws 0 16 e i (omega arith) p)) (λ e. between_all ws 0 16 (λ i p q. each e i q))
    where
      every : ((i : ℕ) → i < 16 → held_at ws i ≡ true) → head_kept ≡ true
      every h =
          rw (
            sym at_phase ∙ h 0 (omega arith),
            sym at_caller ∙ h 1 (omega arith),
            sym at_word ∙ h 2 (omega arith),
            sym at_interface ∙ h 4 (omega arith),
            sym at_part1 ∙ h 5 (omega arith),
            sym at_part2 ∙ h 6 (omega arith),
            sym at_part3 ∙ h 7 (omega arith),
          )

      each : head_kept ≡ true → (i : ℕ) → i < 16 → held_at ws i ≡ true
      each e i p =
          let three = and_parts _ (part_kept 7) e in
          let two = and_parts _ (part_kept 6) three.0 in
          let one = and_parts _ (part_kept 5) two.0 in
          let interface = and_parts _ (leb (get_or ws 4 0) 1) one.0 in
          let word = and_parts _ word_kept interface.0 in
          let caller = and_parts phase_kept caller_kept word.0 in
          go caller.0 caller.1 word.1 interface.1 one.1 two.1 three.1 i p
        where
          go : phase_kept ≡ true → caller_kept ≡ true → word_kept ≡ true → leb (get_or ws 4 0) 1 ≡ true → part_kept 5 ≡ true → part_kept 6 ≡ true → part_kept 7 ≡ true
              → (i : ℕ) → i < 16 → held_at ws i ≡ true
          go a b c d e f g zero p = at_phase ∙ a
          go a b c d e f g (suc zero) p = at_caller ∙ b
          go a b c d e f g (suc (suc zero)) p = at_word ∙ c
          go a b c d e f g (suc (suc (suc zero))) p = at_count
          go a b c d e f g (suc (suc (suc (suc zero)))) p = at_interface ∙ d
          go a b c d e f g (suc (suc (suc (suc (suc zero))))) p = at_part1 ∙ e
          go a b c d e f g (suc (suc (suc (suc (suc (suc zero)))))) p = at_part2 ∙ f
          go a b c d e f g (suc (suc (suc (suc (suc (suc (suc zero))))))) p = at_part3 ∙ g
          go a b c d e f g (suc (suc (suc (suc (suc (suc (suc (suc i)))))))) p = at_post ws (suc (suc (suc (suc (suc (suc (suc (suc i)))))))) (omega arith) p (fits _)

-- ---- all 88 words
begins_at : (values words : List ℕ) (i : ℕ) → begins values words ≡ true → i < length values → get_or words i 0 ≡ get_or values i 0
unfolding begins
begins_at [] words i e h = absurd (omega arith)
begins_at (v ∷ values) [] i e h = absurd (false≢true e)
begins_at (v ∷ values) (w ∷ words) zero e h = eqb-true w v (and_parts (eqb w v) (begins values words) e).0
begins_at (v ∷ values) (w ∷ words) (suc i) e h = begins_at values words i (and_parts (eqb w v) (begins values words) e).1 (omega arith)

begins_long : (values words : List ℕ) → begins values words ≡ true → length values ≤ length words
unfolding begins
begins_long [] words e = omega arith
begins_long (v ∷ values) [] e = absurd (false≢true e)
begins_long (v ∷ values) (w ∷ words) e = let h = begins_long values words (and_parts (eqb w v) (begins values words) e).1 in omega arith

begins_all : (values words : List ℕ) → length values ≤ length words → ((i : ℕ) → i < length values → get_or words i 0 ≡ get_or values i 0) → begins values words ≡ true
unfolding begins
begins_all [] words h same = refl
begins_all (v ∷ values) [] h same = absurd (omega arith)
begins_all (v ∷ values) (w ∷ words) h same = rw (eq-eqb w v (same 0 (omega arith))) (begins_all values words (omega arith) (λ i p. same (suc i) (omega arith)))

module _ (ws : List ℕ) where
  abbrev again : List ℕ
  again = pack_of (unpack_of ws)

  again_long : length again ≡ 88
  again_long = pack_long (unpack_of ws) (unpacked_whole ws)

  held_at_lem : held_in ws ≡ true → (i : ℕ) → i < 88 → held_at ws i ≡ true
  unfolding held_in
  held_at_lem e i p = let long = again_long in eq-eqb (get_or ws i 0) (get_or again i 0) (begins_at again ws i e (omega arith))

  pub held_long : held_in ws ≡ true → 88 ≤ length ws
  unfolding held_in
  held_long e = let long = again_long in let h = begins_long again ws e in omega arith

  held_all : 88 ≤ length ws → ((i : ℕ) → i < 88 → held_at ws i ≡ true) → held_in ws ≡ true
  unfolding held_in
  held_all h each =
      let long = again_long in
      begins_all again ws (omega arith) (λ i p. eqb-true (get_or ws i 0) (get_or again i 0) (each i (omega arith)))

  pub held_parts : held_in ws ≡ (leb 88 (length ws) && held_between ws 0 16 && held_between ws 16 24 && held_between ws 24 88)
  held_parts = agree (held_in ws) (leb 88 (length ws) && held_between ws 0 16 && held_between ws 16 24 && held_between ws 24 88) parts whole
    where
      whole : leb 88 (length ws) && held_between ws 0 16 && held_between ws 16 24 && held_between ws 24 88 ≡ true → held_in ws ≡ true
      whole e =
          let ids = and_parts _ (held_between ws 24 88) e in
          let places = and_parts _ (held_between ws 16 24) ids.0 in
          let head = and_parts (leb 88 (length ws)) (held_between ws 0 16) places.0 in
          let all = between_join ws 0 24 88 (between_join ws 0 16 24 head.1 places.1) ids.1 in
          held_all (leb-true 88 (length ws) head.0) (λ i h. between_at ws 0 88 all i (omega arith) h)

      part : held_in ws ≡ true → (a b : ℕ) → b ≤ 88 → held_between ws a b ≡ true
      part e a b h = between_all ws a b (λ i p q. held_at_lem e i (omega arith))

      parts : held_in ws ≡ true → leb 88 (length ws) && held_between ws 0 16 && held_between ws 16 24 && held_between ws 24 88 ≡ true
      parts e = rw (le-leb 88 (length ws) (held_long e), part e 0 16 (omega arith), part e 16 24 (omega arith), part e 24 88 (omega arith))

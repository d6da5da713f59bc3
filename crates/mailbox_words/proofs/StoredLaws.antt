-- The lent words of a mailbox as head, line, places and interrupts one behind another, and what a store into them makes. Assumes nothing.
use mathlib.Core.Bool.{true, false≢true}
use mathlib.Core.Path.{◌≡◌, refl, sym, ap, ◌∙◌}
use mathlib.Core.List.{List, [], ◌∷◌, ◌++◌, map, append_assoc}
use Prim.Native.Nat.{ℕ, zero, suc, ◌+◌, ◌≤◌, ◌<◌}
use native.Mathlib.Omega.{arith}
use native.Mathlib.Nat.{zero-add, suc-add}
use lib.ListN.{length, set, drop, length-map}
use lib.Seq.{set-append_left}
use lib.Dec.{eqb}
use borrow.Author.Tests.{eqb-true}
use Rattle.firmware.specs.declared.Interrupt.{Interrupt}
use Rattle.lent.specs.Lent.{words_for, begins}
use Rattle.lent.proofs.Laws.{words_fits}
use Rattle.mailbox.specs.declared.Place.{Place}
use Rattle.mailbox.specs.declared.Post.{Post}
use Rattle.mailbox.specs.declared.Mailbox.{Mailbox}
use Rattle.std.proofs.lemmas.Bool.{and_parts}
use Rattle.mailbox_layout.specs.Layout.{post_word, place_word, interrupt_word, head_of, pack_of, unpack_of}
use Rattle.mailbox_held.specs.Held.{held_in}
use Rattle.mailbox_layout.proofs.LayoutLaws.{Whole, unpacked_whole, pack_long}
use Rattle.mailbox_held.proofs.HeldLaws.{held_long}

-- ---- lists one behind another
module _ {A : Type 0} (a b : List A) where
  set_past : (k j : ℕ) (v : A) → length a ≡ k → set (a ++ b) (k + j) v ≡ a ++ set b j v
  set_past k j v e = ap (λ (n : ℕ). set (a ++ b) (n + j) v) (sym e) ∙ go a
    where
      go : (x : List A) → set (x ++ b) (length x + j) v ≡ x ++ set b j v
      go [] = ap (λ (n : ℕ). set b n v) (zero-add j)
      go (y ∷ x) = ap (λ (n : ℕ). set (y ∷ (x ++ b)) n v) (suc-add (length x) j) ∙ ap (λ (r : List A). y ∷ r) (go x)

map_set : {A : Type 0} {B : Type 0} (f : A → B) (l : List A) (i : ℕ) (v : A) → map f (set l i v) ≡ set (map f l) i (f v)
map_set f [] i v = refl
map_set f (x ∷ l) zero v = refl
map_set {B = B} f (x ∷ l) (suc i) v = ap (λ (r : List B). f x ∷ r) (map_set f l i v)

-- ---- a mailbox's words, with any words behind them
abbrev pub laid : (head line places interrupts behind : List ℕ) → List ℕ
laid head line places interrupts behind = head ++ (line ++ (places ++ (interrupts ++ behind)))

abbrev pub laid_of : Mailbox → List ℕ → List ℕ
laid_of m behind = laid (head_of m) (map post_word m.line) (map place_word m.places) (map interrupt_word m.firmware.interrupts) behind

-- a store into the line, into a place, for an interrupt
module _ (head line places interrupts behind : List ℕ) (i v : ℕ) (h : length head ≡ 8) where
  store_line : i < length line → set (laid head line places interrupts behind) (8 + i) v ≡ laid head (set line i v) places interrupts behind
  store_line p =
      set_past head (line ++ (places ++ (interrupts ++ behind))) 8 i v h
      ∙ ap (λ (r : List ℕ). head ++ r) (set-append_left line (places ++ (interrupts ++ behind)) i v p)

  module _ (l : length line ≡ 8) where
    store_place : i < length places → set (laid head line places interrupts behind) (16 + i) v ≡ laid head line (set places i v) interrupts behind
    store_place p =
        let at : 16 + i ≡ 8 + (8 + i) = omega arith in
        ap (λ (j : ℕ). set (laid head line places interrupts behind) j v) at
        ∙ (set_past head (line ++ (places ++ (interrupts ++ behind))) 8 (8 + i) v h
        ∙ ap (λ (r : List ℕ). head ++ r)
        (set_past line (places ++ (interrupts ++ behind)) 8 i v l
        ∙ ap (λ (r : List ℕ). line ++ r) (set-append_left places (interrupts ++ behind) i v p)))

    store_interrupt : length places ≡ 8 → i < length interrupts → set (laid head line places interrupts behind) (24 + i) v ≡ laid head line places (set interrupts i v) behind
    store_interrupt k p =
        let at : 24 + i ≡ 8 + (8 + (8 + i)) = omega arith in
        ap (λ (j : ℕ). set (laid head line places interrupts behind) j v) at
        ∙ (set_past head (line ++ (places ++ (interrupts ++ behind))) 8 (8 + (8 + i)) v h
        ∙ ap (λ (r : List ℕ). head ++ r)
        (set_past line (places ++ (interrupts ++ behind)) 8 (8 + i) v l
        ∙ ap (λ (r : List ℕ). line ++ r)
        (set_past places (interrupts ++ behind) 8 i v k
        ∙ ap (λ (r : List ℕ). places ++ r) (set-append_left interrupts behind i v p))))

-- the same stores, of the word of a post, of a place, of an interrupt
module _ (head : List ℕ) (line : List Post) (places : List Place) (all : List Interrupt) (behind : List ℕ) (i : ℕ) (h : length head ≡ 8) where
  pub post_in : (p : Post) → i < length line
      → set (laid head (map post_word line) (map place_word places) (map interrupt_word all) behind) (8 + i) (post_word p)
      ≡ laid head (map post_word (set line i p)) (map place_word places) (map interrupt_word all) behind
  post_in p b =
      let long = length-map line post_word in
      store_line head (map post_word line) (map place_word places) (map interrupt_word all) behind i (post_word p) h (omega arith)
      ∙ ap (λ (l : List ℕ). laid head l (map place_word places) (map interrupt_word all) behind) (sym (map_set post_word line i p))

  module _ (l : length line ≡ 8) where
    pub place_in : (p : Place) → i < length places
        → set (laid head (map post_word line) (map place_word places) (map interrupt_word all) behind) (16 + i) (place_word p)
        ≡ laid head (map post_word line) (map place_word (set places i p)) (map interrupt_word all) behind
    place_in p b =
        let long = length-map places place_word in
        store_place head (map post_word line) (map place_word places) (map interrupt_word all) behind i (place_word p) h (length-map line post_word ∙ l) (omega arith)
        ∙ ap (λ (r : List ℕ). laid head (map post_word line) r (map interrupt_word all) behind) (sym (map_set place_word places i p))

    pub interrupt_in : (x : Interrupt) → length places ≡ 8 → i < length all
        → set (laid head (map post_word line) (map place_word places) (map interrupt_word all) behind) (24 + i) (interrupt_word x)
        ≡ laid head (map post_word line) (map place_word places) (map interrupt_word (set all i x)) behind
    interrupt_in x k b =
        let long = length-map all interrupt_word in
        store_interrupt head (map post_word line) (map place_word places) (map interrupt_word all) behind i (interrupt_word x) h (length-map line post_word ∙ l) (length-map places place_word ∙ k)
        (omega arith)
        ∙ ap (λ (r : List ℕ). laid head (map post_word line) (map place_word places) r behind) (sym (map_set interrupt_word all i x))

-- ---- the words that a mailbox is packed into
module _ (m : Mailbox) where
  abbrev head : List ℕ
  head = head_of m

  abbrev posts : List ℕ
  posts = map post_word m.line

  abbrev spots : List ℕ
  spots = map place_word m.places

  abbrev kept : List ℕ
  kept = map interrupt_word m.firmware.interrupts

  laid_pack : (behind : List ℕ) → pack_of m ++ behind ≡ laid_of m behind
  unfolding pack_of
  laid_pack behind =
      append_assoc head (posts ++ (spots ++ kept)) behind
      ∙ ap (λ (l : List ℕ). head ++ l) (append_assoc posts (spots ++ kept) behind ∙ ap (λ (l : List ℕ). posts ++ l) (append_assoc spots kept behind))

  -- what stands in the words once a mailbox is laid there
  pub stored : Whole m → (ws : List ℕ) → 88 ≤ length ws → laid_of m (drop 88 ws) ≡ words_for (pack_of m) ws
  stored w ws p =
      let long = pack_long m w in
      sym (laid_pack (drop 88 ws)) ∙ (ap (λ (n : ℕ). pack_of m ++ drop n ws) (sym long) ∙ words_fits (pack_of m) ws (omega arith))

-- ---- words that begin with a mailbox's
begins_is : (vs ws : List ℕ) → begins vs ws ≡ true → (length vs ≤ length ws) × (ws ≡ vs ++ drop (length vs) ws)
unfolding begins
begins_is [] ws e = (omega arith, refl)
begins_is (v ∷ vs) [] e = absurd (false≢true e)
begins_is (v ∷ vs) (w ∷ ws) e =
    let b = and_parts (eqb w v) (begins vs ws) e in
    let r = begins_is vs ws b.1 in
    let long = r.0 in
    let same : w ≡ v = eqb-true w v b.0 in
    let rest : ws ≡ vs ++ drop (length vs) ws = r.1 in
    (omega arith, λ i. same i ∷ rest i)

module _ (ws : List ℕ) (h : held_in ws ≡ true) where
  pub held_laid : ws ≡ laid_of (unpack_of ws) (drop 88 ws)
  unfolding held_in
  held_laid =
      (begins_is (pack_of (unpack_of ws)) ws h).1
      ∙ (ap (λ (n : ℕ). pack_of (unpack_of ws) ++ drop n ws) (pack_long (unpack_of ws) (unpacked_whole ws)) ∙ laid_pack (unpack_of ws) (drop 88 ws))

  -- a mailbox that stays leaves the words as they were
  pub held_kept : ws ≡ words_for (pack_of (unpack_of ws)) ws
  held_kept = held_laid ∙ stored (unpack_of ws) (unpacked_whole ws) ws (held_long ws h)

  -- the words of a mailbox that is laid out before the rest
  pub laid_words : (next : Mailbox) (after : List ℕ) → Whole next → after ≡ laid_of next (drop 88 ws) → after ≡ words_for (pack_of next) ws
  laid_words next after w e = e ∙ stored next w ws (held_long ws h)

-- The words of a mailbox, and a mailbox of words: one law for each answer. Assumes nothing.
use mathlib.Core.Path.{◌≡◌, refl, sym, ap, ◌∙◌}
use mathlib.Core.Logic.{◌⊎◌, inl, inr}
use mathlib.Core.List.{List, [], ◌∷◌, ◌++◌, map}
use Prim.Native.Nat.{ℕ, zero, suc, ◌+◌, ◌-◌, ◌≤◌, ◌<◌}
use native.Mathlib.Omega.{arith}
use native.Mathlib.Nat.{eq-or-lt_of_le}
use lib.ListN.{length, get_or, take, length-append, length-map, get_or-append, get_or-map}
use lib.Seq.{get_or_at, get_or-append-add, take-suc, take-length}
use Rattle.firmware.specs.Rules.{nothing}
use Rattle.mailbox.specs.declared.PlaceState.TheVariants.{Free}
use Rattle.mailbox.specs.declared.Mailbox.{Mailbox}
use Rattle.mailbox.specs.Machine.{no_post, place_with}
use Rattle.mailbox_layout.specs.Layout.{up_to, post_word, place_word, interrupt_word, head_of, pack_of, firmware_from, unpack_of}

module _ {A : Type 0} (f : ℕ → A) where
  pub length_up_to : (n : ℕ) → length (up_to f n) ≡ n
  unfolding up_to
  length_up_to zero = refl
  length_up_to (suc n) = let h = length_up_to n in length-append (up_to f n) (f n ∷ []) ∙ omega arith

-- ---- a list told index by index
module _ {A : Type 0} (f : ℕ → A) (d : A) where
  one_more : (n i : ℕ) → (i < n → get_or (up_to f n) i d ≡ f i) → (i ≡ n) ⊎ (i < n) → get_or (up_to f n ++ (f n ∷ [])) i d ≡ f i
  one_more n i before (inl e) = rw e (get_or_at (up_to f n) (f n) [] d n (length_up_to f n))
  one_more n i before (inr q) = let long = length_up_to f n in get_or-append (up_to f n) (f n ∷ []) d i (omega arith) ∙ before q

  pub get_or_up_to : (n i : ℕ) → i < n → get_or (up_to f n) i d ≡ f i
  unfolding up_to
  get_or_up_to zero i p = absurd (omega arith)
  get_or_up_to (suc n) i p = one_more n i (get_or_up_to n i) (eq-or-lt_of_le {n = i} {m = n} (omega arith))

module _ {A : Type 0} (f : ℕ → A) (l : List A) (d : A) where
  up_take : (n : ℕ) → n ≤ length l → ((i : ℕ) → i < n → f i ≡ get_or l i d) → up_to f n ≡ take n l
  unfolding up_to
  up_take zero p same = refl
  up_take (suc n) p same =
      ap (λ (t : List A). t ++ (f n ∷ [])) (up_take n (omega arith) (λ i q. same i (omega arith)))
      ∙ (ap (λ (x : A). take n l ++ (x ∷ [])) (same n (omega arith)) ∙ sym (take-suc l n d (omega arith)))

  -- a list that is told element by element
  pub up_all : (n : ℕ) → length l ≡ n → ((i : ℕ) → i < n → f i ≡ get_or l i d) → up_to f n ≡ l
  up_all n len same = up_take n (omega arith) same ∙ (ap (λ (k : ℕ). take k l) (sym len) ∙ take-length l)

-- ---- the whole: as many posts, places and interrupts as the layout has
pub record Whole (m : Mailbox) : Type 0 where
  pub line_long : length m.line ≡ 8
  pub places_long : length m.places ≡ 8
  pub interrupts_long : length m.firmware.interrupts ≡ 64

pub unpacked_whole : (ws : List ℕ) → Whole (unpack_of ws)
unfolding unpack_of firmware_from
unpacked_whole ws = record { line_long = length_up_to _ 8; places_long = length_up_to _ 8; interrupts_long = length_up_to _ 64 }

get_or_past : {A : Type 0} (a b : List A) (d : A) (k i : ℕ) → length a ≡ k → k ≤ i → get_or (a ++ b) i d ≡ get_or b (i - k) d
get_or_past a b d k i e p =
    let at : i ≡ length a + (i - k) = omega arith in
    ap (λ (j : ℕ). get_or (a ++ b) j d) at ∙ get_or-append-add a b (i - k) d

module _ (m : Mailbox) (w : Whole m) where
  abbrev head : List ℕ
  head = head_of m

  abbrev posts : List ℕ
  posts = map post_word m.line

  abbrev spots : List ℕ
  spots = map place_word m.places

  abbrev kept : List ℕ
  kept = map interrupt_word m.firmware.interrupts

  posts_long : length posts ≡ 8
  posts_long = length-map m.line post_word ∙ w.line_long

  spots_long : length spots ≡ 8
  spots_long = length-map m.places place_word ∙ w.places_long

  kept_long : length kept ≡ 64
  kept_long = length-map m.firmware.interrupts interrupt_word ∙ w.interrupts_long

  pub pack_long : length (pack_of m) ≡ 88
  unfolding pack_of
  pack_long =
      let a = length-append head (posts ++ (spots ++ kept)) in
      let b = length-append posts (spots ++ kept) in
      let d = length-append spots kept in
      long (length (head ++ (posts ++ (spots ++ kept)))) (length (posts ++ (spots ++ kept))) (length (spots ++ kept)) (length posts) (length spots) (length kept) a b d posts_long spots_long kept_long
    where
      long : (x y z p s k : ℕ) → x ≡ 8 + y → y ≡ p + z → z ≡ s + k → p ≡ 8 → s ≡ 8 → k ≡ 64 → x ≡ 88
      long x y z p s k a b d e f g = omega arith

  -- word i
  module _ (i : ℕ) where
    past_head : 8 ≤ i → get_or (pack_of m) i 0 ≡ get_or (posts ++ (spots ++ kept)) (i - 8) 0
    unfolding pack_of
    past_head a = get_or_past head (posts ++ (spots ++ kept)) 0 8 i refl a

    past_line : 16 ≤ i → get_or (pack_of m) i 0 ≡ get_or (spots ++ kept) (i - 16) 0
    past_line b =
        let e : i - 8 - 8 ≡ i - 16 = omega arith in
        past_head (omega arith) ∙ (get_or_past posts (spots ++ kept) 0 8 (i - 8) posts_long (omega arith) ∙ ap (λ (j : ℕ). get_or (spots ++ kept) j 0) e)

    past_places : 24 ≤ i → get_or (pack_of m) i 0 ≡ get_or kept (i - 24) 0
    past_places d =
        let e : i - 16 - 8 ≡ i - 24 = omega arith in
        past_line (omega arith) ∙ (get_or_past spots kept 0 8 (i - 16) spots_long (omega arith) ∙ ap (λ (j : ℕ). get_or kept j 0) e)

    pub pack_head : i < 8 → get_or (pack_of m) i 0 ≡ get_or (head_of m) i 0
    unfolding pack_of
    pack_head a = get_or-append head (posts ++ (spots ++ kept)) 0 i (omega arith)

    pub pack_post : 8 ≤ i → i < 16 → get_or (pack_of m) i 0 ≡ post_word (get_or m.line (i - 8) no_post)
    pack_post a b =
        let long = posts_long in
        past_head a ∙ (get_or-append posts (spots ++ kept) 0 (i - 8) (omega arith) ∙ get_or-map post_word m.line (i - 8) no_post)

    pub pack_place : 16 ≤ i → i < 24 → get_or (pack_of m) i 0 ≡ place_word (get_or m.places (i - 16) (place_with Free))
    pack_place a b =
        let long = spots_long in
        past_line a ∙ (get_or-append spots kept 0 (i - 16) (omega arith) ∙ get_or-map place_word m.places (i - 16) (place_with Free))

    pub pack_interrupt : 24 ≤ i → get_or (pack_of m) i 0 ≡ interrupt_word (get_or m.firmware.interrupts (i - 24) nothing)
    pack_interrupt a = past_places a ∙ get_or-map interrupt_word m.firmware.interrupts (i - 24) nothing

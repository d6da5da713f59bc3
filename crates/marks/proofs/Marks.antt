-- Marks of the numbers f 0, .., f (i - 1): none at first, and one more with each word that is set. Assumes nothing.
use mathlib.Core.Path.{◌≡◌, refl, sym, ap, ◌∙◌}
use mathlib.Core.List.{List}
use mathlib.Core.Bool.{Bool, true, false, ◌||◌}
use Prim.Native.Nat.{ℕ, ◌+◌, ◌*◌, ◌/◌, ◌%◌, ◌^◌, ◌<◌}
use native.Mathlib.Nat.{div-eq_of_lt}
use native.Mathlib.Omega.{arith}
use borrow.Author.Tests.{eqb-true, eqb-false, eq-eqb, ne_eqb}
use lib.ListN.{length, get_or, set, replicate, get_or-replicate}
use lib.Seq.{get_or-set_same, get_or-set_other}
use lib.Dec.{eqb}
use lib.Pow.{pow_pos}
use lib.Bits.{bit_or}
use Rattle.reply.specs.Some.{some_below}
use Rattle.reply.proofs.SomeLaws.{some_more, some_none}
use Rattle.marks.specs.Marks.{bit_of, kept_as}
use Rattle.marks.proofs.Bits.{kept_kept, bit_set, bit_other}

-- so many words have a bit for each number below 64 times as many: of the numbers f 0, .., f (i - 1) it is one
abbrev pub Marks : ℕ → (ℕ → ℕ) → ℕ → List ℕ → Type 0
Marks words f i marks = (k : ℕ) → k < words * 64 → bit_of (kept_as (get_or marks (k / 64) 0)) (k % 64) ≡ some_below (λ j. eqb (f j) k) i

pub marks_none : (words : ℕ) (f : ℕ → ℕ) → Marks words f 0 (replicate words 1)
marks_none words f k h =
    ap (λ (x : ℕ). bit_of (kept_as x) (k % 64)) (get_or-replicate words (k / 64) 1 0 (omega arith)) ∙ ap (λ (x : ℕ). eqb (x % 2) 1) (div-eq_of_lt (pow_pos (k % 64))) ∙ sym (some_none (λ j. eqb (f j) k))

-- one more number, w its word and v what is put there
pub marks_step : (words : ℕ) (f : ℕ → ℕ) (i : ℕ) (marks : List ℕ) (p w v : ℕ) → length marks ≡ words → Marks words f i marks → p ≡ f i → p < words * 64 → w ≡ p / 64 →
    v ≡ kept_as (bit_or (kept_as (get_or marks w 0)) (2 ^ (p % 64))) → Marks words f (i + 1) (set marks w v)
marks_step words f i marks p w v len old is small at value k h = by (eqb w (k / 64)) refl
  where
    after : (b : Bool) → eqb p k ≡ b → some_below (λ j. eqb (f j) k) (i + 1) ≡ (b || some_below (λ j. eqb (f j) k) i)
    after b q = some_more (λ j. eqb (f j) k) i ∙ ap (λ (b : Bool). b || some_below (λ j. eqb (f j) k) i) (ap (λ (x : ℕ). eqb x k) (sym is) ∙ q)

    inside : w < length marks
    inside = omega arith

    in_word : (b : Bool) → eqb (p % 64) (k % 64) ≡ b → w ≡ k / 64 → bit_of (bit_or (kept_as (get_or marks w 0)) (2 ^ (p % 64))) (k % 64) ≡ some_below (λ j. eqb (f j) k) (i + 1)
    in_word true q e =
        let same : p % 64 ≡ k % 64 = eqb-true _ _ q in
        let word : p / 64 ≡ k / 64 = sym at ∙ e in
        let pk : p ≡ k = omega arith in
        (rw (← same) (bit_set (kept_as (get_or marks w 0)) (p % 64))) ∙ sym (after true (eq-eqb p k pk))
    in_word false q e =
        let other = eqb-false _ _ q in
        bit_other (kept_as (get_or marks w 0)) (p % 64) (k % 64) other ∙ ap (λ (x : ℕ). bit_of (kept_as (get_or marks x 0)) (k % 64)) e ∙ old k h ∙ sym (after false (ne_eqb p k (λ z. other (ap (λ (x : ℕ). x % 64) z))))

    by : (b : Bool) → eqb w (k / 64) ≡ b → bit_of (kept_as (get_or (set marks w v) (k / 64) 0)) (k % 64) ≡ some_below (λ j. eqb (f j) k) (i + 1)
    by true q =
        let e = eqb-true _ _ q in
        ap (λ (x : ℕ). bit_of (kept_as x) (k % 64)) (ap (λ (x : ℕ). get_or (set marks w v) x 0) (sym e) ∙ get_or-set_same marks w v 0 inside ∙ value)
        ∙ ap (λ (x : ℕ). bit_of x (k % 64)) (kept_kept (bit_or (kept_as (get_or marks w 0)) (2 ^ (p % 64)))) ∙ in_word (eqb (p % 64) (k % 64)) refl e
    by false q =
        let other = eqb-false _ _ q in
        ap (λ (x : ℕ). bit_of (kept_as x) (k % 64)) (get_or-set_other marks w (k / 64) v 0 (λ z. other (sym z))) ∙ old k h
        ∙ sym (after false (ne_eqb p k (λ z. other (at ∙ ap (λ (x : ℕ). x / 64) z))))

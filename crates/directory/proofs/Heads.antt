-- What the first four bytes of an entry tell, what its mark tells, and when it may stand behind the earlier ones. Assumes nothing.
use mathlib.Core.Path.{◌≡◌, refl, sym, ap, ap₂, ◌∙◌}
use mathlib.Core.List.{List}
use mathlib.Core.Bool.{Bool, true, false, not, ◌&&◌, ◌||◌}
use Prim.Native.Nat.{ℕ, ◌+◌, ◌*◌, ◌/◌, ◌%◌, ◌^◌, ◌<◌}
use native.Mathlib.Nat.{add-zero}
use native.Mathlib.Omega.{arith}
use borrow.Author.Tests.{eqb-true, eqb-false, not-true, eq-eqb, ne_eqb}
use lib.Bits.{bit_or}
use lib.ListN.{length, get_or, set, replicate, length-set, length-replicate}
use lib.Dec.{eqb}
use Rattle.le.specs.Le.{le_at, Bytes}
use Rattle.le.proofs.Laws.{le_split, le_small}
use Rattle.reply.proofs.ReplyLaws.{apart}
use Rattle.reply.proofs.SomeLaws.{some_same, some_false, none_below}
use Rattle.marks.specs.Marks.{bit_of, kept_as}
use Rattle.marks.proofs.Marks.{Marks, marks_none, marks_step}
use Rattle.directory.specs.Directory.{entry_place, same_entry, repeats_earlier, may_repeat}
use Rattle.directory.specs.Looks.{head_at}
use Rattle.directory.specs.Good.{Alike, First}
use Rattle.directory.specs.declared.Kind.{Kind}

-- so many words have the marks of the types and subprograms of the entries before i
pub record Seen (kind : Kind) (image : List ℕ) (o words i : ℕ) (marks : List ℕ) : Type 0 where
  pub long : length marks ≡ words
  pub has : Marks words (λ j. head_at kind image o j % 65536) i marks

pub seen_none : (kind : Kind) (s : List ℕ) (o words : ℕ) → Seen kind s o words 0 (replicate words 1)
seen_none kind s o words = record { long = length-replicate words 1; has = marks_none words (λ j. head_at kind s o j % 65536) }

-- what the first four bytes of entry i tell
module _ (kind : Kind) (s : List ℕ) (o : ℕ) (bytes : Bytes s) where
  head_parts : (i : ℕ) → head_at kind s o i ≡ le_at 1 s (entry_place kind o i + 0) + 256 * le_at 1 s (entry_place kind o i + 1) + 65536 * le_at 2 s (entry_place kind o i + 2)
  head_parts i = le_split 2 2 s (entry_place kind o i) ∙ ap (λ (x : ℕ). x + 65536 * le_at 2 s (entry_place kind o i + 2)) (two (entry_place kind o i))
    where
      two : (e : ℕ) → le_at 2 s e ≡ le_at 1 s (e + 0) + 256 * le_at 1 s (e + 1)
      two e = le_split 1 1 s e ∙ ap (λ (x : ℕ). le_at 1 s x + 256 * le_at 1 s (e + 1)) (sym (add-zero e))

  pub head_reserved : (i : ℕ) → head_at kind s o i / 65536 ≡ le_at 2 s (entry_place kind o i + 2)
  head_reserved i = let a = le_small s bytes 1 (entry_place kind o i + 0) in let b = le_small s bytes 1 (entry_place kind o i + 1) in omega (arith, head_parts i)

  pub head_type : (i : ℕ) → head_at kind s o i % 256 ≡ le_at 1 s (entry_place kind o i + 0)
  head_type i = let a = le_small s bytes 1 (entry_place kind o i + 0) in omega (arith, head_parts i)

  pub head_pair : (i : ℕ) → (head_at kind s o i % 65536) ≡ le_at 1 s (entry_place kind o i + 0) + 256 * le_at 1 s (entry_place kind o i + 1)
  head_pair i = let a = le_small s bytes 1 (entry_place kind o i + 0) in let b = le_small s bytes 1 (entry_place kind o i + 1) in omega (arith, head_parts i)

  same_pair : (i j : ℕ) → eqb ((head_at kind s o j % 65536)) ((head_at kind s o i % 65536)) ≡ same_entry kind s o i j
  same_pair i j = ap₂ eqb (head_pair j) (head_pair i) ∙ both (le_at 1 s (entry_place kind o j + 0)) (le_at 1 s (entry_place kind o i + 0)) (le_at 1 s (entry_place kind o j + 1)) (le_at 1 s (entry_place kind o i + 1)) (le_small s bytes 1 _) (le_small s bytes 1 _)
    where
      both : (t u a b : ℕ) → t < 256 → u < 256 → eqb (t + 256 * a) (u + 256 * b) ≡ (eqb t u && eqb a b)
      both t u a b x y = by (eqb t u) refl (eqb a b) refl
        where
          by : (p : Bool) → eqb t u ≡ p → (q : Bool) → eqb a b ≡ q → eqb (t + 256 * a) (u + 256 * b) ≡ (p && q)
          by true e true f = let m : t ≡ u = eqb-true t u e in let n : a ≡ b = eqb-true a b f in eq-eqb (t + 256 * a) (u + 256 * b) (omega arith)
          by true e false f = let m : t ≡ u = eqb-true t u e in ne_eqb (t + 256 * a) (u + 256 * b) (λ z. eqb-false a b f (omega arith))
          by false e q f = ne_eqb (t + 256 * a) (u + 256 * b) (λ z. eqb-false t u e (omega arith))

  -- by the mark of entry i, in word w: whether it repeats an earlier one; and its mark beside theirs
  module _ {words i head w : ℕ} {marks : List ℕ} (old : Seen kind s o words i marks) (is : head ≡ head_at kind s o i) (small : head % 65536 < words * 64) (at : w ≡ (head % 65536) / 64) where
    pair_is : head % 65536 ≡ head_at kind s o i % 65536
    pair_is = ap (λ (x : ℕ). x % 65536) is

    pub seen_tells : bit_of (kept_as (get_or marks w 0)) (head % 65536 % 64) ≡ repeats_earlier kind s o i
    seen_tells =
        ap (λ (x : ℕ). bit_of (kept_as (get_or marks x 0)) (head % 65536 % 64)) at ∙ old.has (head % 65536) small ∙ some_same _ _ i (λ j l. ap (eqb (head_at kind s o j % 65536)) pair_is ∙ same_pair i j)

    pub seen_more : {v : ℕ} → v ≡ kept_as (bit_or (kept_as (get_or marks w 0)) (2 ^ (head % 65536 % 64))) → Seen kind s o words (i + 1) (set marks w v)
    seen_more {v} value = record {
      long = length-set marks w v ∙ old.long;
      has = marks_step words (λ j. head_at kind s o j % 65536) i marks (head % 65536) w v old.long old.has pair_is small at value;
    }

-- the test of an entry of a directory that may not repeat
module _ (kind : Kind) (s : List ℕ) (o i : ℕ) where
  pub may_first : repeats_earlier kind s o i ≡ false → may_repeat kind s o i ≡ true
  may_first e = by kind.repeats
    where
      by : (b : Bool) → (b || not (repeats_earlier kind s o i)) ≡ true
      by true = refl
      by false = ap not e

  pub may_any : kind.repeats ≡ true → may_repeat kind s o i ≡ true
  may_any e = ap (λ (b : Bool). b || not (repeats_earlier kind s o i)) e

  pub may_not : kind.repeats ≡ false → repeats_earlier kind s o i ≡ true → may_repeat kind s o i ≡ false
  may_not e r = ap₂ (λ (b q : Bool). b || not q) e r

  -- the test as a fact and back
  pub first_fact : may_repeat kind s o i ≡ true → First kind s o i
  first_fact e f j l a =
      apart (ap₂ ◌&&◌ (eq-eqb _ _ a.0) (eq-eqb _ _ a.1)) (none_below (same_entry kind s o i) i (not-true _ (ap (λ (b : Bool). b || not (repeats_earlier kind s o i)) (sym f) ∙ e)) j l)

  pub first_test : First kind s o i → may_repeat kind s o i ≡ true
  first_test h = by kind.repeats refl
    where
      alike : (j : ℕ) → (b c : Bool) → eqb (le_at 1 s (entry_place kind o j + 0)) (le_at 1 s (entry_place kind o i + 0)) ≡ b → eqb (le_at 1 s (entry_place kind o j + 1)) (le_at 1 s (entry_place kind o i + 1)) ≡ c →
          (Alike kind s o i j → ⊥) → (b && c) ≡ false
      alike j true true x y n = absurd (n (eqb-true _ _ x, eqb-true _ _ y))
      alike j true false x y n = refl
      alike j false c x y n = refl

      by : (b : Bool) → kind.repeats ≡ b → (b || not (repeats_earlier kind s o i)) ≡ true
      by true q = refl
      by false q = ap not (some_false (same_entry kind s o i) i (λ j l. alike j _ _ refl refl (h q j l)))

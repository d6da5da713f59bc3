-- The words of an ASPT, taken as they were laid out. Assumes nothing.
use mathlib.Core.Path.{◌≡◌, refl, sym, ap, subst, ◌∙◌}
use mathlib.Core.Bool.{Bool, true, false, cond, ◌&&◌, and-eq-true_iff}
use mathlib.Core.List.{List, ◌++◌}
use Prim.Native.Nat.{ℕ, ◌+◌, ◌*◌, ◌/◌, ◌%◌, ◌^◌, ◌<◌, ◌≤◌}
use native.Mathlib.Omega.{arith}
use lib.Dec.{leb, ltb, eqb}
use lib.ListN.{length, take}
use borrow.Author.Tests.{le-leb, lt-leb, lt-ltb, ltb-true}
use Rattle.reply.specs.Reply.{refused, alone, guard}
use Rattle.reply.proofs.ReplyLaws.{passed, failed}
use Rattle.le.specs.Le.{Bytes}
use Rattle.le.proofs.Laws.{le_small}
use Rattle.le.proofs.Part.{part_bytes}
use Rattle.aspt.specs.Bytes.{structure_part, structure_in, table_in}
use Rattle.aspt.specs.declared.Structure.{Structure}
use Rattle.aspt.specs.declared.Table.{Table}
use Rattle.aspt.proofs.Accept.{read_acceptance}
use Rattle.aspt_build.specs.Write.{own_of, write_of, written_by}
use Rattle.aspt_build.specs.Back.{own_table}
use Rattle.aspt_words.specs.AsptTable.{lay_table, table_from, structure_fits, table_fits, write_words, left_by, cut_table}
use Rattle.aspt_words.specs.Taken.{FitStructure, FitTable, WordsTaken}
use Rattle.aspt_words.proofs.Cut.{fit_only, fit_all, cut_written, cut_bytes, own_written, own_left}

-- the test of a table, as facts
module _ (t : Table) where
  pub table_only : table_fits t ≡ true → FitTable t
  unfolding table_fits
  table_only fit =
      let g1 = (and-eq-true_iff (ltb t.oem_high (2 ^ 16)) _).0 fit in
      let g2 = (and-eq-true_iff (ltb t.oem_revision (2 ^ 32)) _).0 g1.1 in
      let g3 = (and-eq-true_iff (ltb t.creator (2 ^ 32)) _).0 g2.1 in
      let g4 = (and-eq-true_iff (ltb t.creator_revision (2 ^ 32)) _).0 g3.1 in
      let g5 = (and-eq-true_iff (ltb t.pages (2 ^ 32)) _).0 g4.1 in
      let g6 = (and-eq-true_iff (structure_fits t.first) _).0 g5.1 in
      let g7 = (and-eq-true_iff (structure_fits t.second) _).0 g6.1 in
      record {
        oem_high = ltb-true t.oem_high (2 ^ 16) g1.0;
        oem_revision = ltb-true t.oem_revision (2 ^ 32) g2.0;
        creator = ltb-true t.creator (2 ^ 32) g3.0;
        creator_revision = ltb-true t.creator_revision (2 ^ 32) g4.0;
        pages = ltb-true t.pages (2 ^ 32) g5.0;
        first = fit_only t.first g6.0;
        second = fit_only t.second g7.0;
        third = fit_only t.third g7.1;
      }

  table_all : FitTable t → table_fits t ≡ true
  unfolding table_fits
  table_all fit =
      rw (
        lt-ltb t.oem_high (2 ^ 16) fit.oem_high,
        lt-ltb t.oem_revision (2 ^ 32) fit.oem_revision,
        lt-ltb t.creator (2 ^ 32) fit.creator,
        lt-ltb t.creator_revision (2 ^ 32) fit.creator_revision,
        lt-ltb t.pages (2 ^ 32) fit.pages,
        fit_all t.first fit.first,
        fit_all t.second fit.second,
        fit_all t.third fit.third,
      )

  table_wide : (FitTable t → ⊥) → table_fits t ≡ false
  table_wide wide = by (table_fits t) refl
    where
      by : (b : Bool) → table_fits t ≡ b → table_fits t ≡ false
      by true e = absurd (wide (table_only e))
      by false e = e

-- too few words
pub words_short : (words s : List ℕ) → length words < 22 → refused 1 alone ≡ write_words words s
unfolding write_words
words_short words s few = sym (failed _ _ _ _ (lt-leb 22 (length words) few))

-- what a write of lent words answers, and the bytes that it leaves, with the table as the code holds it
module _ (words s : List ℕ) (enough : 22 ≤ length words) where
  abbrev table : Table
  table = table_from words

  pub words_fail : table_fits table ≡ false → refused 5 alone ≡ write_words words s
  unfolding write_words
  words_fail e = sym (passed _ _ _ _ (le-leb 22 (length words) enough) ∙ failed _ _ _ _ e)

  module _ (fit : table_fits table ≡ true) where
    as_table : write_of table s ≡ write_words words s
    unfolding write_words
    as_table = sym (passed _ _ _ _ (le-leb 22 (length words) enough) ∙ passed _ _ _ _ fit)

    pub words_pass : write_of (cut_table table) s ≡ write_words words s
    words_pass = cut_written table (table_only table fit) s ∙ as_table

    pub words_left : written_by (cut_table table) s (write_of (cut_table table) s) ≡ left_by words s
    words_left = cut_bytes table (table_only table fit) s ∙ ap (written_by table s) as_table

-- the two parts of the OEM ID
low_part : (a b : ℕ) → a < 2 ^ 32 → (a + 2 ^ 32 * b) % 2 ^ 32 ≡ a
low_part a b h = omega arith

high_part : (a b : ℕ) → a < 2 ^ 32 → (a + 2 ^ 32 * b) / 2 ^ 32 ≡ b
high_part a b h = omega arith

-- a table is taken as it was laid out
module _ (t : Table) (more : List ℕ) (low : t.oem_low < 2 ^ 32) where
  same : table_from (lay_table t ++ more) ≡ t
  unfolding table_from
  same =
      let l = low_part t.oem_low t.oem_high low in
      let h = high_part t.oem_low t.oem_high low in
      λ i. record {
        oem_low = l i;
        oem_high = h i;
        oem_table = t.oem_table;
        oem_revision = t.oem_revision;
        creator = t.creator;
        creator_revision = t.creator_revision;
        base = t.base;
        pages = t.pages;
        first = t.first;
        second = t.second;
        third = t.third;
      }

  judged : (s : List ℕ) → write_words (lay_table t ++ more) s ≡ guard (table_fits t) 5 (write_of t s)
  unfolding write_words
  judged s = passed _ _ _ _ (le-leb 22 (length (lay_table t ++ more)) (omega arith)) ∙ ap (λ (x : Table). guard (table_fits x) 5 (write_of x s)) same

  left : (s : List ℕ) → left_by (lay_table t ++ more) s ≡ written_by t s (guard (table_fits t) 5 (write_of t s))
  left s = λ i. written_by (same i) s (judged s i)

  taken : (s : List ℕ) → FitTable t → write_words (lay_table t ++ more) s ≡ write_of t s
  taken s fit = judged s ∙ passed _ _ _ _ (table_all t fit)

-- what a structure's type lacks has no part in the test
own_fits : (st : Structure) → structure_fits (own_of st) ≡ structure_fits st
unfolding structure_fits own_of
own_fits st = ap (λ (b : Bool). cond (leb st.class 2) b true) (by (eqb st.class 2) (eqb st.class 1))
  where
    by : (two one : Bool) →
        (ltb st.first (2 ^ 32) && (cond two true (ltb (cond two 0 st.second) (2 ^ 32) && ltb (cond two 0 st.third) (2 ^ 32)) && cond one (ltb (cond one st.id 0) 256) true))
        ≡ (ltb st.first (2 ^ 32) && (cond two true (ltb st.second (2 ^ 32) && ltb st.third (2 ^ 32)) && cond one (ltb st.id 256) true))
    by true true = refl
    by true false = refl
    by false true = refl
    by false false = refl

own_table_fits : (t : Table) → table_fits (own_table t) ≡ table_fits t
unfolding table_fits
own_table_fits t = rw (own_fits t.first, own_fits t.second, own_fits t.third)

module _ (t : Table) (more s : List ℕ) (low : t.oem_low < 2 ^ 32) where
  own_judged : guard (table_fits (own_table t)) 5 (write_of (own_table t) s) ≡ guard (table_fits t) 5 (write_of t s)
  own_judged = λ i. guard (own_table_fits t i) 5 (own_written t s i)

  lacking : write_words (lay_table t ++ more) s ≡ write_words (lay_table (own_table t) ++ more) s
  lacking = judged t more low s ∙ sym (judged (own_table t) more low s ∙ own_judged)

  lacking_bytes : left_by (lay_table t ++ more) s ≡ left_by (lay_table (own_table t) ++ more) s
  lacking_bytes = left t more low s ∙ sym (left (own_table t) more low s ∙ ap (written_by (own_table t) s) own_judged ∙ own_left t s (guard (table_fits t) 5 (write_of t s)))

-- what was read fits
structure_read : (p : List ℕ) → Bytes p → FitStructure (structure_in p)
structure_read p bytes = record {
  id = λ _. le_small p bytes 1 4;
  first = λ _. le_small p bytes 4 8;
  second = λ _. le_small p bytes 4 12;
  third = λ _. le_small p bytes 4 16;
}

table_read : (s : List ℕ) → Bytes s → FitTable (table_in s)
table_read s bytes = record {
  oem_high = le_small s bytes 2 14;
  oem_revision = le_small s bytes 4 24;
  creator = le_small s bytes 4 28;
  creator_revision = le_small s bytes 4 32;
  pages = le_small s bytes 4 44;
  first = structure_read (structure_part 0 s) (part_bytes s 52 20 bytes);
  second = structure_read (structure_part 1 s) (part_bytes s 72 20 bytes);
  third = structure_read (structure_part 2 s) (part_bytes s 92 20 bytes);
}

pub words_taken : WordsTaken
words_taken = record {
  taken = λ t more s low fit. taken t more low s fit;
  wide = λ t more s low wide. judged t more low s ∙ failed _ _ _ _ (table_wide t wide);
  lacking = lacking;
  lacking_bytes = lacking_bytes;
  read = λ bytes t more s each e.
      let lent = take 112 bytes in
      let small = part_bytes bytes 0 112 each in
      let is = (read_acceptance.only bytes t e).1.table in
      taken t more (subst (λ (x : Table). x.oem_low < 2 ^ 32) (sym is) (le_small lent small 4 10)) s (subst FitTable (sym is) (table_read lent small));
}

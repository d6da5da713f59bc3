-- Numbers cut to their fields: nothing is lost of a field that is there, and a type that there is not stays one. Assumes nothing.
use mathlib.Core.Path.{◌≡◌, refl, sym, ap, ◌∙◌}
use mathlib.Core.Bool.{Bool, true, false, cond, ◌&&◌, and-eq-true_iff}
use mathlib.Core.List.{List, [], ◌∷◌, ◌++◌}
use Prim.Native.Nat.{ℕ, ◌%◌, ◌^◌, ◌≤◌, ◌<◌}
use native.Mathlib.Nat.{mod-eq_of_lt}
use native.Mathlib.Omega.{arith}
use lib.Dec.{leb, ltb, eqb}
use lib.ListN.{length, drop}
use borrow.Author.Tests.{leb-true, leb-false, le-leb, lt-leb, ltb-true, lt-ltb, eqb-true, eqb-false, ne_eqb}
use Rattle.reply.specs.Reply.{Reply, given, refused, alone, guard, then}
use Rattle.aspt.specs.Header.{table_length}
use Rattle.aspt.specs.Rules.{done, space_checks, structure_checks, structures_checks}
use Rattle.aspt.specs.Calls.{admit_of}
use Rattle.aspt.specs.Good.{GoodTable}
use Rattle.aspt.specs.declared.Structure.{Structure}
use Rattle.aspt.specs.declared.Table.{Table}
use Rattle.aspt_build.specs.Write.{own_of, table_bytes, write_of, written_by}
use Rattle.aspt_build.specs.Back.{own_table}
use Rattle.aspt_build.proofs.Written.{own_bytes}
use Rattle.aspt_build.proofs.Parts.{own_checks, three_own}
use Rattle.aspt_build.proofs.Accept.{write_acceptance}
use Rattle.aspt_words.specs.AsptTable.{structure_fits, cut_structure, cut_table}
use Rattle.aspt_words.specs.Taken.{FitStructure, FitTable}

-- the test of a structure, as facts
module _ (st : Structure) where
  pub fit_only : structure_fits st ≡ true → FitStructure st
  unfolding structure_fits
  fit_only fit = record {
    id = λ e. ltb-true st.id 256 ((and-eq-true_iff (ltb st.second (2 ^ 32) && ltb st.third (2 ^ 32)) _).0 ((and-eq-true_iff (ltb st.first (2 ^ 32)) _).0 (rw e at fit)).1).1;
    first = λ h. ltb-true st.first (2 ^ 32) ((and-eq-true_iff (ltb st.first (2 ^ 32)) _).0 (rw (le-leb st.class 2 h) at fit)).0;
    second = λ h. ltb-true st.second (2 ^ 32) ((and-eq-true_iff (ltb st.second (2 ^ 32)) _).0 (others h)).0;
    third = λ h. ltb-true st.third (2 ^ 32) ((and-eq-true_iff (ltb st.second (2 ^ 32)) _).0 (others h)).1;
  }
    where
      others : st.class ≤ 1 → (ltb st.second (2 ^ 32) && ltb st.third (2 ^ 32)) ≡ true
      others h =
          let two = ne_eqb st.class 2 (λ e. let f : ⊥ = omega arith in f) in
          let all = (and-eq-true_iff (ltb st.first (2 ^ 32)) _).0 (rw (le-leb st.class 2 (omega arith), two) at fit) in
          ((and-eq-true_iff (ltb st.second (2 ^ 32) && ltb st.third (2 ^ 32)) _).0 all.1).0

  pub fit_all : FitStructure st → structure_fits st ≡ true
  unfolding structure_fits
  fit_all fit = by (leb st.class 2) refl
    where
      others : (two : Bool) → eqb st.class 2 ≡ two → st.class ≤ 2 → cond two true (ltb st.second (2 ^ 32) && ltb st.third (2 ^ 32)) ≡ true
      others true e h = refl
      others false e h =
          let type : st.class ≤ 1 = let n = eqb-false st.class 2 e in omega arith in
          rw (lt-ltb st.second (2 ^ 32) (fit.second type), lt-ltb st.third (2 ^ 32) (fit.third type))

      id : (one : Bool) → eqb st.class 1 ≡ one → cond one (ltb st.id 256) true ≡ true
      id true e = lt-ltb st.id 256 (fit.id (eqb-true st.class 1 e))
      id false e = refl

      by : (type : Bool) → leb st.class 2 ≡ type → structure_fits st ≡ true
      by true e =
          let type = leb-true st.class 2 e in
          rw (e, lt-ltb st.first (2 ^ 32) (fit.first type), others (eqb st.class 2) refl type, id (eqb st.class 1) refl)
      by false e = rw e

-- a structure that is cut keeps what its type has
module _ (st : Structure) (fit : FitStructure st) (type : st.class ≤ 2) where
  pub cut_class : (cut_structure st).class ≡ st.class
  cut_class = rw (le-leb st.class 65535 (omega arith))

  pub cut_own : own_of (cut_structure st) ≡ own_of st
  unfolding own_of
  cut_own =
      λ i. record {
        class = cut_class i;
        id = (ap (λ (k : ℕ). cond (eqb k 1) (st.id % 2 ^ 8) 0) cut_class ∙ id (eqb st.class 1) refl) i;
        first = mod-eq_of_lt (fit.first type) i;
        second = (ap (λ (k : ℕ). cond (eqb k 2) 0 (st.second % 2 ^ 32)) cut_class ∙ second (eqb st.class 2) refl) i;
        third = (ap (λ (k : ℕ). cond (eqb k 2) 0 (st.third % 2 ^ 32)) cut_class ∙ third (eqb st.class 2) refl) i;
      }
    where
      one : eqb st.class 2 ≡ false → st.class ≤ 1
      one e = let n = eqb-false st.class 2 e in omega arith

      id : (b : Bool) → eqb st.class 1 ≡ b → cond b (st.id % 2 ^ 8) 0 ≡ cond b st.id 0
      id true e = mod-eq_of_lt (fit.id (eqb-true st.class 1 e))
      id false e = refl

      second : (b : Bool) → eqb st.class 2 ≡ b → cond b 0 (st.second % 2 ^ 32) ≡ cond b 0 st.second
      second true e = refl
      second false e = mod-eq_of_lt (fit.second (one e))

      third : (b : Bool) → eqb st.class 2 ≡ b → cond b 0 (st.third % 2 ^ 32) ≡ cond b 0 st.third
      third true e = refl
      third false e = mod-eq_of_lt (fit.third (one e))

-- it is judged as it was
module _ {A : Type 0} (pages : ℕ) where
  no_type : (seen : List ℕ) (st : Structure) (rest : Reply A) → 2 < st.class → structure_checks pages seen st true true rest ≡ refused 6 alone
  unfolding structure_checks
  no_type seen st rest h = rw (lt-leb st.class 2 h)

  cut_checks : (seen : List ℕ) (st : Structure) (rest other : Reply A) → FitStructure st → (st.class ≤ 2 → rest ≡ other) →
      structure_checks pages seen (cut_structure st) true true rest ≡ structure_checks pages seen st true true other
  cut_checks seen st rest other fit same = by (leb st.class 2) refl
    where
      by : (type : Bool) → leb st.class 2 ≡ type → structure_checks pages seen (cut_structure st) true true rest ≡ structure_checks pages seen st true true other
      by true e =
          let type = leb-true st.class 2 e in
          sym (own_checks pages seen (cut_structure st) rest)
          ∙ ap (λ (x : Structure). structure_checks pages seen x true true rest) (cut_own st fit type)
          ∙ own_checks pages seen st rest
          ∙ ap (structure_checks pages seen st true true) (same type)
      by false e =
          let none = leb-false st.class 2 e in
          no_type seen (cut_structure st) rest (still (leb st.class 65535) none) ∙ sym (no_type seen st other none)
        where
          still : (narrow : Bool) → 2 < st.class → 2 < cond narrow st.class 65535
          still true h = h
          still false h = omega arith

  cut_three : (a b c : Structure) (rest : Reply A) → FitStructure a → FitStructure b → FitStructure c →
      structures_checks pages (cut_structure a) (cut_structure b) (cut_structure c) (λ _. true) (λ _. true) rest ≡ structures_checks pages a b c (λ _. true) (λ _. true) rest
  unfolding structures_checks
  cut_three a b c rest fa fb fc =
      let cut = cut_structure in
      cut_checks [] a _ _ fa
      (λ first. ap (λ (k : ℕ). structure_checks pages (k ∷ []) (cut b) true true (structure_checks pages (k ∷ (cut b).class ∷ []) (cut c) true true rest)) (cut_class a fa first)
      ∙ cut_checks (a.class ∷ []) b _ _ fb
      (λ second. ap (λ (k : ℕ). structure_checks pages (a.class ∷ k ∷ []) (cut c) true true rest) (cut_class b fb second)
      ∙ cut_checks (a.class ∷ b.class ∷ []) c rest rest fc (λ _. refl)))

-- a table is written as what its types have is written
module _ (t : Table) where
  pub own_written : (s : List ℕ) → write_of (own_table t) s ≡ write_of t s
  unfolding write_of admit_of
  own_written s =
      ap (λ (r : Reply Unit). then r (λ _. guard (leb table_length (length s)) 12 done))
      (ap (space_checks t.base t.pages) (three_own t.pages t.first t.second t.third done))

  pub own_left : (s : List ℕ) (d : Reply Unit) → written_by (own_table t) s d ≡ written_by t s d
  own_left s (given x) = ap (λ (bytes : List ℕ). bytes ++ drop table_length s) (own_bytes t)
  own_left s (refused number carried) = refl

-- a table that is cut is judged and written as it was
module _ (t : Table) (fit : FitTable t) where
  cut_table_lem : GoodTable t → own_table (cut_table t) ≡ own_table t
  cut_table_lem good =
      λ i. record {
        oem_low = t.oem_low;
        oem_high = mod-eq_of_lt fit.oem_high i;
        oem_table = t.oem_table;
        oem_revision = mod-eq_of_lt fit.oem_revision i;
        creator = mod-eq_of_lt fit.creator i;
        creator_revision = mod-eq_of_lt fit.creator_revision i;
        base = t.base;
        pages = mod-eq_of_lt fit.pages i;
        first = cut_own t.first fit.first good.first.type i;
        second = cut_own t.second fit.second good.second.type i;
        third = cut_own t.third fit.third good.third.type i;
      }

  pub cut_written : (s : List ℕ) → write_of (cut_table t) s ≡ write_of t s
  unfolding write_of admit_of
  cut_written s =
      ap (λ (r : Reply Unit). then r (λ _. guard (leb table_length (length s)) 12 done))
      (ap (λ (p : ℕ). space_checks t.base p (structures_checks p (cut_structure t.first) (cut_structure t.second) (cut_structure t.third) (λ _. true) (λ _. true) done)) (mod-eq_of_lt fit.pages)
      ∙ ap (space_checks t.base t.pages) (cut_three t.pages t.first t.second t.third done fit.first fit.second fit.third))

  pub cut_bytes : (s : List ℕ) → written_by (cut_table t) s (write_of (cut_table t) s) ≡ written_by t s (write_of t s)
  cut_bytes s = ap (written_by (cut_table t) s) (cut_written s) ∙ by (write_of t s) refl
    where
      by : (d : Reply Unit) → write_of t s ≡ d → written_by (cut_table t) s d ≡ written_by t s d
      by (given x) e =
          let good = (write_acceptance.only t s e).0 in
          ap (λ (bytes : List ℕ). bytes ++ drop table_length s) (sym (own_bytes (cut_table t)) ∙ ap table_bytes (cut_table_lem good) ∙ own_bytes t)
      by (refused number carried) e = refl

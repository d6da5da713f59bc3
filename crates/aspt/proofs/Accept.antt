-- What is accepted, both ways: for one structure, for three, for bytes that are read and for a table that is to be written. Assumes nothing.
use mathlib.Core.Path.{◌≡◌, refl, sym, ap, subst, ◌∙◌}
use mathlib.Core.Bool.{Bool, true, false, cond, not, ◌&&◌, and-eq-true_iff}
use mathlib.Core.List.{List, [], ◌∷◌, ◌++◌}
use Prim.Native.Nat.{ℕ, ◌+◌, ◌*◌, ◌%◌, ◌^◌, ◌≤◌}
use native.Mathlib.Omega.{arith}
use lib.ListN.{length, take, length-append}
use lib.Seq.{take_at, take_all}
use lib.Dec.{leb, eqb}
use borrow.Author.Tests.{le-leb, leb-true, eq-eqb, ne_eqb, eqb-true, eqb-false, not-true}
use Rattle.le.specs.Le.{le_at}
use Rattle.reply.specs.Reply.{Reply, given}
use Rattle.reply.proofs.ReplyLaws.{past, passed}
use Rattle.aspt.specs.Rules.{done, sum_of, fresh, id_fits, in_space, registers_fit, structure_checks, structures_checks}
use Rattle.aspt.specs.Bytes.{structure_in, length_fits, reserved_zero, structure_part, table_in}
use Rattle.aspt.specs.Calls.{header_checks, table_of, read_of, admit_of}
use Rattle.aspt.specs.Good.{GoodStructure, GoodTable, GoodPart, Holds, ReadAcceptance, RestIgnored}
use Rattle.aspt.specs.declared.Structure.{Structure}
use Rattle.aspt.specs.declared.Table.{Table}

-- one structure's rules
module _ (pages : ℕ) (st : Structure) where
  good : st.class ≤ 2 → id_fits st ≡ true → registers_fit pages st ≡ true → GoodStructure pages st
  unfolding id_fits registers_fit
  good type id registers =
      let r = (and-eq-true_iff (in_space pages st.first) _).0 registers in
      let others : (st.class ≡ 2 → ⊥) → (in_space pages st.second ≡ true) × (in_space pages st.third ≡ true) =
      λ n. (and-eq-true_iff (in_space pages st.second) _).0 (rw (ne_eqb st.class 2 n) at r.1) in
      record {
        type = type;
        id = λ e. eqb-true st.id 1 (rw (eq-eqb st.class 1 e) at id);
        first = leb-true (st.first + 4) (4096 * pages) r.0;
        second = λ n. leb-true (st.second + 4) (4096 * pages) (others n).0;
        third = λ n. leb-true (st.third + 4) (4096 * pages) (others n).1;
      }

  module _ (g : GoodStructure pages st) where
    id_fits_lem : id_fits st ≡ true
    unfolding id_fits
    id_fits_lem = by (eqb st.class 1) refl
      where
        by : (one : Bool) → eqb st.class 1 ≡ one → cond one (eqb st.id 1) true ≡ true
        by true e = eq-eqb st.id 1 (g.id (eqb-true st.class 1 e))
        by false e = refl

    registers_fit_lem : registers_fit pages st ≡ true
    unfolding registers_fit
    registers_fit_lem = rw (le-leb (st.first + 4) (4096 * pages) g.first) (by (eqb st.class 2) refl)
      where
        by : (two : Bool) → eqb st.class 2 ≡ two → cond two true (in_space pages st.second && in_space pages st.third) ≡ true
        by true e = refl
        by false e =
            let n = eqb-false st.class 2 e in
            rw (le-leb (st.second + 4) (4096 * pages) (g.second n), le-leb (st.third + 4) (4096 * pages) (g.third n))

-- one structure's checks
record Passed (pages : ℕ) (seen : List ℕ) (st : Structure) (sized clear : Bool) : Type 0 where
  long : sized ≡ true
  new : fresh seen st.class ≡ true
  zero : clear ≡ true
  good : GoodStructure pages st

module _ {A : Type 0} (pages : ℕ) (seen : List ℕ) (st : Structure) (sized clear : Bool) (rest : Reply A) where
  structure_only : {a : A} → structure_checks pages seen st sized clear rest ≡ given a → Passed pages seen st sized clear × (rest ≡ given a)
  unfolding structure_checks
  structure_only e =
      let g1 = past sized _ _ _ e in
      let g2 = past (leb st.class 2) _ _ _ g1.1 in
      let g3 = past (fresh seen st.class) _ _ _ g2.1 in
      let g4 = past clear _ _ _ g3.1 in
      let g5 = past (id_fits st) _ _ _ g4.1 in
      let g6 = past (registers_fit pages st) _ _ _ g5.1 in
      (record { long = g1.0; new = g3.0; zero = g4.0; good = good pages st (leb-true st.class 2 g2.0) g5.0 g6.0 }, g6.1)

  structure_all : Passed pages seen st sized clear → structure_checks pages seen st sized clear rest ≡ rest
  unfolding structure_checks
  structure_all p =
      let g = p.good in
      passed _ _ _ _ p.long ∙ passed _ _ _ _ (le-leb _ _ g.type) ∙ passed _ _ _ _ p.new ∙ passed _ _ _ _ p.zero
      ∙ passed _ _ _ _ (id_fits_lem pages st g) ∙ passed _ _ _ _ (registers_fit_lem pages st g)

-- a type that differs from those seen
new_one : (a k : ℕ) → (a ≡ k → ⊥) → fresh (a ∷ []) k ≡ true
unfolding fresh
new_one a k n = rw (ne_eqb a k n)

new_two : (a b k : ℕ) → (a ≡ k → ⊥) → (b ≡ k → ⊥) → fresh (a ∷ b ∷ []) k ≡ true
unfolding fresh
new_two a b k n m = rw (ne_eqb a k n, ne_eqb b k m)

new_head : (a k : ℕ) (others : List ℕ) → fresh (a ∷ others) k ≡ true → (a ≡ k → ⊥) × (fresh others k ≡ true)
unfolding fresh
new_head a k others e = let g = (and-eq-true_iff (not (eqb a k)) _).0 e in (eqb-false a k (not-true (eqb a k) g.0), g.1)

-- three structures' checks
record AllPassed (pages : ℕ) (a b c : Structure) (sized clear : ℕ → Bool) : Type 0 where
  first : Passed pages [] a (sized 0) (clear 0)
  second : Passed pages (a.class ∷ []) b (sized 1) (clear 1)
  third : Passed pages (a.class ∷ b.class ∷ []) c (sized 2) (clear 2)

module _ {A : Type 0} (pages : ℕ) (a b c : Structure) (sized clear : ℕ → Bool) (rest : Reply A) where
  structures_only : {x : A} → structures_checks pages a b c sized clear rest ≡ given x → AllPassed pages a b c sized clear × (rest ≡ given x)
  unfolding structures_checks
  structures_only e =
      let g1 = structure_only pages [] a _ _ _ e in
      let g2 = structure_only pages (a.class ∷ []) b _ _ _ g1.1 in
      let g3 = structure_only pages (a.class ∷ b.class ∷ []) c _ _ _ g2.1 in
      (record { first = g1.0; second = g2.0; third = g3.0 }, g3.1)

  structures_all : AllPassed pages a b c sized clear → structures_checks pages a b c sized clear rest ≡ rest
  unfolding structures_checks
  structures_all p = structure_all pages [] a _ _ _ p.first ∙ structure_all pages _ b _ _ _ p.second ∙ structure_all pages _ c _ _ _ p.third

-- a table is good exactly where its register space fits and its structures pass
module _ (t : Table) (sized clear : ℕ → Bool) where
  abbrev Pass : Type 0
  Pass = AllPassed t.pages t.first t.second t.third sized clear

  good_only : t.base % 4096 ≡ 0 → t.base + 4096 * t.pages ≤ 2 ^ 64 → Pass → GoodTable t
  good_only aligned ends p =
      let s = new_head t.first.class t.second.class [] p.second.new in
      let r = new_head t.first.class t.third.class (t.second.class ∷ []) p.third.new in
      let q = new_head t.second.class t.third.class [] r.1 in
      record {
        aligned = aligned;
        ends = ends;
        first = p.first.good;
        second = p.second.good;
        third = p.third.good;
        first_second = s.0;
        first_third = r.0;
        second_third = q.0;
      }

  -- and where length and reserved bytes are right
  abbrev Right : ℕ → Type 0
  Right i = (sized i ≡ true) × (clear i ≡ true)

  good_all : GoodTable t → Right 0 → Right 1 → Right 2 → Pass
  unfolding fresh
  good_all g p q r = record {
    first = record { long = p.0; new = refl; zero = p.1; good = g.first };
    second = record { long = q.0; new = new_one _ _ g.first_second; zero = q.1; good = g.second };
    third = record { long = r.0; new = new_two _ _ _ g.first_third g.second_third; zero = r.1; good = g.third };
  }

-- a structure's bytes: length and reserved bytes
module _ (p : List ℕ) where
  part_only : {pages : ℕ} {seen : List ℕ} → Passed pages seen (structure_in p) (length_fits p) (reserved_zero p) → GoodPart p
  unfolding reserved_zero
  part_only q = record {
    long = eqb-true (le_at 2 p 2) 20 q.long;
    type_0 = λ e. eqb-true (le_at 4 p 4) 0 ((and-eq-true_iff (eqb (le_at 4 p 4) 0) _).0 (rw e at q.zero)).0;
    type_1 = λ e. eqb-true (le_at 3 p 5) 0 (rw (eq-eqb (le_at 2 p 0) 1 e) at q.zero);
    type_2 = λ e. let g = (and-eq-true_iff (eqb (le_at 4 p 4) 0) _).0 (rw e at q.zero) in (eqb-true (le_at 4 p 4) 0 g.0, eqb-true (le_at 8 p 12) 0 g.1);
  }

  part_all : GoodPart p → le_at 2 p 0 ≤ 2 → (length_fits p ≡ true) × (reserved_zero p ≡ true)
  unfolding reserved_zero
  part_all g type = (eq-eqb (le_at 2 p 2) 20 g.long, by (eqb (le_at 2 p 0) 1) (eqb (le_at 2 p 0) 2) refl refl)
    where
      by : (one two : Bool) → eqb (le_at 2 p 0) 1 ≡ one → eqb (le_at 2 p 0) 2 ≡ two → cond one (eqb (le_at 3 p 5) 0) (eqb (le_at 4 p 4) 0 && cond two (eqb (le_at 8 p 12) 0) true) ≡ true
      by true two e f = eq-eqb (le_at 3 p 5) 0 (g.type_1 (eqb-true (le_at 2 p 0) 1 e))
      by false true e f = let z = g.type_2 (eqb-true (le_at 2 p 0) 2 f) in rw (eq-eqb (le_at 4 p 4) 0 z.0, eq-eqb (le_at 8 p 12) 0 z.1)
      by false false e f = let n = eqb-false (le_at 2 p 0) 1 e in let m = eqb-false (le_at 2 p 0) 2 f in rw (eq-eqb (le_at 4 p 4) 0 (g.type_0 (omega arith)))

-- the 112 bytes
abbrev sized : List ℕ → ℕ → Bool
sized s i = length_fits (structure_part i s)

abbrev clear : List ℕ → ℕ → Bool
clear s i = reserved_zero (structure_part i s)

module _ (s : List ℕ) (t : Table) where
  table_only : table_of s ≡ given t → Holds s t
  unfolding table_of header_checks
  table_only e =
      let g1 = past (eqb (le_at 4 s 0) 0x54505341) _ _ _ e in
      let g2 = past (eqb (le_at 4 s 4) 112) _ _ _ g1.1 in
      let g3 = past (eqb (le_at 1 s 8) 2) _ _ _ g2.1 in
      let g4 = past (eqb (sum_of s % 256) 0) _ _ _ g3.1 in
      let g5 = past (eqb (le_at 8 s 36 % 4096) 0) _ _ _ g4.1 in
      let g6 = past (leb (le_at 8 s 36 + 4096 * le_at 4 s 44) (2 ^ 64)) _ _ _ g5.1 in
      let g7 = past (eqb (le_at 4 s 48) 3) _ _ _ g6.1 in
      let p = structures_only (le_at 4 s 44) _ _ _ (sized s) (clear s) _ g7.1 in
      let is : t ≡ table_in s = cc in
      record {
        signature = eqb-true _ _ g1.0;
        long = eqb-true _ _ g2.0;
        revision = eqb-true _ _ g3.0;
        sum = eqb-true _ _ g4.0;
        count = eqb-true _ _ g7.0;
        first = part_only (structure_part 0 s) p.0.first;
        second = part_only (structure_part 1 s) p.0.second;
        third = part_only (structure_part 2 s) p.0.third;
        table = is;
        good = subst GoodTable (sym is) (good_only (table_in s) (sized s) (clear s) (eqb-true _ _ g5.0) (leb-true _ _ g6.0) p.0);
      }

  table_all : Holds s t → table_of s ≡ given t
  unfolding table_of header_checks
  table_all h =
      let g : GoodTable (table_in s) = subst GoodTable h.table h.good in
      passed _ _ _ _ (eq-eqb _ _ h.signature) ∙ passed _ _ _ _ (eq-eqb _ _ h.long) ∙ passed _ _ _ _ (eq-eqb _ _ h.revision) ∙ passed _ _ _ _ (eq-eqb _ _ h.sum)
      ∙ passed _ _ _ _ (eq-eqb _ _ g.aligned) ∙ passed _ _ _ _ (le-leb _ _ g.ends) ∙ passed _ _ _ _ (eq-eqb _ _ h.count)
      ∙ structures_all (le_at 4 s 44) _ _ _ (sized s) (clear s) _
      (good_all (table_in s) (sized s) (clear s) g (part_all (structure_part 0 s) h.first g.first.type) (part_all (structure_part 1 s) h.second g.second.type) (part_all (structure_part 2 s) h.third g.third.type))
      ∙ ap given (sym h.table)

pub read_acceptance : ReadAcceptance
unfolding read_of
read_acceptance = record {
  only = λ s t e. let g = past (leb 112 (length s)) _ _ _ e in (leb-true 112 (length s) g.0, table_only (take 112 s) t g.1);
  all = λ s t long h. passed _ _ _ _ (le-leb 112 (length s) long) ∙ table_all (take 112 s) t h;
}

pub rest_ignored : RestIgnored
unfolding read_of
rest_ignored = record {
  rest = λ s rest long.
      passed _ _ _ _ (le-leb 112 (length (s ++ rest)) (omega (arith, length-append s rest)))
      ∙ ap table_of (take_at s rest 112 long ∙ sym (take_all 112 s (omega arith)))
      ∙ sym (passed _ _ _ _ (le-leb 112 (length s) (omega arith)));
}

-- a table that is to be written
pub admit_only : (t : Table) → admit_of t ≡ done → GoodTable t
unfolding admit_of
admit_only t e =
    let g1 = past (eqb (t.base % 4096) 0) _ _ _ e in
    let g2 = past (leb (t.base + 4096 * t.pages) (2 ^ 64)) _ _ _ g1.1 in
    let p = structures_only t.pages t.first t.second t.third (λ _. true) (λ _. true) _ g2.1 in
    good_only t (λ _. true) (λ _. true) (eqb-true _ _ g1.0) (leb-true _ _ g2.0) p.0

pub admit_all : (t : Table) → GoodTable t → admit_of t ≡ done
unfolding admit_of
admit_all t g =
    passed _ _ _ _ (eq-eqb _ _ g.aligned) ∙ passed _ _ _ _ (le-leb _ _ g.ends)
    ∙ structures_all t.pages _ _ _ (λ _. true) (λ _. true) _ (good_all t (λ _. true) (λ _. true) g (refl, refl) (refl, refl) (refl, refl))

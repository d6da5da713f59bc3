-- One structure: written and read back, judged by the fields that its type has, and written again. Assumes nothing.
use mathlib.Core.Path.{◌≡◌, refl, sym, ap, ◌∙◌}
use mathlib.Core.Bool.{Bool, true, false, cond, ◌&&◌}
use mathlib.Core.List.{List, [], ◌∷◌, append-nil}
use Prim.Native.Nat.{ℕ, ◌^◌, ◌≤◌, ◌<◌}
use native.Mathlib.Omega.{arith}
use lib.ListN.{length}
use lib.Seq.{take_all}
use lib.Dec.{eqb}
use borrow.Author.Tests.{eq-eqb, eqb-true, eqb-false}
use Rattle.le.specs.Le.{le_at, Bytes, bytes_of}
use Rattle.le.specs.Back.{Held, Fits}
use Rattle.le.proofs.Laws.{le_split}
use Rattle.le.proofs.Numbers.{held, held_again}
use Rattle.reply.specs.Reply.{Reply}
use Rattle.reply.specs.Scan.{All}
use Rattle.aspt.specs.Rules.{id_fits, in_space, registers_fit, structure_checks, structures_checks}
use Rattle.aspt.specs.Bytes.{structure_in, length_fits, reserved_zero}
use Rattle.aspt_build.specs.Write.{own_of, structure_fields, structure_bytes}
use Rattle.aspt.specs.Good.{GoodPart}
use Rattle.aspt_build.specs.Back.{NarrowStructure}
use Rattle.aspt.specs.declared.Structure.{Structure}
use Rattle.aspt_build.proofs.Written.{structure_long}

either : (b : Bool) (x y n : ℕ) → x < n → y < n → cond b x y < n
either true x y n p q = p
either false x y n p q = q

-- a structure is found in these bytes, with its length and with zero in its reserved bytes
pub record FoundIn (p : List ℕ) (st : Structure) : Type 0 where
  pub structure : structure_in p ≡ st
  pub long : length_fits p ≡ true
  pub zero : reserved_zero p ≡ true

-- what a structure's bytes hold, where they hold the fields that its type has
module _ (st : Structure) (p : List ℕ) where
  clear : Held (structure_fields (own_of st)) p 0 → reserved_zero p ≡ true
  unfolding own_of reserved_zero
  clear h = by (eqb st.class 1) (eqb st.class 2) refl refl
    where
      by : (one two : Bool) → eqb st.class 1 ≡ one → eqb st.class 2 ≡ two → reserved_zero p ≡ true
      by true two e f = rw (h.0, e, h.1.1.1.0)
      by false two e f =
          let id : le_at 1 p 4 ≡ 0 = h.1.1.0 ∙ ap (λ (b : Bool). cond b st.id 0) e in
          let four : le_at 4 p 4 ≡ 0 = omega (arith, le_split 1 3 p 4, h.1.1.1.0) in
          rw (h.0, e, four) (last two f)
        where
          last : (two : Bool) → eqb st.class 2 ≡ two → cond (eqb st.class 2) (eqb (le_at 8 p 12) 0) true ≡ true
          last false f = rw f
          last true f =
              let second : le_at 4 p 12 ≡ 0 = h.1.1.1.1.1.0 ∙ ap (λ (b : Bool). cond b 0 st.second) f in
              let third : le_at 4 p 16 ≡ 0 = h.1.1.1.1.1.1.0 ∙ ap (λ (b : Bool). cond b 0 st.third) f in
              let eight : le_at 8 p 12 ≡ 0 = omega (arith, le_split 4 4 p 12) in
              rw (f, eight)

  found : Held (structure_fields (own_of st)) p 0 → FoundIn p (own_of st)
  unfolding own_of
  found h = record {
    structure = λ i. record { class = h.0 i; id = h.1.1.0 i; first = h.1.1.1.1.0 i; second = h.1.1.1.1.1.0 i; third = h.1.1.1.1.1.1.0 i };
    long = eq-eqb (le_at 2 p 2) 20 h.1.0;
    zero = clear h;
  }

-- a structure is read back from its bytes
pub found_back : (st : Structure) → NarrowStructure st → FoundIn (structure_bytes st) (own_of st)
unfolding structure_bytes own_of
found_back st narrow =
    let fields = structure_fields (own_of st) in
    let one = eqb st.class 1 in
    let two = eqb st.class 2 in
    let fit : All Fits fields = (
      narrow.class,
      (
        omega arith,
        (
          either one st.id 0 256 narrow.id (omega arith),
          (
            omega arith,
            (
              narrow.first,
              (either two 0 st.second (2 ^ 32) (omega arith) narrow.second, (either two 0 st.third (2 ^ 32) (omega arith) narrow.third, tt)),
            ),
          ),
        ),
      ),
    ) in
    found st (bytes_of fields) (held fields (bytes_of fields) [] [] 0 (sym (append-nil (bytes_of fields))) refl fit)

-- the fields that the type lacks have no part in the checks
module _ {A : Type 0} (pages : ℕ) (seen : List ℕ) (st : Structure) (rest : Reply A) where
  own_id : id_fits (own_of st) ≡ id_fits st
  unfolding id_fits own_of
  own_id = by (eqb st.class 1)
    where
      by : (b : Bool) → cond b (eqb (cond b st.id 0) 1) true ≡ cond b (eqb st.id 1) true
      by true = refl
      by false = refl

  own_registers : registers_fit pages (own_of st) ≡ registers_fit pages st
  unfolding registers_fit own_of
  own_registers = by (eqb st.class 2)
    where
      by : (b : Bool) → (in_space pages st.first && cond b true (in_space pages (cond b 0 st.second) && in_space pages (cond b 0 st.third)))
          ≡ (in_space pages st.first && cond b true (in_space pages st.second && in_space pages st.third))
      by true = refl
      by false = refl

  pub own_checks : structure_checks pages seen (own_of st) true true rest ≡ structure_checks pages seen st true true rest
  unfolding structure_checks own_of
  own_checks = rw (own_id, own_registers)

pub three_own : {A : Type 0} (pages : ℕ) (a b c : Structure) (rest : Reply A) →
    structures_checks pages (own_of a) (own_of b) (own_of c) (λ _. true) (λ _. true) rest ≡ structures_checks pages a b c (λ _. true) (λ _. true) rest
unfolding structures_checks own_of
three_own pages a b c rest =
    own_checks pages [] a _
    ∙ ap (structure_checks pages [] a true true) (own_checks pages (a.class ∷ []) b _ ∙ ap (structure_checks pages (a.class ∷ []) b true true) (own_checks pages (a.class ∷ b.class ∷ []) c rest))

-- a good structure's bytes
module _ (p : List ℕ) (good : GoodPart p) (type : le_at 2 p 0 ≤ 2) where
  -- in types 0 and 2 the bytes from 4 to 7 are zero
  four : (le_at 2 p 0 ≡ 1 → ⊥) → le_at 4 p 4 ≡ 0
  four n = by (eqb (le_at 2 p 0) 2) refl
    where
      by : (two : Bool) → eqb (le_at 2 p 0) 2 ≡ two → le_at 4 p 4 ≡ 0
      by true e = (good.type_2 (eqb-true _ _ e)).0
      by false e = good.type_0 (let m = eqb-false (le_at 2 p 0) 2 e in omega arith)

  -- in every type those from 5 to 7 are
  five : le_at 3 p 5 ≡ 0
  five = by (eqb (le_at 2 p 0) 1) refl
    where
      by : (one : Bool) → eqb (le_at 2 p 0) 1 ≡ one → le_at 3 p 5 ≡ 0
      by true e = good.type_1 (eqb-true _ _ e)
      by false e = omega (arith, le_split 1 3 p 4, four (eqb-false (le_at 2 p 0) 1 e))

  -- what it holds is what its type has
  pub own_again : own_of (structure_in p) ≡ structure_in p
  unfolding own_of
  own_again =
      λ i. record {
        class = le_at 2 p 0;
        id = id (eqb (le_at 2 p 0) 1) refl i;
        first = le_at 4 p 8;
        second = second (eqb (le_at 2 p 0) 2) refl i;
        third = third (eqb (le_at 2 p 0) 2) refl i;
      }
    where
      id : (one : Bool) → eqb (le_at 2 p 0) 1 ≡ one → cond one (le_at 1 p 4) 0 ≡ le_at 1 p 4
      id true e = refl
      id false e = omega (arith, le_split 1 3 p 4, four (eqb-false (le_at 2 p 0) 1 e))

      second : (two : Bool) → eqb (le_at 2 p 0) 2 ≡ two → cond two 0 (le_at 4 p 12) ≡ le_at 4 p 12
      second true e = omega (arith, le_split 4 4 p 12, (good.type_2 (eqb-true (le_at 2 p 0) 2 e)).1)
      second false e = refl

      third : (two : Bool) → eqb (le_at 2 p 0) 2 ≡ two → cond two 0 (le_at 4 p 16) ≡ le_at 4 p 16
      third true e = omega (arith, le_split 4 4 p 12, (good.type_2 (eqb-true (le_at 2 p 0) 2 e)).1)
      third false e = refl

  -- it is written as it was
  pub structure_again : Bytes p → length p ≡ 20 → structure_bytes (structure_in p) ≡ p
  unfolding structure_bytes
  structure_again bytes long =
      let n : length (bytes_of (structure_fields (structure_in p))) ≡ 20 = ap (λ (st : Structure). length (bytes_of (structure_fields st))) (sym own_again) ∙ structure_long (structure_in p) in
      ap (λ (st : Structure). bytes_of (structure_fields st)) own_again
      ∙ held_again (structure_fields (structure_in p)) p 0 bytes (omega arith) (refl, (good.long, (refl, (five, (refl, (refl, (refl, tt)))))))
      ∙ take_all (length (bytes_of (structure_fields (structure_in p)))) p (omega arith)

-- A table is read back from its bytes, and written again as it was read. Assumes nothing.
use mathlib.Core.Path.{◌≡◌, refl, sym, ap, subst, ◌∙◌}
use mathlib.Core.Bool.{Bool, true}
use mathlib.Core.List.{List, [], ◌∷◌, ◌++◌}
use Prim.Native.Nat.{ℕ, ◌+◌, ◌*◌, ◌%◌, ◌≤◌, ◌<◌}
use native.Mathlib.Omega.{arith}
use lib.ListN.{length, take, drop, length-append, length-drop, take-append-drop}
use lib.Seq.{take_at, take_all, length-take-le}
use borrow.Author.Tests.{eq-eqb, le-leb}
use Rattle.le.specs.Le.{le_at, le_bytes, Bytes, bytes_of}
use Rattle.le.specs.Back.{Held}
use Rattle.le.proofs.Laws.{byte_le}
use Rattle.le.proofs.Part.{part_length, part_rest, part_bytes}
use Rattle.le.proofs.Numbers.{held, held_again}
use Rattle.reply.specs.Reply.{Reply, given, alone, check, then}
use Rattle.reply.proofs.ReplyLaws.{passed, then_given}
use Rattle.aspt.specs.Rules.{done, sum_of, space_checks, structure_checks, structures_checks}
use Rattle.aspt.specs.Bytes.{structure_in, length_fits, reserved_zero, structure_part, table_with, table_in}
use Rattle.aspt.specs.Calls.{header_checks, parts_checks, table_of, read_of, admit_of}
use Rattle.aspt_build.specs.Write.{own_of, structure_bytes, identity_fields, maker_fields, space_fields, bytes_with, checksum_of, table_bytes, write_of, written_by}
use Rattle.aspt.specs.Good.{GoodPart, Holds}
use Rattle.aspt_build.specs.Back.{Narrow, own_table, WrittenReadBack, SameAgain}
use Rattle.aspt.specs.declared.Structure.{Structure}
use Rattle.aspt.specs.declared.Table.{Table}
use Rattle.aspt.proofs.Checks.{admit_then}
use Rattle.aspt_build.proofs.Written.{table_long}
use Rattle.aspt_build.proofs.SumLaws.{sum_append}
use Rattle.aspt_build.proofs.Parts.{FoundIn, found_back, three_own, own_again, structure_again}
use Rattle.aspt.proofs.Accept.{read_acceptance}
use Rattle.aspt_build.proofs.Accept.{write_acceptance}

-- the sum of bytes that follow one another
sum_between : (xs ys : List ℕ) (x : ℕ) → sum_of (xs ++ (x ∷ ys)) ≡ x + (sum_of xs + sum_of ys)
unfolding sum_of
sum_between xs ys x = omega (arith, sum_append xs (x ∷ ys))

module _ (t : Table) where
  -- where the checksum stands
  parted : (sum : ℕ) → bytes_with sum t ≡ take 9 (bytes_with 0 t) ++ (sum % 256 ∷ drop 10 (bytes_with 0 t))
  unfolding bytes_with structure_bytes bytes_of le_bytes
  parted sum = refl

  sum_with : (sum : ℕ) → sum_of (bytes_with sum t) ≡ sum % 256 + sum_of (bytes_with 0 t)
  sum_with sum =
      let a = take 9 (bytes_with 0 t) in
      let b = drop 10 (bytes_with 0 t) in
      omega (arith, ap sum_of (parted sum) ∙ sum_between a b (sum % 256), ap sum_of (parted 0) ∙ sum_between a b 0)

  -- the bytes sum to 0
  sum_zero : sum_of (table_bytes t) % 256 ≡ 0
  unfolding table_bytes
  sum_zero = omega (arith, sum_with (checksum_of t))

  -- a checksum that brings the sum to 0 is the one that is written
  sum_only : (sum : ℕ) → sum < 256 → sum_of (bytes_with sum t) % 256 ≡ 0 → sum ≡ checksum_of t
  sum_only sum small zero = omega (arith, sum_with sum)

-- three structures with their length, and with zero in their reserved bytes
found_all : {A : Type 0} (pages : ℕ) (a b c : Structure) (sized clear : ℕ → Bool) (rest : Reply A) →
    sized 0 ≡ true → clear 0 ≡ true → sized 1 ≡ true → clear 1 ≡ true → sized 2 ≡ true → clear 2 ≡ true →
    structures_checks pages a b c sized clear rest ≡ structures_checks pages a b c (λ _. true) (λ _. true) rest
unfolding structures_checks
found_all pages a b c sized clear rest l0 z0 l1 z1 l2 z2 =
    λ i. structure_checks pages [] a (l0 i) (z0 i) (structure_checks pages (a.class ∷ []) b (l1 i) (z1 i) (structure_checks pages (a.class ∷ b.class ∷ []) c (l2 i) (z2 i) rest))

-- the bytes of a table, where its fields fit them
module _ (t : Table) (narrow : Narrow t) where
  head : Held (identity_fields (checksum_of t) ++ (maker_fields t ++ space_fields t)) (table_bytes t) 0
  unfolding table_bytes bytes_with
  head =
      held (identity_fields (checksum_of t) ++ (maker_fields t ++ space_fields t)) (table_bytes t) [] (structure_bytes t.first ++ (structure_bytes t.second ++ structure_bytes t.third)) 0 refl refl
      (omega arith, (omega arith, (omega arith, (omega arith, (narrow.oem_low, (narrow.oem_high, (narrow.oem_table, (narrow.oem_revision, (narrow.creator, (narrow.creator_revision, (narrow.base, (narrow.pages, (omega arith, tt)))))))))))))

  parts : (structure_part 0 (table_bytes t) ≡ structure_bytes t.first) × (structure_part 1 (table_bytes t) ≡ structure_bytes t.second) × (structure_part 2 (table_bytes t) ≡ structure_bytes t.third)
  unfolding table_bytes bytes_with structure_bytes bytes_of le_bytes
  parts = (refl, refl, refl)

  -- a structure is found as it was given
  first : FoundIn (structure_part 0 (table_bytes t)) (own_of t.first)
  first = subst (λ (p : List ℕ). FoundIn p (own_of t.first)) (sym parts.0) (found_back t.first narrow.first)

  second : FoundIn (structure_part 1 (table_bytes t)) (own_of t.second)
  second = subst (λ (p : List ℕ). FoundIn p (own_of t.second)) (sym parts.1) (found_back t.second narrow.second)

  third : FoundIn (structure_part 2 (table_bytes t)) (own_of t.third)
  third = subst (λ (p : List ℕ). FoundIn p (own_of t.third)) (sym parts.2) (found_back t.third narrow.third)

  -- and so is the table
  table : table_in (table_bytes t) ≡ own_table t
  table =
      let m = head.1.1.1.1 in
      let r = m.1.1.1.1.1.1 in
      λ i. record {
        oem_low = m.0 i;
        oem_high = m.1.0 i;
        oem_table = m.1.1.0 i;
        oem_revision = m.1.1.1.0 i;
        creator = m.1.1.1.1.0 i;
        creator_revision = m.1.1.1.1.1.0 i;
        base = r.0 i;
        pages = r.1.0 i;
        first = first.structure i;
        second = second.structure i;
        third = third.structure i;
      }

  -- the checks before the structures are those of the register space
  space : {A : Type 0} (rest : Reply A) → header_checks (table_bytes t) rest ≡ space_checks t.base t.pages rest
  unfolding header_checks
  space rest =
      let s = table_bytes t in
      let r = head.1.1.1.1.1.1.1.1.1.1 in
      passed _ _ _ _ (eq-eqb (le_at 4 s 0) 0x54505341 head.0) ∙ passed _ _ _ _ (eq-eqb (le_at 4 s 4) 112 head.1.0) ∙ passed _ _ _ _ (eq-eqb (le_at 1 s 8) 2 head.1.1.0)
      ∙ passed _ _ _ _ (eq-eqb (sum_of s % 256) 0 (sum_zero t))
      ∙ (λ i. space_checks (r.0 i) (r.1.0 i) (check (eq-eqb (le_at 4 s 48) 3 r.1.1.0 i) 3 alone rest))

  judged : (rest : List ℕ) → read_of (table_bytes t ++ rest) ≡ then (admit_of t) (λ _. given (own_table t))
  unfolding read_of table_of table_bytes
  judged rest =
      let long = table_long (checksum_of t) t in
      let base = space_checks {A = Table} t.base t.pages in
      let sized : ℕ → Bool = λ i. length_fits (structure_part i (table_bytes t)) in
      let clear : ℕ → Bool = λ i. reserved_zero (structure_part i (table_bytes t)) in
      passed _ _ _ _ (le-leb 112 (length (table_bytes t ++ rest)) (omega (arith, length-append (table_bytes t) rest)))
      ∙ ap table_of (take_at (table_bytes t) rest 112 long)
      ∙ space (parts_checks (table_bytes t) (given (table_in (table_bytes t))))
      ∙ (λ i. base (structures_checks (head.1.1.1.1.1.1.1.1.1.1.1.0 i) (first.structure i) (second.structure i) (third.structure i) sized clear (given (table i))))
      ∙ ap base (found_all t.pages _ _ _ sized clear (given (own_table t)) first.long first.zero second.long second.zero third.long third.zero)
      ∙ ap base (three_own t.pages t.first t.second t.third (given (own_table t)))
      ∙ sym (admit_then (given (own_table t)) t)

pub written_read_back : WrittenReadBack
unfolding write_of
written_read_back = record {
  judged = λ t rest narrow. judged t narrow rest;
  back = λ t s narrow e.
      let admitted = (then_given (admit_of t) _ e).1 in
      ap (λ (r : Reply Unit). read_of (written_by t s r)) e ∙ judged t narrow (drop 112 s) ∙ ap (λ (r : Reply Unit). then r (λ _. given (own_table t))) admitted;
}

-- 112 bytes are the bytes before the structures and those of the structures
split : (s : List ℕ) → length s ≡ 112 → take 52 s ++ (structure_part 0 s ++ (structure_part 1 s ++ structure_part 2 s)) ≡ s
split s long =
    ap (λ (x : List ℕ). take 52 s ++ (take 20 (drop 52 s) ++ (take 20 (drop 72 s) ++ x))) (take_all 20 (drop 92 s) (omega (arith, length-drop 92 s)))
    ∙ ap (λ (x : List ℕ). take 52 s ++ (take 20 (drop 52 s) ++ x)) (part_rest s 72 20)
    ∙ ap (λ (x : List ℕ). take 52 s ++ x) (part_rest s 52 20)
    ∙ take-append-drop 52 s

-- bytes that hold a table
module _ (s : List ℕ) (bytes : Bytes s) (long : length s ≡ 112) (h : Holds s (table_in s)) where
  head_again : bytes_of (identity_fields (le_at 1 s 9) ++ (maker_fields (table_in s) ++ space_fields (table_in s))) ≡ take 52 s
  unfolding bytes_of le_bytes
  head_again =
      held_again (identity_fields (le_at 1 s 9) ++ (maker_fields (table_in s) ++ space_fields (table_in s))) s 0 bytes (omega arith)
      (h.signature, (h.long, (h.revision, (refl, (refl, (refl, (refl, (refl, (refl, (refl, (refl, (refl, (h.count, tt)))))))))))))

  again : (i : ℕ) → 52 + 20 * i + 20 ≤ length s → GoodPart (structure_part i s) → le_at 2 (structure_part i s) 0 ≤ 2 → structure_bytes (structure_in (structure_part i s)) ≡ structure_part i s
  again i inside good type =
      structure_again (structure_part i s) good type (part_bytes s (52 + 20 * i) 20 bytes) (part_length s (52 + 20 * i) 20 inside)

  with_again : bytes_with (le_at 1 s 9) (table_in s) ≡ s
  unfolding bytes_with
  with_again =
      let first = again 0 (omega arith) h.first h.good.first.type in
      let second = again 1 (omega arith) h.second h.good.second.type in
      let third = again 2 (omega arith) h.third h.good.third.type in
      (λ j. head_again j ++ (first j ++ (second j ++ third j))) ∙ split s long

  -- the bytes of the table are these
  table_again : table_bytes (table_in s) ≡ s
  unfolding table_bytes
  table_again =
      let sum = sum_only (table_in s) (le_at 1 s 9) (rw (← byte_le s 9) (bytes 9)) (ap (λ (x : List ℕ). sum_of x % 256) with_again ∙ h.sum) in
      ap (λ (c : ℕ). bytes_with c (table_in s)) (sym sum) ∙ with_again

-- what is read, and that the first 112 bytes hold it
module _ (s : List ℕ) (t : Table) (e : read_of s ≡ given t) where
  holds : Holds (take 112 s) t
  holds = (read_acceptance.only s t e).1

  holds_in : Holds (take 112 s) (table_in (take 112 s))
  holds_in = subst (Holds (take 112 s)) holds.table holds

  own : own_table t ≡ t
  own =
      let g = holds_in.good in
      let first = own_again (structure_part 0 (take 112 s)) holds_in.first g.first.type in
      let second = own_again (structure_part 1 (take 112 s)) holds_in.second g.second.type in
      let third = own_again (structure_part 2 (take 112 s)) holds_in.third g.third.type in
      ap own_table holds.table ∙ (λ i. table_with (take 112 s) (first i) (second i) (third i)) ∙ sym holds.table

  accepted : (b : List ℕ) → 112 ≤ length b → write_of t b ≡ done
  accepted b room = write_acceptance.all t b holds.good room

  bytes_again : (b : List ℕ) → Bytes s → table_bytes t ++ drop 112 b ≡ take 112 s ++ drop 112 b
  bytes_again b bytes =
      ap (λ (x : List ℕ). x ++ drop 112 b)
      (ap table_bytes holds.table ∙ table_again (take 112 s) (part_bytes s 0 112 bytes) (length-take-le 112 s (read_acceptance.only s t e).0) holds_in)

pub same_again : SameAgain
same_again = record {
  own = own;
  accepted = λ s b t e. accepted s t e b;
  bytes = λ s b t bytes e. bytes_again s t e b bytes;
  over = λ s t bytes e. ap (written_by t s) (accepted s t e s (read_acceptance.only s t e).0) ∙ bytes_again s t e s bytes ∙ take-append-drop 112 s;
}

-- Sums of bytes, taken of numbers two bytes at a time. Assumes nothing.
use mathlib.Core.Path.{◌≡◌, refl, sym, ap, ◌∙◌}
use mathlib.Core.List.{List, [], ◌∷◌, ◌++◌}
use Prim.Native.Nat.{ℕ, zero, suc, ◌+◌, ◌*◌, ◌/◌, ◌%◌, ◌≤◌, ◌<◌}
use native.Mathlib.Omega.{arith}
use lib.ListN.{length, length-append}
use Rattle.le.specs.Le.{le_bytes, Number, bytes_of}
use Rattle.le.proofs.Put.{length_le_bytes}
use Rattle.aspt.specs.Rules.{sum_of}
use Rattle.aspt_build.specs.Write.{own_of, structure_fields, structure_bytes, identity_fields, maker_fields, space_fields, bytes_with}
use Rattle.aspt.specs.declared.Structure.{Structure}
use Rattle.aspt.specs.declared.Table.{Table}
use Rattle.aspt_build.proofs.Written.{joined_bytes, front_bytes}

pub sum_append : (us vs : List ℕ) → sum_of (us ++ vs) ≡ sum_of us + sum_of vs
unfolding sum_of
sum_append [] vs = omega arith
sum_append (u ∷ us) vs = omega (arith, sum_append us vs)

-- no byte is more than 255
number_most : (n v : ℕ) → sum_of (le_bytes n v) ≤ 255 * n
unfolding sum_of le_bytes
number_most zero v = omega arith
number_most (suc n) v = omega (arith, number_most n (v / 256))

two_most : (v w : ℕ) → sum_of (le_bytes 4 v) + sum_of (le_bytes 4 w) ≤ 2040
two_most v w = omega (arith, number_most 4 v, number_most 4 w)

-- numbers that follow one another, one by one
abbrev sums : List Number → ℕ
sums [] = 0
sums (n ∷ others) = sum_of (le_bytes n.bytes n.value) + sums others

sums_are : (ns : List Number) → sum_of (bytes_of ns) ≡ sums ns
unfolding sum_of bytes_of
sums_are [] = refl
sums_are (n ∷ others) = sum_append (le_bytes n.bytes n.value) (bytes_of others) ∙ ap (λ (k : ℕ). sum_of (le_bytes n.bytes n.value) + k) (sums_are others)

sum_most : (ns : List Number) → sum_of (bytes_of ns) ≤ 255 * length (bytes_of ns)
unfolding sum_of bytes_of
sum_most [] = omega arith
sum_most (n ∷ others) =
    let us = le_bytes n.bytes n.value in
    omega
    (arith, sum_append us (bytes_of others), length-append us (bytes_of others), length_le_bytes n.bytes n.value, number_most n.bytes n.value, sum_most others)

-- every other byte of a number, 16 bits apart
abbrev alternate_of : ℕ → ℕ
alternate_of x = x % 0x100 + 0x1_0000 * (x / 0x1_0000 % 0x100) + 0x1_0000_0000 * (x / 0x1_0000_0000 % 0x100) + 0x1_0000_0000_0000 * (x / 0x1_0000_0000_0000 % 0x100)

two_on : (x : ℕ) → x / 0x1_0000 ≡ x / 256 / 256
two_on x = omega arith

four_on : (x : ℕ) → x / 0x1_0000_0000 ≡ x / 256 / 256 / 256 / 256
four_on x =
    let e : x / 0x1_0000_0000 ≡ x / 0x1_0000 / 0x1_0000 = omega arith in
    e ∙ ap (λ (k : ℕ). k / 0x1_0000) (two_on x) ∙ two_on (x / 256 / 256)

six_on : (x : ℕ) → x / 0x1_0000_0000_0000 ≡ x / 256 / 256 / 256 / 256 / 256 / 256
six_on x =
    let e : x / 0x1_0000_0000_0000 ≡ x / 0x1_0000_0000 / 0x1_0000 = omega arith in
    e ∙ ap (λ (k : ℕ). k / 0x1_0000) (four_on x) ∙ two_on (x / 256 / 256 / 256 / 256)

alternate_is : (x : ℕ) →
    alternate_of x ≡ x % 256 + 0x1_0000 * (x / 256 / 256 % 256) + 0x1_0000_0000 * (x / 256 / 256 / 256 / 256 % 256) + 0x1_0000_0000_0000 * (x / 256 / 256 / 256 / 256 / 256 / 256 % 256)
alternate_is x = λ i. x % 256 + 0x1_0000 * (two_on x i % 256) + 0x1_0000_0000 * (four_on x i % 256) + 0x1_0000_0000_0000 * (six_on x i % 256)

-- modulo 65,535 four sums of 16 bits are one
whole_off : (s k : ℕ) → s < 65535 → (s + 65535 * k) % 65535 ≡ s
whole_off s k h = omega arith

four_sums : (r p0 p1 p2 p3 : ℕ) → p0 ≤ 510 → p1 ≤ 510 → p2 ≤ 510 → p3 ≤ 510 → r ≡ p0 + 0x1_0000 * p1 + 0x1_0000_0000 * p2 + 0x1_0000_0000_0000 * p3 →
    (r % 65535 ≡ p0 + p1 + p2 + p3) × (r ≤ 0x1FE_01FE_01FE_01FE)
four_sums r p0 p1 p2 p3 h0 h1 h2 h3 e =
    let off : r ≡ (p0 + p1 + p2 + p3) + 65535 * (p1 + 65537 * p2 + 4295032833 * p3) = omega arith in
    (ap (λ (k : ℕ). k % 65535) off ∙ whole_off (p0 + p1 + p2 + p3) (p1 + 65537 * p2 + 4295032833 * p3) (omega arith), omega arith)

eight_sums : (r d0 d1 d2 d3 d4 d5 d6 d7 : ℕ) → d0 < 256 → d1 < 256 → d2 < 256 → d3 < 256 → d4 < 256 → d5 < 256 → d6 < 256 → d7 < 256 →
    r ≡ (d0 + 0x1_0000 * d2 + 0x1_0000_0000 * d4 + 0x1_0000_0000_0000 * d6) + (d1 + 0x1_0000 * d3 + 0x1_0000_0000 * d5 + 0x1_0000_0000_0000 * d7) →
    (r % 65535 ≡ d0 + (d1 + (d2 + (d3 + (d4 + (d5 + (d6 + (d7 + 0)))))))) × (r ≤ 0x1FE_01FE_01FE_01FE)
eight_sums r d0 d1 d2 d3 d4 d5 d6 d7 h0 h1 h2 h3 h4 h5 h6 h7 e =
    let f = four_sums r (d0 + d1) (d2 + d3) (d4 + d5) (d6 + d7) (omega (arith, h0, h1)) (omega (arith, h2, h3)) (omega (arith, h4, h5)) (omega (arith, h6, h7)) (omega (arith, e)) in
    let g : d0 + d1 + (d2 + d3) + (d4 + d5) + (d6 + d7) ≡ d0 + (d1 + (d2 + (d3 + (d4 + (d5 + (d6 + (d7 + 0))))))) = omega arith in
    (f.0 ∙ g, f.1)

-- and so for the eight bytes of a number
pub pairs_are : (x r : ℕ) → r ≡ alternate_of x + alternate_of (x / 256) → (r % 65535 ≡ sum_of (le_bytes 8 x)) × (r ≤ 0x1FE_01FE_01FE_01FE)
unfolding sum_of le_bytes
pairs_are x r e =
    let small : (k : ℕ) → k % 256 < 256 = λ k. omega arith in
    eight_sums r (x % 256) (x / 256 % 256) (x / 256 / 256 % 256) (x / 256 / 256 / 256 % 256) (x / 256 / 256 / 256 / 256 % 256) (x / 256 / 256 / 256 / 256 / 256 % 256)
    (x / 256 / 256 / 256 / 256 / 256 / 256 % 256) (x / 256 / 256 / 256 / 256 / 256 / 256 / 256 % 256)
    (small _) (small _) (small _) (small _) (small _) (small _) (small _) (small _)
    (e ∙ (λ i. alternate_is x i + alternate_is (x / 256) i))

-- two numbers of four bytes as one of eight
pub joined_sum : (low high : ℕ) → low < 0x1_0000_0000 → sum_of (le_bytes 8 (low + 0x1_0000_0000 * high)) ≡ sum_of (le_bytes 4 low) + sum_of (le_bytes 4 high)
joined_sum low high h = ap sum_of (joined_bytes low high h) ∙ sum_append (le_bytes 4 low) (le_bytes 4 high)

-- a number of two bytes has zeros in the next two
two_enough : (v : ℕ) → v < 0x1_0000 → sum_of (le_bytes 4 v) ≡ sum_of (le_bytes 2 v)
unfolding sum_of le_bytes
two_enough v h = omega arith

-- what is added up modulo 65,535
plus : (a b p q : ℕ) → a % 65535 ≡ p → b % 65535 ≡ q → p + q < 65535 → (a + b) % 65535 ≡ p + q
plus a b p q e f h = omega arith

-- the bytes that are the same in each table
same_bytes : (sum_of (le_bytes 4 0x54505341) ≡ 312) × (sum_of (le_bytes 4 112) ≡ 112) × (sum_of (le_bytes 1 2) ≡ 2) × (sum_of (le_bytes 1 0) ≡ 0) × (sum_of (le_bytes 4 0) ≡ 0)
unfolding sum_of le_bytes
same_bytes = (refl, refl, refl, refl, refl)

three_sums : (a b c p q r : ℕ) → a % 65535 ≡ p → b % 65535 ≡ q → c % 65535 ≡ r → p ≤ 2040 → q ≤ 2040 → r ≤ 2040 → (a + b + c) % 65535 ≡ p + q + r
three_sums a b c p q r ea eb ec hp hq hr = plus (a + b) c (p + q) r (plus a b p q ea eb (omega arith)) ec (omega arith)

three_more : (x a b c m p q r : ℕ) → x % 65535 ≡ m → a % 65535 ≡ p → b % 65535 ≡ q → c % 65535 ≡ r → m ≤ 6120 → p ≤ 2040 → q ≤ 2040 → r ≤ 2040 →
    (x + a + b + c + 426) % 65535 ≡ m + p + q + r + 426
three_more x a b c m p q r ex ea eb ec hm hp hq hr =
    plus (x + a + b + c) 426 (m + p + q + r) 426 (plus (x + a + b) c (m + p + q) r (plus (x + a) b (m + p) q (plus x a m p ex ea (omega arith)) eb (omega arith)) ec (omega arith))
    refl (omega arith)

-- the bytes before the structures
module _ (t : Table) (small : t.oem_high < 0x1_0000) where
  header_split : sum_of (bytes_of (identity_fields 0 ++ (maker_fields t ++ space_fields t))) ≡
      (sum_of (le_bytes 4 t.oem_low) + sum_of (le_bytes 4 t.oem_high)) + sum_of (le_bytes 8 t.oem_table)
      + (sum_of (le_bytes 4 t.oem_revision) + sum_of (le_bytes 4 t.creator)) + (sum_of (le_bytes 4 t.creator_revision) + sum_of (le_bytes 4 0))
      + sum_of (le_bytes 8 t.base) + (sum_of (le_bytes 4 t.pages) + sum_of (le_bytes 4 3)) + 426
  header_split = sums_are (identity_fields 0 ++ (maker_fields t ++ space_fields t)) ∙ omega (arith, same_bytes, two_enough t.oem_high small)

  pub header_is : (a b c d e f : ℕ) →
      a % 65535 ≡ sum_of (le_bytes 4 t.oem_low) + sum_of (le_bytes 4 t.oem_high) → b % 65535 ≡ sum_of (le_bytes 8 t.oem_table) →
      c % 65535 ≡ sum_of (le_bytes 4 t.oem_revision) + sum_of (le_bytes 4 t.creator) → d % 65535 ≡ sum_of (le_bytes 4 t.creator_revision) + sum_of (le_bytes 4 0) →
      e % 65535 ≡ sum_of (le_bytes 8 t.base) → f % 65535 ≡ sum_of (le_bytes 4 t.pages) + sum_of (le_bytes 4 3) →
      (a + b + c + d + e + f + 426) % 65535 ≡ sum_of (bytes_of (identity_fields 0 ++ (maker_fields t ++ space_fields t)))
  header_is a b c d e f ea eb ec ed ee ef =
      let low = two_most t.oem_low t.oem_high in
      let table = number_most 8 t.oem_table in
      let maker = two_most t.oem_revision t.creator in
      three_more (a + b + c) d e f _ _ _ _ (three_sums a b c _ _ _ ea eb ec low table maker) ed ee ef (omega (arith, low, table, maker))
      (two_most t.creator_revision 0) (number_most 8 t.base) (two_most t.pages 3)
      ∙ sym header_split

-- a structure's bytes
module _ (st : Structure) (small : st.class < 0x1_0000) (one : st.id < 0x100) where
  front_sum : sum_of (le_bytes 8 (st.class + 0x14_0000 + 0x1_0000_0000 * st.id)) ≡ sum_of (le_bytes 2 st.class) + sum_of (le_bytes 2 20) + (sum_of (le_bytes 1 st.id) + sum_of (le_bytes 3 0))
  front_sum =
      let u = le_bytes 2 st.class in
      let v = le_bytes 1 st.id in
      ap sum_of (front_bytes st.class st.id small one)
      ∙ sum_append (u ++ le_bytes 2 20) (v ++ le_bytes 3 0)
      ∙ (λ i. sum_append u (le_bytes 2 20) i + sum_append v (le_bytes 3 0) i)

  structure_split : sum_of (bytes_of (structure_fields st)) ≡
      sum_of (le_bytes 8 (st.class + 0x14_0000 + 0x1_0000_0000 * st.id)) + (sum_of (le_bytes 4 st.first) + sum_of (le_bytes 4 st.second)) + (sum_of (le_bytes 4 st.third) + sum_of (le_bytes 4 0))
  structure_split = sums_are (structure_fields st) ∙ omega (arith, same_bytes, front_sum)

  pub structure_is : (a b c : ℕ) →
      a % 65535 ≡ sum_of (le_bytes 8 (st.class + 0x14_0000 + 0x1_0000_0000 * st.id)) → b % 65535 ≡ sum_of (le_bytes 4 st.first) + sum_of (le_bytes 4 st.second) →
      c % 65535 ≡ sum_of (le_bytes 4 st.third) + sum_of (le_bytes 4 0) → (a + b + c) % 65535 ≡ sum_of (bytes_of (structure_fields st))
  structure_is a b c ea eb ec =
      three_sums a b c _ _ _ ea eb ec (number_most 8 (st.class + 0x14_0000 + 0x1_0000_0000 * st.id)) (two_most st.first st.second) (two_most st.third 0) ∙ sym structure_split

structure_most : (st : Structure) → sum_of (structure_bytes st) ≤ 5100
unfolding structure_bytes bytes_of le_bytes
structure_most st = sum_most (structure_fields (own_of st))

header_most : (t : Table) → sum_of (bytes_of (identity_fields 0 ++ (maker_fields t ++ space_fields t))) ≤ 13260
unfolding bytes_of le_bytes
header_most t = sum_most (identity_fields 0 ++ (maker_fields t ++ space_fields t))

four_parts : (a b c d p q r s : ℕ) → a % 65535 ≡ p → b % 65535 ≡ q → c % 65535 ≡ r → d % 65535 ≡ s → p ≤ 13260 → q ≤ 5100 → r ≤ 5100 → s ≤ 5100 →
    (a + b + c + d) % 65535 ≡ p + (q + (r + s))
four_parts a b c d p q r s ea eb ec ed hp hq hr hs =
    plus (a + b + c) d (p + q + r) s (plus (a + b) c (p + q) r (plus a b p q ea eb (omega arith)) ec (omega arith)) ed (omega arith) ∙ omega arith

-- all 112 bytes
pub table_is : (t : Table) (a b c d : ℕ) → a % 65535 ≡ sum_of (bytes_of (identity_fields 0 ++ (maker_fields t ++ space_fields t))) →
    b % 65535 ≡ sum_of (structure_bytes t.first) → c % 65535 ≡ sum_of (structure_bytes t.second) → d % 65535 ≡ sum_of (structure_bytes t.third) →
    (a + b + c + d) % 65535 ≡ sum_of (bytes_with 0 t)
unfolding bytes_with
table_is t a b c d ea eb ec ed =
    let u = bytes_of (identity_fields 0 ++ (maker_fields t ++ space_fields t)) in
    let x = structure_bytes t.first in
    let y = structure_bytes t.second in
    let z = structure_bytes t.third in
    four_parts a b c d _ _ _ _ ea eb ec ed (header_most t) (structure_most t.first) (structure_most t.second) (structure_most t.third)
    ∙ sym (sum_append u (x ++ (y ++ z)) ∙ ap (λ (k : ℕ). sum_of u + k) (sum_append x (y ++ z) ∙ ap (λ (k : ℕ). sum_of x + k) (sum_append y z)))

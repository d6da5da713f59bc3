-- What the writer's steps leave: the table's 112 bytes, and the bytes after them. Assumes nothing.
use mathlib.Core.Path.{◌≡◌, refl, sym, ap, ◌∙◌}
use mathlib.Core.Bool.{Bool, true, false, cond}
use mathlib.Core.List.{List, [], ◌++◌, append_assoc, append-nil}
use Prim.Native.Nat.{ℕ, ◌+◌, ◌*◌, ◌-◌, ◌/◌, ◌%◌, ◌≤◌, ◌<◌}
use native.Mathlib.Omega.{arith}
use lib.Dec.{eqb}
use lib.ListN.{length, take, drop, length-append, drop_of_length-le}
use lib.Seq.{drop-drop}
use borrow.Rule.Slice.PartMut.{put_mid}
use Rattle.le.specs.Le.{le_bytes, put_bytes, bytes_of}
use Rattle.le.proofs.Put.{put_some, put_join, bytes_split}
use Rattle.le.proofs.Back.{put_long}
use Rattle.aspt.specs.Rules.{sum_of}
use Rattle.aspt_build.specs.Write.{own_of, structure_fields, structure_bytes, identity_fields, maker_fields, space_fields, bytes_with, checksum_of, table_bytes}
use Rattle.aspt_build.specs.Back.{own_table}
use Rattle.aspt.specs.declared.Structure.{Structure}
use Rattle.aspt.specs.declared.Table.{Table}

-- a write after others, which left s
pub put_next : (vs : List ℕ) (o : ℕ) {s t u : List ℕ} → u ≡ put_bytes vs t o → t ≡ s → u ≡ put_bytes vs s o
put_next vs o e f = e ∙ ap (λ (x : List ℕ). put_bytes vs x o) f

-- a part that comes back with other bytes
mid_put : (a n : ℕ) (s ys : List ℕ) → length ys ≡ n → a + n ≤ length s → put_mid a n s ys ≡ put_bytes ys s a
mid_put a n s ys e h = sym (put_some ys s a (omega arith) ∙ append_assoc (take a s) ys _ ∙ ap (λ (x : List ℕ). take a s ++ (ys ++ x)) (ap (λ (k : ℕ). drop (a + k) s) e ∙ sym (drop-drop n a s)))

-- a write right behind those from the start on
behind : (us vs s : List ℕ) (n : ℕ) → length us ≡ n → n + length vs ≤ length s → put_bytes vs (put_bytes us s 0) n ≡ put_bytes (us ++ vs) s 0
behind us vs s n e h = ap (put_bytes vs (put_bytes us s 0)) (omega arith) ∙ put_join us vs s 0 (omega arith)

-- a part right behind them
part_behind : (us vs s : List ℕ) (n m : ℕ) → length us ≡ n → length vs ≡ m → n + m ≤ length s → put_mid n m (put_bytes us s 0) vs ≡ put_bytes (us ++ vs) s 0
part_behind us vs s n m e f h = mid_put n m (put_bytes us s 0) vs f (rw (put_long us s 0) h) ∙ behind us vs s n e (omega arith)

-- three groups of fields and three parts, one behind the other
module _ (u v w a b c s : List ℕ) (lu : length u ≡ 10) (lv : length v ≡ 26) (lw : length w ≡ 16) (la : length a ≡ 20) (lb : length b ≡ 20) (lc : length c ≡ 20) (h : 112 ≤ length s) where
  six : put_mid 92 20 (put_mid 72 20 (put_mid 52 20 (put_bytes w (put_bytes v (put_bytes u s 0) 10) 36) a) b) c ≡ put_bytes (u ++ v ++ w ++ a ++ b ++ c) s 0
  six =
      let l2 : length (u ++ v) ≡ 36 = omega (arith, length-append u v) in
      let l3 : length (u ++ v ++ w) ≡ 52 = omega (arith, length-append (u ++ v) w) in
      let l4 : length (u ++ v ++ w ++ a) ≡ 72 = omega (arith, length-append (u ++ v ++ w) a) in
      let l5 : length (u ++ v ++ w ++ a ++ b) ≡ 92 = omega (arith, length-append (u ++ v ++ w ++ a) b) in
      ap (λ (x : List ℕ). put_mid 92 20 (put_mid 72 20 (put_mid 52 20 (put_bytes w x 36) a) b) c) (behind u v s 10 lu (omega arith))
      ∙ ap (λ (x : List ℕ). put_mid 92 20 (put_mid 72 20 (put_mid 52 20 x a) b) c) (behind (u ++ v) w s 36 l2 (omega arith))
      ∙ ap (λ (x : List ℕ). put_mid 92 20 (put_mid 72 20 x b) c) (part_behind (u ++ v ++ w) a s 52 20 l3 la (omega arith))
      ∙ ap (λ (x : List ℕ). put_mid 92 20 x c) (part_behind (u ++ v ++ w ++ a) b s 72 20 l4 lb (omega arith))
      ∙ part_behind (u ++ v ++ w ++ a ++ b) c s 92 20 l5 lc (omega arith)

-- all bytes have their number
pub structure_long : (st : Structure) → length (structure_bytes st) ≡ 20
unfolding structure_bytes bytes_of le_bytes
structure_long st = refl

pub table_long : (sum : ℕ) (t : Table) → length (bytes_with sum t) ≡ 112
unfolding bytes_with structure_bytes bytes_of le_bytes
table_long sum t = refl

module _ (sum : ℕ) (t : Table) (s : List ℕ) (h : length s ≡ 112) where
  pub fields_written :
      put_mid 92 20 (put_mid 72 20 (put_mid 52 20
      (put_bytes (bytes_of (space_fields t)) (put_bytes (bytes_of (maker_fields t)) (put_bytes (bytes_of (identity_fields sum)) s 0) 10) 36)
      (structure_bytes t.first)) (structure_bytes t.second)) (structure_bytes t.third)
      ≡ bytes_with sum t
  unfolding bytes_with structure_bytes bytes_of le_bytes
  fields_written =
      let u = bytes_of (identity_fields sum) in
      let v = bytes_of (maker_fields t) in
      let w = bytes_of (space_fields t) in
      let a = structure_bytes t.first in
      let b = structure_bytes t.second in
      let c = structure_bytes t.third in
      let none : drop 112 s ≡ [] = drop_of_length-le s {i = 112} (omega arith) in
      six u v w a b c s refl refl refl refl refl refl (omega arith) ∙ put_some (u ++ v ++ w ++ a ++ b ++ c) s 0 (omega arith) ∙ rw none (append-nil _)

-- what the type has, taken twice
own_twice : (st : Structure) → own_of (own_of st) ≡ own_of st
unfolding own_of
own_twice st =
    λ i. record {
      class = st.class;
      id = id (eqb st.class 1) i;
      first = st.first;
      second = register (eqb st.class 2) st.second i;
      third = register (eqb st.class 2) st.third i;
    }
  where
    id : (b : Bool) → cond b (cond b st.id 0) 0 ≡ cond b st.id 0
    id true = refl
    id false = refl

    register : (b : Bool) (x : ℕ) → cond b 0 (cond b 0 x) ≡ cond b 0 x
    register true x = refl
    register false x = refl

pub own_table_twice : (t : Table) {o : Table} → o ≡ own_table t → own_table o ≡ o
own_table_twice t e = ap own_table e ∙ (λ i. record (own_table t) { first = own_twice t.first i; second = own_twice t.second i; third = own_twice t.third i }) ∙ sym e

-- a table is written as what its types have is written
module _ (t : Table) where
  own_with : (sum : ℕ) → bytes_with sum (own_table t) ≡ bytes_with sum t
  unfolding bytes_with structure_bytes
  own_with sum =
      λ i. bytes_of (identity_fields sum ++ (maker_fields t ++ space_fields t))
      ++ (bytes_of (structure_fields (own_twice t.first i)) ++ (bytes_of (structure_fields (own_twice t.second i)) ++ bytes_of (structure_fields (own_twice t.third i))))

  pub own_checksum : checksum_of (own_table t) ≡ checksum_of t
  own_checksum = ap (λ (bytes : List ℕ). (256 - sum_of bytes % 256) % 256) (own_with 0)

  pub own_bytes : table_bytes (own_table t) ≡ table_bytes t
  unfolding table_bytes
  own_bytes = ap (λ (sum : ℕ). bytes_with sum (own_table t)) own_checksum ∙ own_with (checksum_of t)

-- two numbers of four bytes as one of eight
pub joined_bytes : (low high : ℕ) → low < 0x1_0000_0000 → le_bytes 8 (low + 0x1_0000_0000 * high) ≡ le_bytes 4 low ++ le_bytes 4 high
joined_bytes low high h =
    let x = low + 0x1_0000_0000 * high in
    let l : x % 0x1_0000_0000 ≡ low = omega arith in
    let u : x / 0x1_0000_0000 ≡ high = omega arith in
    bytes_split 4 4 x ∙ (λ i. le_bytes 4 (l i) ++ le_bytes 4 (u i))

-- a structure's first eight bytes as one number
pub front_bytes : (class id : ℕ) → class < 0x1_0000 → id < 0x100 →
    le_bytes 8 (class + 0x14_0000 + 0x1_0000_0000 * id) ≡ (le_bytes 2 class ++ le_bytes 2 20) ++ (le_bytes 1 id ++ le_bytes 3 0)
front_bytes class id hk hi =
    let l : (class + 0x14_0000) % 0x1_0000 ≡ class = omega arith in
    let u : (class + 0x14_0000) / 0x1_0000 ≡ 20 = omega arith in
    let b : id % 0x100 ≡ id = omega arith in
    let z : id / 0x100 ≡ 0 = omega arith in
    joined_bytes (class + 0x14_0000) id (omega arith)
    ∙ (λ i. bytes_split 2 2 (class + 0x14_0000) i ++ bytes_split 1 3 id i)
    ∙ (λ i. (le_bytes 2 (l i) ++ le_bytes 2 (u i)) ++ (le_bytes 1 (b i) ++ le_bytes 3 (z i)))

pub structure_written : (st : Structure) → st.class < 0x1_0000 → st.id < 0x100 → st.first < 0x1_0000_0000 →
    le_bytes 8 (st.class + 0x14_0000 + 0x1_0000_0000 * st.id) ++ (le_bytes 8 (st.first + 0x1_0000_0000 * st.second) ++ (le_bytes 4 st.third ++ [])) ≡ bytes_of (structure_fields st)
unfolding bytes_of le_bytes
structure_written st hk hi hf = λ i. front_bytes st.class st.id hk hi i ++ (joined_bytes st.first st.second hf i ++ (le_bytes 4 st.third ++ []))

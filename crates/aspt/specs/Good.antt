-- What makes a table good, as plain facts; and that a read accepts exactly that. Assumes nothing: definitions and statements.
use Rattle.std.specs.Prelude.{ℕ, ◌+◌, ◌*◌, ◌%◌, ◌^◌, ◌≤◌, ◌≡◌, List, ◌++◌, length, take}
use Rattle.reply.specs.Reply.{given}
use Rattle.le.specs.Field.{get}
use Rattle.aspt.specs.Header as header
use Rattle.aspt.specs.Header.{table_length}
use Rattle.aspt.specs.Structure as structure
use Rattle.aspt.specs.Structure.{structure_length}
use Rattle.aspt.specs.Rules.{sum_of}
use Rattle.aspt.specs.Bytes.{structure_part, table_in}
use Rattle.aspt.specs.Calls.{read_of}
use Rattle.aspt.specs.declared.Structure.{Structure}
use Rattle.aspt.specs.declared.Table.{Table}

-- a structure of one of the three types, with type 1's ID byte, and with each register that its type has in the register space
pub record GoodStructure (pages : ℕ) (st : Structure) : Type 0 where
  pub type : st.class ≤ 2
  pub id : st.class ≡ 1 → st.id ≡ 1
  pub first : st.first + 4 ≤ 4096 * pages
  pub second : (st.class ≡ 2 → ⊥) → st.second + 4 ≤ 4096 * pages
  pub third : (st.class ≡ 2 → ⊥) → st.third + 4 ≤ 4096 * pages

-- a table whose register space begins at a page and ends at 2^64 or before, with three good structures of different types
pub record GoodTable (t : Table) : Type 0 where
  pub aligned : t.base % 4096 ≡ 0
  pub ends : t.base + 4096 * t.pages ≤ 2 ^ 64
  pub first : GoodStructure t.pages t.first
  pub second : GoodStructure t.pages t.second
  pub third : GoodStructure t.pages t.third
  pub first_second : t.first.class ≡ t.second.class → ⊥
  pub first_third : t.first.class ≡ t.third.class → ⊥
  pub second_third : t.second.class ≡ t.third.class → ⊥

-- a structure's bytes with its length, and with zero in the reserved bytes of its type
pub record GoodPart (p : List ℕ) : Type 0 where
  pub long : get structure.whole_length p 0 ≡ structure_length
  pub type_0 : get structure.class p 0 ≡ 0 → get structure.reserved4 p 0 ≡ 0
  pub type_1 : get structure.class p 0 ≡ 1 → get structure.reserved5 p 0 ≡ 0
  pub type_2 : get structure.class p 0 ≡ 2 → (get structure.reserved4 p 0 ≡ 0) × (get structure.reserved12 p 0 ≡ 0)

-- the 112 bytes s hold the table t
pub record Holds (s : List ℕ) (t : Table) : Type 0 where
  pub signature : get header.signature s 0 ≡ header.aspt
  pub long : get header.whole_length s 0 ≡ table_length
  pub revision : get header.revision s 0 ≡ 2
  pub sum : sum_of s % 256 ≡ 0
  pub count : get header.count s 0 ≡ 3
  pub first : GoodPart (structure_part 0 s)
  pub second : GoodPart (structure_part 1 s)
  pub third : GoodPart (structure_part 2 s)
  pub table : t ≡ table_in s
  pub good : GoodTable t

-- a table is read exactly where the first 112 lent bytes hold it
pub record ReadAcceptance : Type 0 where
  pub only : (s : List ℕ) (t : Table) → read_of s ≡ given t → (table_length ≤ length s) × Holds (take table_length s) t
  pub all : (s : List ℕ) (t : Table) → table_length ≤ length s → Holds (take table_length s) t → read_of s ≡ given t

-- bytes after the 112 are ignored
pub record RestIgnored : Type 0 where
  pub rest : (s rest : List ℕ) → length s ≡ table_length → read_of (s ++ rest) ≡ read_of s

-- What is written is read back, and what was accepted is written again. Assumes nothing: definitions and statements.
use Rattle.std.specs.Prelude.{ℕ, ◌^◌, ◌<◌, ◌≤◌, ◌≡◌, List, ◌++◌, length, take, drop}
use Rattle.le.specs.Le.{Bytes}
use Rattle.reply.specs.Reply.{given, then}
use Rattle.aspt.specs.Header.{table_length}
use Rattle.aspt.specs.Rules.{done}
use Rattle.aspt.specs.Calls.{read_of, admit_of}
use Rattle.aspt_build.specs.Write.{own_of, table_bytes, write_of, written_by}
use Rattle.aspt.specs.declared.Structure.{Structure}
use Rattle.aspt.specs.declared.Table.{Table}

-- every field of a structure fits its bytes
pub record NarrowStructure (st : Structure) : Type 0 where
  pub class : st.class < 2 ^ 16
  pub id : st.id < 2 ^ 8
  pub first : st.first < 2 ^ 32
  pub second : st.second < 2 ^ 32
  pub third : st.third < 2 ^ 32

-- every field of a table fits its bytes
pub record Narrow (t : Table) : Type 0 where
  pub oem_low : t.oem_low < 2 ^ 32
  pub oem_high : t.oem_high < 2 ^ 16
  pub oem_table : t.oem_table < 2 ^ 64
  pub oem_revision : t.oem_revision < 2 ^ 32
  pub creator : t.creator < 2 ^ 32
  pub creator_revision : t.creator_revision < 2 ^ 32
  pub base : t.base < 2 ^ 64
  pub pages : t.pages < 2 ^ 32
  pub first : NarrowStructure t.first
  pub second : NarrowStructure t.second
  pub third : NarrowStructure t.third

-- a table with the fields that the types of its structures have, and 0 in those that they lack
abbrev pub own_table : Table → Table
own_table t = record {
  oem_low = t.oem_low;
  oem_high = t.oem_high;
  oem_table = t.oem_table;
  oem_revision = t.oem_revision;
  creator = t.creator;
  creator_revision = t.creator_revision;
  base = t.base;
  pages = t.pages;
  first = own_of t.first;
  second = own_of t.second;
  third = own_of t.third;
}

-- a reader judges the bytes that hold a table as the writer judged the table, whatever follows them, and gives it as it was given;
-- so what is written is read back
pub record WrittenReadBack : Type 0 where
  pub judged : (t : Table) (rest : List ℕ) → Narrow t → read_of (table_bytes t ++ rest) ≡ then (admit_of t) (λ _. given (own_table t))
  pub back : (t : Table) (s : List ℕ) → Narrow t → write_of t s ≡ done → read_of (written_by t s (write_of t s)) ≡ given (own_table t)

-- a table that was read has 0 in the fields that its types lack; it is accepted by a writer wherever there is room, which leaves the 112 bytes
-- that were read, and over those bytes changes nothing
pub record SameAgain : Type 0 where
  pub own : (s : List ℕ) (t : Table) → read_of s ≡ given t → own_table t ≡ t
  pub accepted : (s b : List ℕ) (t : Table) → read_of s ≡ given t → table_length ≤ length b → write_of t b ≡ done
  pub bytes : (s b : List ℕ) (t : Table) → Bytes s → read_of s ≡ given t → written_by t b done ≡ take table_length s ++ drop table_length b
  pub over : (s : List ℕ) (t : Table) → Bytes s → read_of s ≡ given t → written_by t s (write_of t s) ≡ s

-- Which tables are taken from lent words, as plain facts. Assumes nothing: these are statements.
use Rattle.std.specs.Prelude.{ℕ, ◌^◌, ◌<◌, ◌≤◌, ◌≡◌, List, ◌++◌}
use Rattle.reply.specs.Reply.{given, refused, alone}
use Rattle.le.specs.Le.{Bytes}
use Rattle.aspt.specs.Calls.{read_of}
use Rattle.aspt.specs.declared.Structure.{Structure}
use Rattle.aspt.specs.declared.Table.{Table}
use Rattle.aspt_build.specs.Write.{write_of}
use Rattle.aspt_build.specs.Back.{own_table}
use Rattle.aspt_words.specs.AsptTable.{lay_table, write_words, left_by}

-- every field that a structure's type has fits its bytes; type 1 has an ID byte, types 0 and 1 have three registers, and type 2 has one
pub record FitStructure (st : Structure) : Type 0 where
  pub id : st.class ≡ 1 → st.id < 2 ^ 8
  pub first : st.class ≤ 2 → st.first < 2 ^ 32
  pub second : st.class ≤ 1 → st.second < 2 ^ 32
  pub third : st.class ≤ 1 → st.third < 2 ^ 32

-- every field that a table has, and that its structures' types have, fits its bytes
pub record FitTable (t : Table) : Type 0 where
  pub oem_high : t.oem_high < 2 ^ 16
  pub oem_revision : t.oem_revision < 2 ^ 32
  pub creator : t.creator < 2 ^ 32
  pub creator_revision : t.creator_revision < 2 ^ 32
  pub pages : t.pages < 2 ^ 32
  pub first : FitStructure t.first
  pub second : FitStructure t.second
  pub third : FitStructure t.third

-- the words of a table, whatever follows them: taken as the table where it fits, whichever numbers stand in fields that its types lack, else 5;
-- and numbers in such fields are as good as 0, to the answer and to the bytes. So a table that was read is taken as it was laid out
pub record WordsTaken : Type 0 where
  pub taken : (t : Table) (more s : List ℕ) → t.oem_low < 2 ^ 32 → FitTable t → write_words (lay_table t ++ more) s ≡ write_of t s
  pub wide : (t : Table) (more s : List ℕ) → t.oem_low < 2 ^ 32 → (FitTable t → ⊥) → write_words (lay_table t ++ more) s ≡ refused 5 alone
  pub lacking : (t : Table) (more s : List ℕ) → t.oem_low < 2 ^ 32 → write_words (lay_table t ++ more) s ≡ write_words (lay_table (own_table t) ++ more) s
  pub lacking_bytes : (t : Table) (more s : List ℕ) → t.oem_low < 2 ^ 32 → left_by (lay_table t ++ more) s ≡ left_by (lay_table (own_table t) ++ more) s
  pub read : (bytes : List ℕ) (t : Table) (more s : List ℕ) → Bytes bytes → read_of bytes ≡ given t → write_words (lay_table t ++ more) s ≡ write_of t s

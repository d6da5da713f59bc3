-- Which bytes hold a table, what a write answers, and the bytes that it leaves. Assumes nothing: these are definitions.
use Rattle.std.specs.Prelude.{ℕ, ◌-◌, ◌%◌, cond, List, [], ◌∷◌, ◌++◌, length, drop, leb, eqb}
use Rattle.le.specs.Le.{Number, bytes_of}
use Rattle.reply.specs.Reply.{Reply, given, refused, guard, then}
use Rattle.le.specs.Field.{filled}
use Rattle.aspt.specs.Header as header
use Rattle.aspt.specs.Header.{table_length}
use Rattle.aspt.specs.Structure as structure
use Rattle.aspt.specs.Structure.{structure_length}
use Rattle.aspt.specs.Rules.{done, sum_of}
use Rattle.aspt.specs.Calls.{admit_of}
use Rattle.aspt.specs.declared.Structure.{Structure}
use Rattle.aspt.specs.declared.Table.{Table}

-- a structure with the fields that its type has, and 0 in those that it lacks
unfoldable pub own_of : Structure → Structure
own_of st = record {
  class = st.class;
  id = cond (eqb st.class 1) st.id 0;
  first = st.first;
  second = cond (eqb st.class 2) 0 st.second;
  third = cond (eqb st.class 2) 0 st.third;
}

-- a structure's 20 bytes; its reserved bytes are zero, since a field that the type lacks is 0
abbrev pub structure_fields : Structure → List Number
structure_fields st =
    filled structure.class st.class ∷ filled structure.whole_length structure_length ∷ filled structure.id st.id ∷ filled structure.reserved5 0
    ∷ filled structure.first st.first ∷ filled structure.second st.second ∷ filled structure.third st.third ∷ []

unfoldable pub structure_bytes : Structure → List ℕ
structure_bytes st = bytes_of (structure_fields (own_of st))

-- the bytes before the structures: what the table is, with a checksum; who made it; the register space, and how many structures follow
abbrev pub identity_fields : (sum : ℕ) → List Number
identity_fields sum = filled header.signature header.aspt ∷ filled header.whole_length table_length ∷ filled header.revision 2 ∷ filled header.checksum sum ∷ []

abbrev pub maker_fields : Table → List Number
maker_fields t =
    filled header.oem_low t.oem_low ∷ filled header.oem_high t.oem_high ∷ filled header.oem_table t.oem_table ∷ filled header.oem_revision t.oem_revision
    ∷ filled header.creator t.creator ∷ filled header.creator_revision t.creator_revision ∷ []

abbrev pub space_fields : Table → List Number
space_fields t = filled header.base t.base ∷ filled header.pages t.pages ∷ filled header.count 3 ∷ []

-- the 112 bytes, with a checksum
unfoldable pub bytes_with : (sum : ℕ) → Table → List ℕ
bytes_with sum t =
    bytes_of (identity_fields sum ++ (maker_fields t ++ space_fields t))
    ++ (structure_bytes t.first ++ (structure_bytes t.second ++ structure_bytes t.third))

-- the checksum that brings the sum of all 112 bytes to 0 modulo 256
abbrev pub checksum_of : Table → ℕ
checksum_of t = (256 - sum_of (bytes_with 0 t) % 256) % 256

-- the 112 bytes that hold a table
unfoldable pub table_bytes : Table → List ℕ
table_bytes t = bytes_with (checksum_of t) t

-- writing a table into a lent buffer
unfoldable pub write_of : Table → (s : List ℕ) → Reply Unit
write_of t s = then (admit_of t) (λ _. guard (leb table_length (length s)) 12 done)  -- the checks, then room (12)

-- the buffer after it: the table's 112 bytes and the bytes after them, or all as it was where refused
abbrev pub written_by : Table → (s : List ℕ) → Reply Unit → List ℕ
written_by t s (given _) = table_bytes t ++ drop table_length s
written_by t s (refused number carried) = s

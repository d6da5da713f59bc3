-- How an ASPT is laid out in lent words, and taken from them. Assumes nothing: these are definitions.
use Rattle.std.specs.Prelude.{ℕ, ◌+◌, ◌*◌, ◌/◌, ◌%◌, ◌^◌, Bool, true, cond, ◌&&◌, List, [], ◌∷◌, ◌++◌, length, get_or, leb, ltb, eqb}
use Rattle.reply.specs.Reply.{Reply, guard}
use Rattle.le.specs.Field.{Field}
use Rattle.aspt.specs.Header as header
use Rattle.aspt.specs.Structure as structure
use Rattle.aspt.specs.declared.Structure.{Structure}
use Rattle.aspt.specs.declared.Table.{Table}
use Rattle.aspt_build.specs.Write.{write_of, written_by}

-- a structure: five words, its type, ID byte and register offsets
abbrev pub lay_structure : Structure → List ℕ
lay_structure st = st.class ∷ st.id ∷ st.first ∷ st.second ∷ st.third ∷ []

-- a table: twenty-two words, the OEM ID, the OEM table ID, the OEM revision, the creator's ID and revision, the base address, the pages, and the three structures
abbrev pub lay_table : Table → List ℕ
lay_table t =
    (t.oem_low + 2 ^ 32 * t.oem_high) ∷ t.oem_table ∷ t.oem_revision ∷ t.creator ∷ t.creator_revision ∷ t.base ∷ t.pages
    ∷ (lay_structure t.first ++ (lay_structure t.second ++ lay_structure t.third))

-- the structure in the five words from word i on
abbrev pub structure_from : (words : List ℕ) → (i : ℕ) → Structure
structure_from words i = record {
  class = get_or words i 0;
  id = get_or words (i + 1) 0;
  first = get_or words (i + 2) 0;
  second = get_or words (i + 3) 0;
  third = get_or words (i + 4) 0;
}

-- the table in twenty-two words
unfoldable pub table_from : (words : List ℕ) → Table
table_from words = record {
  oem_low = get_or words 0 0 % 2 ^ 32;
  oem_high = get_or words 0 0 / 2 ^ 32;
  oem_table = get_or words 1 0;
  oem_revision = get_or words 2 0;
  creator = get_or words 3 0;
  creator_revision = get_or words 4 0;
  base = get_or words 5 0;
  pages = get_or words 6 0;
  first = structure_from words 7;
  second = structure_from words 12;
  third = structure_from words 17;
}

-- a field can hold a number
abbrev pub fits : Field → (x : ℕ) → Bool
fits f x = ltb x (256 ^ f.bytes)

-- each field that a structure's type has can hold its number: type 2 has the first register alone, type 1 an ID byte, and a type that there is not has no field
unfoldable pub structure_fits : Structure → Bool
structure_fits st =
    cond (leb st.class 2)
    (fits structure.first st.first
    && (cond (eqb st.class 2) true (fits structure.second st.second && fits structure.third st.third)
    && cond (eqb st.class 1) (fits structure.id st.id) true))
    true

-- each field of a table can hold its number; the OEM table ID and the base address hold any word
unfoldable pub table_fits : Table → Bool
table_fits t =
    fits header.oem_high t.oem_high
    && (fits header.oem_revision t.oem_revision
    && (fits header.creator t.creator
    && (fits header.creator_revision t.creator_revision
    && (fits header.pages t.pages && (structure_fits t.first && (structure_fits t.second && structure_fits t.third))))))

-- writing the table in lent words into a lent buffer
unfoldable pub write_words : (words s : List ℕ) → Reply Unit
write_words words s =
    guard (leb 22 (length words)) 1  -- fewer than twenty-two words
    (guard (table_fits (table_from words)) 5  -- a word that its field cannot hold, of a field that is there
    (write_of (table_from words) s))  -- document 01's checks; a type of 65,536 or more is a type that there is not

-- the buffer after it
abbrev pub left_by : (words s : List ℕ) → List ℕ
left_by words s = written_by (table_from words) s (write_words words s)

-- a structure as the code holds it, each number cut to its field, and a type above 65,535 to 65,535, which there is not either
abbrev pub cut_structure : Structure → Structure
cut_structure st = record {
  class = cond (leb st.class 65535) st.class 65535;
  id = st.id % 2 ^ 8;
  first = st.first % 2 ^ 32;
  second = st.second % 2 ^ 32;
  third = st.third % 2 ^ 32;
}

-- a table as the code holds it
abbrev pub cut_table : Table → Table
cut_table t = record {
  oem_low = t.oem_low;
  oem_high = t.oem_high % 2 ^ 16;
  oem_table = t.oem_table;
  oem_revision = t.oem_revision % 2 ^ 32;
  creator = t.creator % 2 ^ 32;
  creator_revision = t.creator_revision % 2 ^ 32;
  base = t.base;
  pages = t.pages % 2 ^ 32;
  first = cut_structure t.first;
  second = cut_structure t.second;
  third = cut_structure t.third;
}

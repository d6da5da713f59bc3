-- What the table's 112 bytes hold. Assumes nothing: these are definitions.
use Rattle.std.specs.Prelude.{ℕ, ◌+◌, ◌*◌, Bool, true, cond, ◌&&◌, List, take, drop, eqb}
use Rattle.le.specs.Field.{get}
use Rattle.aspt.specs.Header as header
use Rattle.aspt.specs.Header.{structures}
use Rattle.aspt.specs.Structure as structure
use Rattle.aspt.specs.Structure.{structure_length}
use Rattle.aspt.specs.declared.Structure.{Structure}
use Rattle.aspt.specs.declared.Table.{Table}

-- the part of the table that structure 0, 1 or 2 takes: 20 bytes each, from byte 52 on (Table 3)
abbrev pub structure_part : (i : ℕ) → (s : List ℕ) → List ℕ
structure_part i s = take structure_length (drop (structures + structure_length * i) s)

-- a structure as its part p has it
abbrev pub structure_in : (p : List ℕ) → Structure
structure_in p = record {
  class = get structure.class p 0;
  id = get structure.id p 0;
  first = get structure.first p 0;
  second = get structure.second p 0;
  third = get structure.third p 0;
}

-- its length is that of a structure
abbrev pub length_fits : (p : List ℕ) → Bool
length_fits p = eqb (get structure.whole_length p 0) structure_length

-- the reserved bytes of its type are zero
unfoldable pub reserved_zero : (p : List ℕ) → Bool
reserved_zero p =
    cond (eqb (get structure.class p 0) 1) (eqb (get structure.reserved5 p 0) 0)
    (eqb (get structure.reserved4 p 0) 0 && cond (eqb (get structure.class p 0) 2) (eqb (get structure.reserved12 p 0) 0) true)

-- a table with these structures, as the bytes before them have it
abbrev pub table_with : (s : List ℕ) → (a b c : Structure) → Table
table_with s a b c = record {
  oem_low = get header.oem_low s 0;
  oem_high = get header.oem_high s 0;
  oem_table = get header.oem_table s 0;
  oem_revision = get header.oem_revision s 0;
  creator = get header.creator s 0;
  creator_revision = get header.creator_revision s 0;
  base = get header.base s 0;
  pages = get header.pages s 0;
  first = a;
  second = b;
  third = c;
}

-- a table as its bytes have it
abbrev pub table_in : (s : List ℕ) → Table
table_in s = table_with s (structure_in (structure_part 0 s)) (structure_in (structure_part 1 s)) (structure_in (structure_part 2 s))

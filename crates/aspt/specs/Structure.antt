-- Source 000, Tables 5, 7 and 8: byte length and byte offset of each field of a structure. Assumes nothing: these are definitions.
use Rattle.std.specs.Prelude.{ℕ}
use Rattle.le.specs.Field.{Field, field}

-- its type
abbrev pub class : Field
class = field 2 0

abbrev pub whole_length : Field
whole_length = field 2 2

-- the ID byte that type 1 has
abbrev pub id : Field
id = field 1 4

-- reserved in types 0 and 2
abbrev pub reserved4 : Field
reserved4 = field 4 4

-- reserved in type 1
abbrev pub reserved5 : Field
reserved5 = field 3 5

-- the register offsets, in the tables' order
abbrev pub first : Field
first = field 4 8

abbrev pub second : Field
second = field 4 12

abbrev pub third : Field
third = field 4 16

-- reserved in type 2, which has the first register alone
abbrev pub reserved12 : Field
reserved12 = field 8 12

-- a structure's bytes
abbrev pub structure_length : ℕ
structure_length = 20

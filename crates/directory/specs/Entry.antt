-- Source 001, an entry of a directory: byte length and byte offset of each field, the same in every kind. Assumes nothing: these are definitions.
use Rattle.le.specs.Field.{Field, field}

-- the type
abbrev pub class : Field
class = field 1 0

abbrev pub subprogram : Field
subprogram = field 1 1

-- bits that a kind uses, from the lowest up, and reserved ones
abbrev pub flags : Field
flags = field 2 2

abbrev pub size : Field
size = field 4 4

-- 62 bits of location, and above them two of address mode
abbrev pub location : Field
location = field 8 8

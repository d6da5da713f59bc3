-- Source document 001: the header that a firmware binary begins with, byte length and byte offset of the fields that are read. Assumes nothing: these are definitions.
use Rattle.std.specs.Prelude.{ℕ}
use Rattle.le.specs.Field.{Field, field}

abbrev pub mark : Field
mark = field 4 0x10

abbrev pub version : Field
version = field 4 0x60

-- the header's bytes
abbrev pub header_length : ℕ
header_length = 256

-- "$PS1", bytes 24 50 53 31, as the mark has it
abbrev pub ps1 : ℕ
ps1 = 0x3153_5024

-- Source 001, a directory's header: byte length and byte offset of each field. Assumes nothing: these are definitions.
use Rattle.std.specs.Prelude.{ℕ}
use Rattle.le.specs.Field.{Field, field}

abbrev pub cookie : Field
cookie = field 4 0

abbrev pub checksum : Field
checksum = field 4 4

abbrev pub total : Field
total = field 4 8

abbrev pub reserved : Field
reserved = field 4 12

-- all of it, before the entries
abbrev pub bytes : ℕ
bytes = 16

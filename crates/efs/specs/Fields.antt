-- Source 001, the EFS: byte length and byte offset of each field that is read. Assumes nothing: these are definitions.
use Rattle.std.specs.Prelude.{ℕ}
use Rattle.le.specs.Field.{Field, field}

abbrev pub signature : Field
signature = field 4 0

-- the directory pointer of earlier boards, and that of later ones
abbrev pub early : Field
early = field 4 0x10

abbrev pub late : Field
late = field 4 0x14

-- all that must lie in the image
abbrev pub bytes : ℕ
bytes = 0x24

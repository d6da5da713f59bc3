-- Source 000, Table 3: byte length and byte offset of each field before the structures. Assumes nothing: these are definitions.
use Rattle.std.specs.Prelude.{ℕ}
use Rattle.le.specs.Field.{Field, field}

abbrev pub signature : Field
signature = field 4 0

abbrev pub whole_length : Field
whole_length = field 4 4

abbrev pub revision : Field
revision = field 1 8

abbrev pub checksum : Field
checksum = field 1 9

-- OEM ID, six bytes: the first four, and the last two
abbrev pub oem_low : Field
oem_low = field 4 10

abbrev pub oem_high : Field
oem_high = field 2 14

abbrev pub oem_table : Field
oem_table = field 8 16

abbrev pub oem_revision : Field
oem_revision = field 4 24

abbrev pub creator : Field
creator = field 4 28

abbrev pub creator_revision : Field
creator_revision = field 4 32

abbrev pub base : Field
base = field 8 36

abbrev pub pages : Field
pages = field 4 44

abbrev pub count : Field
count = field 4 48

-- where the structures begin
abbrev pub structures : ℕ
structures = 52

-- the table's bytes, its structures with it
abbrev pub table_length : ℕ
table_length = 112

-- 'ASPT', as the signature has it
abbrev pub aspt : ℕ
aspt = 0x54505341

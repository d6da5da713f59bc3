-- The definitions tried on a table with source 000's example names. Assumes nothing.
use mathlib.Core.Path.{◌≡◌, refl}
use mathlib.Core.List.{List, [], ◌∷◌, ◌++◌}
use Prim.Native.Nat.{ℕ}
use Rattle.reply.specs.Reply.{given}
use Rattle.le.specs.Le.{le_at, le_bytes, bytes_of}
use Rattle.aspt.specs.Rules.{sum_of, fresh, id_fits, registers_fit, structure_checks, structures_checks}
use Rattle.aspt.specs.Bytes.{reserved_zero}
use Rattle.aspt_build.specs.Write.{own_of, structure_bytes, bytes_with, table_bytes}
use Rattle.aspt.specs.Calls.{header_checks, table_of, read_of}
use Rattle.aspt.specs.declared.Structure.{Structure}
use Rattle.aspt.specs.declared.Table.{Table}

abbrev structure : ℕ → ℕ → ℕ → ℕ → ℕ → Structure
structure class id first second third = record { class = class; id = id; first = first; second = second; third = third }

-- 'AMDINC', 'AMDICRB', types 2, 0 and 1, with a given structure of type 2
abbrev tried : Structure → Table
tried acpi = record {
  oem_low = 0x4944_4D41;
  oem_high = 0x434E;
  oem_table = 0x0042_5243_4944_4D41;
  oem_revision = 1;
  creator = 0x2044_4D41;
  creator_revision = 2;
  base = 0xFEDC_0000;
  pages = 0x100;
  first = acpi;
  second = structure 0 0 0x10 0x14 0x18;
  third = structure 1 1 0x20 0x24 0xF_FFFC;
}

abbrev bytes : List ℕ
bytes =
    0x41 ∷ 0x53 ∷ 0x50 ∷ 0x54 ∷ 0x70 ∷ 0 ∷ 0 ∷ 0 ∷ 2 ∷ 0xEB
    ∷ 0x41 ∷ 0x4D ∷ 0x44 ∷ 0x49 ∷ 0x4E ∷ 0x43 ∷ 0x41 ∷ 0x4D ∷ 0x44 ∷ 0x49 ∷ 0x43 ∷ 0x52 ∷ 0x42 ∷ 0 ∷ 1 ∷ 0 ∷ 0 ∷ 0 ∷ 0x41 ∷ 0x4D ∷ 0x44 ∷ 0x20 ∷ 2 ∷ 0 ∷ 0 ∷ 0
    ∷ 0 ∷ 0 ∷ 0xDC ∷ 0xFE ∷ 0 ∷ 0 ∷ 0 ∷ 0 ∷ 0 ∷ 1 ∷ 0 ∷ 0 ∷ 3 ∷ 0 ∷ 0 ∷ 0
    ∷ 2 ∷ 0 ∷ 0x14 ∷ 0 ∷ 0 ∷ 0 ∷ 0 ∷ 0 ∷ 0x30 ∷ 0 ∷ 0 ∷ 0 ∷ 0 ∷ 0 ∷ 0 ∷ 0 ∷ 0 ∷ 0 ∷ 0 ∷ 0
    ∷ 0 ∷ 0 ∷ 0x14 ∷ 0 ∷ 0 ∷ 0 ∷ 0 ∷ 0 ∷ 0x10 ∷ 0 ∷ 0 ∷ 0 ∷ 0x14 ∷ 0 ∷ 0 ∷ 0 ∷ 0x18 ∷ 0 ∷ 0 ∷ 0
    ∷ 1 ∷ 0 ∷ 0x14 ∷ 0 ∷ 1 ∷ 0 ∷ 0 ∷ 0 ∷ 0x20 ∷ 0 ∷ 0 ∷ 0 ∷ 0x24 ∷ 0 ∷ 0 ∷ 0 ∷ 0xFC ∷ 0xFF ∷ 0x0F ∷ 0 ∷ []

-- fields that type 2 lacks are not written
pub written_right : table_bytes (tried (structure 2 7 0x30 8 9)) ≡ bytes
unfolding table_bytes bytes_with structure_bytes own_of bytes_of le_bytes sum_of
written_right = refl

-- they are read as 0, and bytes behind the table are not read
pub read_right : read_of (bytes ++ (1 ∷ 2 ∷ [])) ≡ given (tried (structure 2 0 0x30 0 0))
unfolding read_of table_of header_checks structures_checks structure_checks reserved_zero id_fits registers_fit fresh sum_of le_at
read_right = refl

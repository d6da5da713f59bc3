-- Document 01's values M1 to M10: a single table, and the single statement that every row of it holds. Assumes nothing: definitions and a statement.
use Rattle.std.specs.Prelude.{ℕ, ◌≤◌, ◌≡◌, List, [], ◌∷◌, length}
use Rattle.le.specs.Field.{get}
use Rattle.directory.specs.Header as header
use Rattle.reply.specs.Reply.{Reply, given, refused, alone}
use Rattle.reply.specs.Scan.{All}
use Rattle.build.specs.Write.{directory_bytes}
use Rattle.build.specs.declared.Fields.{Fields}
use Rattle.firmware.specs.Rules.{fresh_firmware, run_of}
use Rattle.firmware.specs.declared.Firmware.{Firmware}
use Rattle.guids.specs.Ending.{shortest}
use Rattle.guids.specs.Table.{guid_at, footer, footer_at, total_at, table_of}
use Rattle.guids.specs.declared.Totals.{Totals}

-- what a row of the table says
pub data Row : Type 0 where
  directory : (entries : List Fields) (checksum : ℕ) → Row
  firmware : (state : Firmware) (asked answered : ℕ) → Row
  any_firmware : (asked answered : ℕ) → Row
  guid_table : (total : ℕ) (answer : Reply Totals) → Row

-- that it holds
abbrev pub Holds : Row → Type 0
-- a directory of these entries, of either level, has this checksum in its header
Holds (directory entries checksum) = (level : ℕ) → get header.checksum (directory_bytes level entries) 0 ≡ checksum
-- firmware in this state answers this command word with this word
Holds (firmware state asked answered) = (run_of state asked).word ≡ answered
-- firmware in any state does
Holds (any_firmware asked answered) = (state : Firmware) → (run_of state asked).word ≡ answered
-- an image with the footer and this total, of any length and whatever else it holds, is answered so
Holds (guid_table total answer) = (image : List ℕ) → shortest ≤ length image → guid_at image (footer_at image) ≡ footer → total_at image ≡ total → table_of image ≡ answer

-- the entry of M2: type 1, subprogram 0, size 0x100, location 0x1000, mode 1
abbrev pub entry : Fields
entry = record { class = 1; subprogram = 0; size = 0x100; location = 0x1000; mode = 1 }

-- the state that M4 leaves
abbrev pub after_m4 : Firmware
after_m4 = (run_of fresh_firmware 0x0080_0000).firmware

abbrev pub table : List Row
table =
    directory [] 0xFFFF_FFFF  -- M1
    ∷ directory (entry ∷ []) 0x8614_5102  -- M2
    ∷ firmware fresh_firmware 0x0081_0000 0x8081_0001  -- M3
    ∷ firmware fresh_firmware 0x0080_0000 0x8080_0000  -- M4
    ∷ firmware fresh_firmware 0x0085_0401 0x8C85_0401  -- M5
    ∷ firmware after_m4 0x0085_0401 0x8885_0401  -- M6
    ∷ firmware after_m4 0x0085_0403 0xFC85_0403  -- M7
    ∷ any_firmware 0x0086_0000 0x8486_0000  -- M8
    ∷ guid_table 18 (given (record { total = 18; entries = 0 }))  -- M9
    ∷ guid_table 17 (refused 3 alone)  -- M10
    ∷ []

-- the statement
abbrev pub Values : Type 0
Values = All Holds table

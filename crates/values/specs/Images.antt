-- Flash images and directories at which two neighbouring checks fail, or one alone, with the number that is due and where it was met: the rows of what is stated in Orders.antt. Assumes nothing: these are definitions.
use Rattle.std.specs.Prelude.{ℕ, ◌+◌, ◌-◌, ◌^◌, List, [], ◌∷◌, ◌++◌, length, replicate, take}
use Rattle.le.specs.Le.{le_bytes}
use Rattle.fletcher.specs.Fletcher.{fletcher_of}
use Rattle.reply.specs.Reply.{Carried, alone, in_header, in_entry}
use Rattle.window.specs.Window.{window_start}
use Rattle.directory.specs.Directory.{psp_kind}
use Rattle.efs.specs.declared.Rules.{Rules}
use Rattle.build.specs.declared.Fields.{Fields}
use Rattle.build.specs.Write.{entry_bytes}

-- an input, the number that a call on it answers, 0 where it is accepted, and what the number carries
pub record Row (A : Type 0) : Type 0 where
  pub input : A
  pub number : ℕ
  pub carried : Carried

abbrev pub row_in : {A : Type 0} → A → ℕ → Carried → Row A
row_in input number carried = record { input = input; number = number; carried = carried }

-- nothing is carried
abbrev pub row : {A : Type 0} → A → ℕ → Row A
row input number = row_in input number alone

abbrev pub zeros : ℕ → List ℕ
zeros n = replicate n 0

-- ---- a directory: cookie, checksum (with so much added), total, reserved field, entries
abbrev pub one : ℕ
one = 0x5053_5024

abbrev pub two : ℕ
two = 0x324C_5024

abbrev pub directory_with : (cookie wrong total reserved : ℕ) → List ℕ → List ℕ
directory_with cookie wrong total reserved entries =
    let body = le_bytes 4 total ++ (le_bytes 4 reserved ++ entries) in
    le_bytes 4 cookie ++ (le_bytes 4 (fletcher_of body + wrong) ++ body)

-- an entry of a type, with reserved bits
abbrev pub entry_with : (class reserved : ℕ) → List ℕ
entry_with class reserved = class ∷ 0 ∷ (le_bytes 2 reserved ++ zeros 12)

-- the checks of a directory of level two, at 0
abbrev pub directory_rows : List (Row (List ℕ))
directory_rows =
    row (directory_with two 0 1 0 (entry_with 1 0)) 0
    ∷ row_in (zeros 15) 1 (in_header 2 0)  -- 1 before 2
    ∷ row_in (directory_with one 0 513 0 []) 2 (in_header 2 0)  -- 2 before 3
    ∷ row_in (directory_with two 0 513 0 []) 3 (in_header 2 0)  -- 3 before 1
    ∷ row_in (directory_with two 1 1 0 []) 1 (in_header 2 0)  -- 1 before 4
    ∷ row_in (take 31 (directory_with two 0 1 0 (entry_with 1 0))) 1 (in_header 2 0)
    ∷ row_in (directory_with two 1 0 1 []) 4 (in_header 2 0)  -- 4 before 5
    ∷ row_in (directory_with two 1 0 0 []) 4 (in_header 2 0)
    ∷ row_in (directory_with two 0 1 1 (entry_with 0x40 0)) 5 (in_header 2 0)  -- the header's 5 before 14
    ∷ row_in (directory_with two 0 1 0 (entry_with 0x40 1)) 5 (in_entry 2 0 0)  -- 5 before 14
    ∷ row_in (directory_with two 0 1 0 (entry_with 1 1)) 5 (in_entry 2 0 0)
    ∷ row_in (directory_with two 0 1 0 (entry_with 0x40 0)) 14 (in_entry 2 0 0)
    ∷ row_in (directory_with two 0 2 0 (entry_with 0x40 0 ++ entry_with 1 1)) 14 (in_entry 2 0 0)  -- entry by entry
    ∷ row_in (directory_with two 0 2 0 (entry_with 1 0 ++ entry_with 1 1)) 5 (in_entry 2 1 0)  -- 5 before 18
    ∷ row_in (directory_with two 0 2 0 (entry_with 0x40 0 ++ entry_with 0x40 0)) 14 (in_entry 2 0 0)  -- 14 before 18
    ∷ row_in (directory_with two 0 2 0 (entry_with 1 0 ++ entry_with 1 0)) 18 (in_entry 2 1 0)
    ∷ row_in (directory_with two 0 3 0 (entry_with 1 0 ++ (entry_with 1 0 ++ entry_with 2 1))) 18 (in_entry 2 1 0)  -- entry by entry
    ∷ row (directory_with two 0 2 0 (entry_with 1 0 ++ entry_with 2 0)) 0
    ∷ []

-- the same where the largest total is 1 and not 512
abbrev pub limit_rows : List (Row (List ℕ))
limit_rows =
    row (directory_with two 0 1 0 (entry_with 1 0)) 0
    ∷ row_in (directory_with two 0 2 0 (entry_with 1 0 ++ entry_with 1 0)) 3 (in_header 2 0)
    ∷ []

-- ---- a flash image: an EFS with its two pointers, and what follows its 0x24 bytes
abbrev pub efs : (early late : ℕ) → List ℕ
efs early late = 0xAA ∷ 0x55 ∷ 0xAA ∷ 0x55 ∷ (zeros 12 ++ (le_bytes 4 early ++ (le_bytes 4 late ++ zeros 12)))

-- the rules of an image but for the candidates: its first byte alone, so that images can be small
abbrev pub at_the_start : (image : List ℕ) → Rules
at_the_start image = record { kind = psp_kind; limit = 512; window = length image; candidates = window_start (length image) ∷ [] }

abbrev pub fields : (class mode location size : ℕ) → Fields
fields class mode location size = record { class = class; subprogram = 0; size = size; location = location; mode = mode }

-- level one, at 36, with one entry of type 0x40: 68 bytes in all
abbrev pub leading : (mode location : ℕ) → List ℕ
leading mode location = efs 0 36 ++ directory_with one 0 1 0 (entry_bytes (fields 0x40 mode location 0))

-- a level, and an image
abbrev pub flash_rows : List (Row (ℕ × List ℕ))
flash_rows =
    row (0, []) 9  -- 9 before 15
    ∷ row (3, []) 9
    ∷ row (1, []) 15  -- 15 before 2
    ∷ row (1, zeros 36) 2  -- 2 before 8
    ∷ row (1, take 35 (efs 0 36)) 2  -- and before 7
    ∷ row (1, efs 0xFFFF_FFFF 0) 8
    ∷ row (1, efs 35 0x0100_0000) 7  -- the pointer at 0x14 decides, though it is bad
    ∷ row (1, efs 35 0xFF00_0000) 7
    ∷ row (1, efs 35 0xFFFF_FFDB) 7  -- just below the window of 36 bytes
    ∷ row_in (1, efs 0 0xFFFF_FFDC) 2 (in_header 1 0)  -- the EFS is no directory
    ∷ row_in (1, efs 0 0xFFFF_FFFE) 1 (in_header 1 34)
    ∷ row (1, efs 0 36) 7  -- 7 before 1
    ∷ row_in (1, efs 0 35) 1 (in_header 1 35)
    ∷ row_in (1, efs 35 0xFFFF_FFFF) 1 (in_header 1 35)
    ∷ row (1, efs 0 36 ++ directory_with one 0 0 0 []) 0
    ∷ row (1, efs 0 0xFFFF_FFF0 ++ directory_with one 0 0 0 []) 0
    ∷ row_in (2, efs 0 36 ++ directory_with one 1 0 0 []) 4 (in_header 1 36)  -- level one's numbers before 8
    ∷ row (2, efs 0 36 ++ directory_with one 0 0 0 []) 8
    ∷ row_in (2, leading 3 69) 16 (in_entry 1 0 36)  -- 16 before 7
    ∷ row_in (2, leading 1 69) 7 (in_entry 1 0 36)  -- 7 before 1
    ∷ row_in (2, leading 1 68) 1 (in_header 2 68)
    ∷ row_in (2, leading 0 0xFFFF_FFBB) 7 (in_entry 1 0 36)  -- just below the window of 68 bytes
    ∷ row_in (2, leading 0 0xFFFF_FFBC) 2 (in_header 2 0)
    ∷ row_in (2, leading 0 0xFFFF_FFFF) 1 (in_header 2 67)
    ∷ row_in (2, leading 0 0x1_0000_0000) 7 (in_entry 1 0 36)
    ∷ row_in (2, leading 2 0) 2 (in_header 2 36)  -- it leads to level one
    ∷ row (2, leading 2 32 ++ directory_with two 0 0 0 []) 0
    ∷ row (2, leading 0 0xFFFF_FFF0 ++ directory_with two 0 0 0 []) 0
    ∷ row_in (2, leading 1 68 ++ directory_with two 0 1 0 (entry_with 0x40 0)) 14 (in_entry 2 0 68)  -- level two's entry, not the one that led there
    ∷ []

-- ---- where the bytes of an entry lie: an index, and an entry that stands twice in 48 bytes, as the only one of a directory and behind it
abbrev pub twice : Fields → List ℕ
twice f = zeros 16 ++ (entry_bytes f ++ entry_bytes f)

abbrev pub part_rows : List (Row (ℕ × Fields))
part_rows =
    row (1, fields 0x0B 3 49 0) 8  -- 8 before 17
    ∷ row_in (0, fields 0x0B 3 49 0) 17 (in_entry 1 0 0)  -- 17 before 16
    ∷ row_in (0, fields 1 3 49 0) 16 (in_entry 1 0 0)  -- 16 before 7
    ∷ row_in (0, fields 1 1 49 0) 7 (in_entry 1 0 0)
    ∷ row (0, fields 1 1 48 0) 0
    ∷ row (0, fields 1 1 47 1) 0
    ∷ row_in (0, fields 1 1 47 2) 7 (in_entry 1 0 0)
    ∷ row_in (0, fields 1 0 0xFF00_0000 0) 7 (in_entry 1 0 0)
    ∷ row_in (0, fields 1 0 0xFFFF_FFCF 0) 7 (in_entry 1 0 0)  -- just below the window of 48 bytes
    ∷ row (0, fields 1 0 0xFFFF_FFD0 48) 0
    ∷ row_in (0, fields 1 0 0xFFFF_FFD0 49) 7 (in_entry 1 0 0)
    ∷ row (0, fields 1 0 0xFFFF_FFFF 1) 0
    ∷ row_in (0, fields 1 0 0x1_0000_0000 0) 7 (in_entry 1 0 0)
    ∷ row_in (0, fields 1 2 49 0) 7 (in_entry 1 0 0)
    ∷ []

-- ---- a view's image and place
abbrev pub place_rows : List (Row (List ℕ × ℕ))
place_rows =
    row ([], 1) 15  -- 15 before 7
    ∷ row (zeros 16, 17) 7  -- 7 before 1
    ∷ row_in (zeros 16, 16) 1 (in_header 0 16)  -- 1 before 2, and no cookie is looked at
    ∷ row_in (zeros 16, 0) 2 (in_header 0 0)
    ∷ row_in (directory_with two 1 0 0 [], 0) 4 (in_header 2 0)  -- the level by the cookie
    ∷ row_in (zeros 1 ++ directory_with one 0 1 0 (entry_with 1 1), 1) 5 (in_entry 1 0 1)
    ∷ row (directory_with two 0 0 0 [], 0) 0
    ∷ []

-- ---- writing: a level and a buffer
abbrev pub start_rows : List (Row (ℕ × List ℕ))
start_rows =
    row (0, []) 9  -- 9 before 12
    ∷ row (3, []) 9
    ∷ row (1, zeros 15) 12
    ∷ row (2, zeros 16) 0
    ∷ []

-- an entry and a buffer
abbrev pub extend_rows : List (Row (Fields × List ℕ))
extend_rows =
    row_in (fields 1 0 (2 ^ 62) 0, zeros 16) 2 (in_header 0 0)  -- the directory's numbers before 5
    ∷ row_in (fields 1 0 (2 ^ 62) 0, directory_with two 0 1 0 (entry_with 0x40 0)) 14 (in_entry 2 0 0)
    ∷ row (fields 0x40 0 (2 ^ 62) 0, directory_with two 0 0 0 []) 5  -- 5 before 14
    ∷ row (fields 0x40 4 0 0, directory_with two 0 0 0 []) 5
    ∷ row (fields 0x40 3 0 0, directory_with two 0 0 0 []) 14  -- 14 before 12
    ∷ row (fields 0x40 3 0 0, directory_with one 0 0 0 []) 12
    ∷ row (fields 1 3 (2 ^ 62 - 1) 0, directory_with two 0 0 0 (zeros 15)) 12
    ∷ row (fields 1 3 (2 ^ 62 - 1) 0, directory_with two 0 0 0 [] ++ zeros 16) 0
    ∷ []

-- an entry for a level two, the length of a buffer of zeros, and the total
abbrev pub room_rows : List (Row (Fields × ℕ × ℕ))
room_rows =
    row (fields 0x40 0 0 0, 0, 512) 14  -- 14 before 3
    ∷ row (fields 0 0 0 0, 0, 512) 18  -- 18 before 3
    ∷ row (fields 1 0 0 0, 0, 512) 3  -- 3 before 12
    ∷ row (fields 1 0 0 0, 0, 511) 12
    ∷ row (fields 1 0 0 0, 47, 1) 12
    ∷ row (fields 1 0 0 0, 48, 1) 0
    ∷ []

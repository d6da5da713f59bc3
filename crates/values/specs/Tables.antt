-- ASPTs and GUID tables at which two neighbouring checks fail, or one alone, with the number that is due: the rows of what is stated in Orders.antt. Assumes nothing: these are definitions.
use Rattle.std.specs.Prelude.{ℕ, ◌+◌, ◌-◌, ◌%◌, ◌^◌, List, [], ◌∷◌, ◌++◌, replicate}
use Rattle.le.specs.Le.{le_bytes, put_bytes, put_at}
use Rattle.aspt.specs.Rules.{sum_of}
use Rattle.aspt_build.specs.Write.{table_bytes}
use Rattle.aspt.specs.declared.Structure.{Structure}
use Rattle.aspt.specs.declared.Table.{Table}
use Rattle.guids.specs.Table.{footer, end_bytes}
use Rattle.values.specs.Images.{Row, row, zeros}

-- ---- an ASPT of one page, with structures of type 1, 0 and 2
abbrev pub structure : (type id register : ℕ) → Structure
structure type id register = record { class = type; id = id; first = register; second = 0; third = 0 }

abbrev pub table : (base : ℕ) → Structure → Table
table base first = record {
  oem_low = 0;
  oem_high = 0;
  oem_table = 0;
  oem_revision = 0;
  creator = 0;
  creator_revision = 0;
  base = base;
  pages = 1;
  first = first;
  second = structure 0 0 0;
  third = structure 2 0 0;
}

-- bytes at their places in a list of bytes
abbrev pub patched : List (ℕ × List ℕ) → List ℕ → List ℕ
patched [] s = s
patched ((at, bytes) ∷ others) s = patched others (put_bytes bytes s at)

-- its bytes with patches, and the checksum that they need, with so much added
abbrev pub aspt_with : (wrong : ℕ) → List (ℕ × List ℕ) → List ℕ
aspt_with wrong patches =
    let s = patched ((9, 0 ∷ []) ∷ patches) (table_bytes (table 0 (structure 1 1 0))) in
    put_at 1 ((256 - sum_of s % 256 + wrong) % 256) s 9

abbrev pub read_rows : List (Row (List ℕ))
read_rows =
    row (aspt_with 0 []) 0
    ∷ row (zeros 111) 1  -- 1 before 2
    ∷ row (aspt_with 0 ((0, 0x42 ∷ []) ∷ (4, 111 ∷ []) ∷ [])) 2  -- 2 before 3
    ∷ row (aspt_with 0 ((4, 111 ∷ []) ∷ (8, 1 ∷ []) ∷ [])) 3  -- 3 before 5
    ∷ row (aspt_with 1 ((8, 1 ∷ []) ∷ [])) 5  -- the revision's 5 before 4
    ∷ row (aspt_with 0 ((8, 1 ∷ []) ∷ [])) 5
    ∷ row (aspt_with 1 ((36, 1 ∷ []) ∷ [])) 4  -- 4 before the base's 5
    ∷ row (aspt_with 0 ((36, 1 ∷ []) ∷ (48, 2 ∷ []) ∷ [])) 5  -- the base's 5 before 3
    ∷ row (aspt_with 0 ((36, le_bytes 8 (2 ^ 64 - 4096)) ∷ (44, 2 ∷ []) ∷ (48, 2 ∷ []) ∷ [])) 5  -- the end's 5 before 3
    ∷ row (aspt_with 0 ((36, le_bytes 8 (2 ^ 64 - 4096)) ∷ [])) 0
    ∷ row (aspt_with 0 ((48, 2 ∷ []) ∷ (54, 19 ∷ []) ∷ [])) 3  -- 3 before 6
    ∷ row (aspt_with 0 ((54, 19 ∷ []) ∷ (57, 1 ∷ []) ∷ [])) 6  -- the length's 6 before 5
    ∷ row (aspt_with 0 ((52, 3 ∷ []) ∷ (57, 1 ∷ []) ∷ [])) 6  -- the type's 6 before 5
    ∷ row (aspt_with 0 ((72, 1 ∷ []) ∷ (77, 1 ∷ []) ∷ [])) 6  -- the 6 of a type seen before 5
    ∷ row (aspt_with 0 ((57, 1 ∷ []) ∷ (60, le_bytes 4 4093) ∷ [])) 5  -- the reserved bytes' 5 before 7
    ∷ row (aspt_with 0 ((56, 2 ∷ []) ∷ (60, le_bytes 4 4093) ∷ [])) 5  -- the ID's 5 before 7
    ∷ row (aspt_with 0 ((60, le_bytes 4 4093) ∷ (74, 19 ∷ []) ∷ [])) 7  -- one structure before the next
    ∷ row (aspt_with 0 ((60, le_bytes 4 4092) ∷ [])) 0
    ∷ []

-- a table to be written, and a buffer's length
abbrev pub write_rows : List (Row (Table × ℕ))
write_rows =
    row (table 1 (structure 3 1 0), 112) 5  -- the base's 5 before 6
    ∷ row (table 0 (structure 3 1 4093), 112) 6  -- 6 before 7
    ∷ row (table 0 (structure 1 2 4093), 112) 5  -- the ID's 5 before 7
    ∷ row (table 0 (structure 1 1 4093), 111) 7  -- 7 before 12
    ∷ row (table 0 (structure 1 1 4092), 111) 12
    ∷ row (table 0 (structure 1 1 4092), 112) 0
    ∷ []

-- ---- a GUID table: what stands before it, a total, and 32 bytes behind
abbrev pub guids_with : List ℕ → (total : ℕ) → List ℕ
guids_with front total = front ++ (end_bytes total footer ++ zeros 32)

abbrev pub guid_rows : List (Row (List ℕ))
guid_rows =
    row (zeros 49) 1  -- 1 before 2
    ∷ row (zeros 50) 2  -- 2 before 3
    ∷ row (guids_with [] 17) 3
    ∷ row (guids_with [] 19) 3  -- 3 before 6
    ∷ row (guids_with (zeros 1) 19) 6
    ∷ row (guids_with (zeros 18) 36) 6
    ∷ row (guids_with (17 ∷ zeros 17) 36) 6
    ∷ row (guids_with (19 ∷ zeros 17) 36) 6
    ∷ row (guids_with (18 ∷ zeros 17) 36) 0
    ∷ row (guids_with [] 18) 0
    ∷ []

abbrev pub guid_start_rows : List (Row (List ℕ))
guid_start_rows = row (zeros 49) 12 ∷ row (zeros 50) 0 ∷ []

-- an image, the bytes of an entry, and the new total
abbrev pub guid_room_rows : List (Row (List ℕ × ℕ × ℕ))
guid_room_rows =
    row (zeros 50, 18, 65_536) 3  -- 3 before 12
    ∷ row (replicate 50 1, 18, 36) 12  -- 12 before 13
    ∷ row (replicate 68 1, 18, 36) 13
    ∷ row (zeros 68, 18, 36) 0
    ∷ []

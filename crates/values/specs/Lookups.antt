-- Lookups in a level and in the whole image, at which two neighbouring checks fail, or a fault stands before or behind a match, with the whole answer that is due: rows of what is stated in Orders.antt. Assumes nothing: these are definitions.
use Rattle.std.specs.Prelude.{ℕ, List, [], ◌∷◌, ◌++◌}
use Rattle.reply.specs.Reply.{Reply, given, refused, alone, tested, in_header, in_entry}
use Rattle.entries.specs.declared.Match.{Match}
use Rattle.walk.specs.declared.ImageMatch.{ImageMatch}
use Rattle.build.specs.Write.{entry_bytes}
use Rattle.values.specs.Images.{zeros, one, two, directory_with, entry_with, efs}

-- what is looked for, and the answer that is due
pub record Sought (A B : Type 0) : Type 0 where
  pub input : A
  pub due : B

abbrev pub sought : {A B : Type 0} → A → B → Sought A B
sought input due = record { input = input; due = due }

-- ---- images: level one at 36, and what stands behind it: at 68 behind one entry, at 84 behind two
abbrev pub one_with : (total : ℕ) → (entries : List ℕ) → List ℕ
one_with total entries = efs 0 36 ++ directory_with one 0 total 0 entries

abbrev pub two_with : (total : ℕ) → (entries : List ℕ) → List ℕ
two_with total entries = directory_with two 0 total 0 entries

-- an entry of a type, and one of type 0x40 with a subprogram, a mode and a location
abbrev pub plain : (class : ℕ) → List ℕ
plain class = entry_with class 0

abbrev pub lead : (sub mode location : ℕ) → List ℕ
lead sub mode location = entry_bytes (record { class = 0x40; subprogram = sub; size = 0; location = location; mode = mode })

-- ---- in a level: the level, the image, the type
abbrev pub in_level : (index count : ℕ) → Reply Match
in_level index count = given (record { index = index; tested = count })

abbrev pub find_rows : List (Sought (ℕ × List ℕ × ℕ) (Reply Match))
find_rows =
    sought (0, [], 1) (refused 9 alone)  -- 9 before 15
    ∷ sought (3, [], 1) (refused 9 alone)
    ∷ sought (1, [], 1) (refused 15 alone)  -- 15 before 2
    ∷ sought (1, zeros 36, 1) (refused 2 alone)
    ∷ sought (1, efs 0xFFFF_FFFF 0, 1) (refused 8 (tested 0))  -- no pointer
    ∷ sought (1, efs 35 0x0100_0000, 1) (refused 7 alone)
    ∷ sought (1, efs 0 35, 1) (refused 1 (in_header 1 35))  -- level one's numbers
    ∷ sought (1, one_with 2 (plain 1 ++ entry_with 2 1), 1) (refused 5 (in_entry 1 1 36))  -- also for a fault behind the match
    ∷ sought (1, one_with 2 (plain 1 ++ plain 2), 1) (in_level 0 1)
    ∷ sought (1, one_with 2 (plain 1 ++ plain 2), 2) (in_level 1 2)
    ∷ sought (1, one_with 2 (plain 1 ++ plain 2), 3) (refused 8 (tested 2))
    ∷ sought (2, one_with 1 (plain 1), 1) (refused 8 (tested 0))  -- no lead
    ∷ sought (2, one_with 1 (lead 0 3 69), 1) (refused 16 (in_entry 1 0 36))  -- 16 before 7
    ∷ sought (2, one_with 1 (lead 0 1 69), 1) (refused 7 (in_entry 1 0 36))
    ∷ sought (2, one_with 1 (lead 0 1 68) ++ two_with 1 (plain 1), 1) (in_level 0 1)
    ∷ sought (2, one_with 1 (lead 0 1 68) ++ two_with 1 (plain 1), 2) (refused 8 (tested 1))
    ∷ []

-- ---- in the whole image: the image, the type and the subprogram
abbrev pub in_image : (place level index count : ℕ) → Reply ImageMatch
in_image place level index count = given (record { place = record { 0 = place }; level = level; index = index; tested = count })

-- a lead, then type 1
abbrev pub lead_then_one : (mode location : ℕ) → List ℕ
lead_then_one mode location = one_with 2 (lead 0 mode location ++ plain 1)

-- two leads to level two at 84, with subprograms 0 and 1
abbrev pub two_leads : (mode : ℕ) → List ℕ
two_leads mode = one_with 2 (lead 0 1 84 ++ lead 1 mode 84) ++ two_with 2 (plain 2 ++ plain 1)

abbrev pub find_image_rows : List (Sought (List ℕ × ℕ × ℕ) (Reply ImageMatch))
find_image_rows =
    sought ([], 1, 0) (refused 15 alone)  -- 15 before 2
    ∷ sought (zeros 36, 1, 0) (refused 2 alone)
    ∷ sought (efs 0xFFFF_FFFF 0, 1, 0) (refused 8 (tested 0))  -- no pointer
    ∷ sought (efs 35 0x0100_0000, 1, 0) (refused 7 alone)
    ∷ sought (efs 0 35, 1, 0) (refused 1 (in_header 1 35))  -- level one's numbers
    ∷ sought (one_with 2 (plain 1 ++ entry_with 2 1), 1, 0) (refused 5 (in_entry 1 1 36))  -- also for a fault behind the match
    ∷ sought (one_with 2 (plain 1 ++ plain 2), 2, 0) (in_image 36 1 1 2)
    ∷ sought (one_with 2 (plain 1 ++ plain 2), 2, 1) (refused 8 (tested 2))
    -- a lead at fault: before the match it is the answer, behind the match it is not met
    ∷ sought (lead_then_one 3 85, 1, 0) (refused 16 (in_entry 1 0 36))  -- 16 before 7
    ∷ sought (lead_then_one 1 85, 1, 0) (refused 7 (in_entry 1 0 36))  -- 7 before 1
    ∷ sought (lead_then_one 0 0xFFFF_FFAB, 1, 0) (refused 7 (in_entry 1 0 36))  -- just below the window of 84 bytes
    ∷ sought (lead_then_one 1 84, 1, 0) (refused 1 (in_header 2 84))  -- level two's numbers
    ∷ sought (lead_then_one 2 0, 1, 0) (refused 2 (in_header 2 36))
    ∷ sought (lead_then_one 2 48 ++ directory_with two 1 0 0 [], 1, 0) (refused 4 (in_header 2 84))
    ∷ sought (one_with 2 (plain 1 ++ lead 0 3 0), 1, 0) (in_image 36 1 0 1)
    ∷ sought (one_with 2 (plain 1 ++ lead 0 3 0), 2, 0) (refused 16 (in_entry 1 1 36))
    -- a lead is tested before what it leads to
    ∷ sought (lead_then_one 3 0, 0x40, 0) (in_image 36 1 0 1)
    ∷ sought (lead_then_one 3 0, 0x40, 1) (refused 16 (in_entry 1 0 36))  -- another subprogram: it is entered
    -- level two before the next entry of level one
    ∷ sought (lead_then_one 1 84 ++ two_with 2 (plain 2 ++ plain 1), 1, 0) (in_image 84 2 1 3)
    ∷ sought (lead_then_one 1 84 ++ two_with 2 (plain 2 ++ plain 3), 1, 0) (in_image 36 1 1 4)
    ∷ sought (lead_then_one 1 84 ++ two_with 2 (plain 2 ++ plain 3), 4, 0) (refused 8 (tested 4))
    ∷ sought (lead_then_one 1 84 ++ two_with 2 (plain 1 ++ entry_with 2 1), 1, 0) (refused 5 (in_entry 2 1 84))  -- a fault behind the match
    ∷ sought (lead_then_one 1 84 ++ two_with 0 [], 1, 0) (in_image 36 1 1 2)
    -- a directory entered twice counts twice; one that is not yet entered is not checked
    ∷ sought (two_leads 1, 3, 0) (refused 8 (tested 6))
    ∷ sought (two_leads 1, 0x40, 1) (in_image 36 1 1 4)
    ∷ sought (two_leads 3, 1, 0) (in_image 84 2 1 3)
    ∷ sought (two_leads 3, 3, 0) (refused 16 (in_entry 1 1 36))
    ∷ []

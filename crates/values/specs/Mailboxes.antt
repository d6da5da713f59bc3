-- Mailboxes and command words at which two neighbouring checks fail, or one alone, with the number or status that is due: the rows of what is stated in Orders.antt. Assumes nothing: these are definitions.
use Rattle.std.specs.Prelude.{ℕ, ◌-◌, Bool, true, false, List, Some, [], ◌∷◌, ◌++◌, map, length, replicate, take}
use Rattle.reply.specs.Reply.{Reply, given, refused}
use Rattle.firmware.specs.Rules.{fresh_firmware, interface_off, holding, saving, run_of}
use Rattle.firmware.specs.declared.Firmware.{Firmware}
use Rattle.mailbox.specs.Machine.{no_post, post_by, place_with, mailbox_before, fresh_mailbox, joined, handed_over}
use Rattle.mailbox.specs.declared.Phase.{Phase}
use Rattle.mailbox.specs.declared.Phase.TheVariants.{Idle, Command, Response}
use Rattle.mailbox.specs.declared.PlaceState.{PlaceState}
use Rattle.mailbox.specs.declared.PlaceState.TheVariants.{Free, Waiting, Ready}
use Rattle.mailbox.specs.declared.Post.{Post}
use Rattle.mailbox.specs.declared.Mailbox.{Mailbox}
use Rattle.values.specs.Images.{Row, row}

-- caller 0 waits; caller 0 stands in line twice, which breaks the rules; a word is ready for caller 0
abbrev pub waits : Mailbox
waits = joined fresh_mailbox 0 0x80 0

abbrev pub broken : Mailbox
broken = joined waits 0 0x80 0

abbrev pub ready : Mailbox
ready = handed_over fresh_mailbox 0 0x8080_0000

-- ---- which mailboxes keep the rules
-- the register, how many posts wait, what stands in the first slots of the line, and in the first places
abbrev pub mailbox_with : (register : Phase) (count : ℕ) (posts : List Post) (states : List PlaceState) → Mailbox
mailbox_with register count posts states = record {
  register = register;
  count = count;
  line = posts ++ replicate (8 - length posts) no_post;
  places = map place_with (states ++ replicate (8 - length states) Free);
  firmware = fresh_firmware;
}

abbrev pub post_of0 : Post
post_of0 = post_by 0 0x80 0

-- posts of callers 0 to 7
abbrev pub eight : List Post
eight = map (λ caller. post_by caller 0x3FF 0xFFFF) (0 ∷ 1 ∷ 2 ∷ 3 ∷ 4 ∷ 5 ∷ 6 ∷ 7 ∷ [])

-- caller 7 alone waits
abbrev pub seven_waits : List PlaceState
seven_waits = replicate 7 Free ++ (Waiting ∷ [])

-- one rule broken, or none
abbrev pub consistent_rows : List (Row Mailbox)
consistent_rows =
    row fresh_mailbox 0
    ∷ row (mailbox_with Idle 8 eight (replicate 8 Waiting)) 0  -- eight in line, with the largest command
    ∷ row (mailbox_with Idle 9 eight (replicate 8 Waiting)) 5  -- nine
    ∷ row (mailbox_with Idle 1 (post_by 7 0x80 0 ∷ []) seven_waits) 0
    ∷ row (mailbox_with Idle 1 (post_by 8 0x80 0 ∷ []) []) 5  -- a caller 8 in line
    ∷ row (mailbox_with Idle 1 (post_by 0 0x400 0 ∷ []) (Waiting ∷ [])) 5  -- a command above 0x3FF in line
    ∷ row (mailbox_with Idle 0 (post_by 8 0x400 0 ∷ []) []) 0  -- anything in a slot that is not in use
    ∷ row (mailbox_with Idle 1 (post_of0 ∷ post_of0 ∷ []) (Waiting ∷ [])) 0
    ∷ row (mailbox_with (Command 7 0x3FF_FFFF) 0 [] seven_waits) 0
    ∷ row (mailbox_with (Command 8 0x80_0000) 0 [] []) 5  -- a caller 8 in the register
    ∷ row (mailbox_with (Response 7 0xFFFF_FFFF) 0 [] seven_waits) 0  -- any word for a response
    ∷ row (mailbox_with (Response 7 0) 0 [] seven_waits) 0
    ∷ row (mailbox_with (Response 8 0) 0 [] []) 5
    ∷ row (mailbox_with (Command 0 0x400_0000) 0 [] (Waiting ∷ [])) 5  -- bit 26 of a command word, and each above it
    ∷ row (mailbox_with (Command 0 0x800_0000) 0 [] (Waiting ∷ [])) 5
    ∷ row (mailbox_with (Command 0 0x1000_0000) 0 [] (Waiting ∷ [])) 5
    ∷ row (mailbox_with (Command 0 0x2000_0000) 0 [] (Waiting ∷ [])) 5
    ∷ row (mailbox_with (Command 0 0x4000_0000) 0 [] (Waiting ∷ [])) 5
    ∷ row (mailbox_with (Command 0 0x8000_0000) 0 [] (Waiting ∷ [])) 5
    ∷ row (mailbox_with Idle 2 (post_of0 ∷ post_of0 ∷ []) (Waiting ∷ [])) 5  -- a caller twice in line
    ∷ row (mailbox_with (Command 0 0) 1 (post_of0 ∷ []) (Waiting ∷ [])) 5  -- in line and in the register
    ∷ row (mailbox_with (Response 0 0) 1 (post_of0 ∷ []) (Waiting ∷ [])) 5
    ∷ row (mailbox_with (Command 1 0) 1 (post_of0 ∷ []) (Waiting ∷ Waiting ∷ [])) 0
    ∷ row (mailbox_with Idle 1 (post_of0 ∷ []) []) 5  -- in line with its place free, and with its place ready
    ∷ row (mailbox_with Idle 1 (post_of0 ∷ []) (Ready 0 ∷ [])) 5
    ∷ row (mailbox_with (Command 0 0) 0 [] []) 5  -- the same in the register
    ∷ row (mailbox_with (Command 0 0) 0 [] (Ready 0 ∷ [])) 5
    ∷ row (mailbox_with (Response 0 0) 0 [] []) 5
    ∷ row (mailbox_with (Response 0 0) 0 [] (Ready 0 ∷ [])) 5
    ∷ row (mailbox_with Idle 0 [] (Waiting ∷ [])) 5  -- waiting with no post
    ∷ row (mailbox_with (Command 1 0) 0 [] (Waiting ∷ Waiting ∷ [])) 5
    ∷ row (mailbox_with Idle 0 [] (replicate 8 (Ready 0xFFFF_FFFF))) 0
    ∷ row (mailbox_before (holding fresh_firmware (Some 1) (Some 2) (Some 3))) 0  -- nothing is asked of the firmware
    ∷ []

-- ---- the calls
-- a mailbox, a caller and a command
abbrev pub post_rows : List (Row (Mailbox × ℕ × ℕ))
post_rows =
    row (broken, 8, 0x400) 5  -- 5 before 9
    ∷ row (broken, 0, 0) 5  -- and before 10
    ∷ row (fresh_mailbox, 8, 0) 9
    ∷ row (fresh_mailbox, 8, 0x400) 9  -- 9 for the caller before 9 for the command
    ∷ row (fresh_mailbox, 7, 0x400) 9
    ∷ row (waits, 0, 0x400) 9  -- 9 before 10
    ∷ row (waits, 0, 0x3FF) 10
    ∷ row (ready, 0, 0x3FF) 10
    ∷ row (mailbox_with (Response 0 0) 0 [] (Waiting ∷ []), 0, 0) 10
    ∷ row (waits, 7, 0x3FF) 0
    ∷ row (mailbox_with Idle 7 (take 7 eight) (replicate 7 Waiting), 7, 0x3FF) 0  -- the eighth in line
    ∷ []

-- a mailbox and a caller
abbrev pub take_rows : List (Row (Mailbox × ℕ))
take_rows =
    row (broken, 8) 5  -- 5 before 9
    ∷ row (broken, 1) 5  -- and before 8
    ∷ row (broken, 0) 5  -- and before 11
    ∷ row (waits, 8) 9
    ∷ row (waits, 1) 8
    ∷ row (ready, 1) 8  -- another's word
    ∷ row (waits, 0) 11
    ∷ row (mailbox_with (Response 0 0) 0 [] (Waiting ∷ []), 0) 11  -- a response, not unloaded yet
    ∷ row (ready, 0) 0
    ∷ []

-- what a load, a turn or an unload answers: 1 for yes, 0 for no, or its number
abbrev pub step_number : Reply Bool → ℕ
step_number (given true) = 1
step_number (given false) = 0
step_number (refused number carried) = number

-- a post of caller 1 in line, beside this register and this state of caller 0's place
abbrev pub holds : (register : Phase) (state : PlaceState) → Mailbox
holds register state = mailbox_with register 1 (post_by 1 0x80 0 ∷ []) (state ∷ Waiting ∷ [])

abbrev pub load_rows : List (Row Mailbox)
load_rows =
    row (holds Idle Waiting) 5  -- 5 before yes
    ∷ row (holds (Command 0 0) Free) 5  -- 5 before no
    ∷ row (holds Idle Free) 1
    ∷ row (holds (Command 0 0) Waiting) 0
    ∷ row (holds (Response 0 0) Waiting) 0
    ∷ row fresh_mailbox 0
    ∷ []

abbrev pub turn_rows : List (Row Mailbox)
turn_rows =
    row (holds (Command 0 0) Free) 5  -- 5 before yes
    ∷ row (holds (Response 0 0) Free) 5  -- 5 before no
    ∷ row (holds (Command 0 0) Waiting) 1
    ∷ row (holds (Response 0 0) Waiting) 0
    ∷ row (holds Idle Free) 0
    ∷ []

abbrev pub unload_rows : List (Row Mailbox)
unload_rows =
    row (holds (Response 0 0) Free) 5  -- 5 before yes
    ∷ row (holds (Command 0 0) Free) 5  -- 5 before no
    ∷ row (holds (Response 0 0) Waiting) 1
    ∷ row (holds (Command 0 0) Waiting) 0
    ∷ row (holds Idle Free) 0
    ∷ []

-- a firmware's state and a command word, and the status of its response
abbrev pub status_rows : List (Row (Firmware × ℕ))
status_rows =
    row (fresh_firmware, 0x0085_0403) 3  -- 3 before 0x1F
    ∷ row (interface_off fresh_firmware, 0x0085_0403) 0x1F  -- 0x1F before 2
    ∷ row (interface_off fresh_firmware, 0x0085_0600) 0x1F  -- bit 9
    ∷ row (interface_off fresh_firmware, 0x0085_0401) 2
    ∷ row (interface_off fresh_firmware, 0x0085_0400) 2  -- for disabling too
    ∷ row (saving (interface_off fresh_firmware) 0 0 0x400, 0x0085_0401) 0
    ∷ row (fresh_firmware, 0x0086_0000) 1
    ∷ row ((run_of (holding (interface_off fresh_firmware) (Some 0) (Some 0) (Some 0x400)) 0x0082_0000).firmware, 0x0085_0401) 0  -- all three held: the next that comes is saved with them
    ∷ []

-- The firmware's rules of document 01, "Mailbox": the fresh state and one command. Assumes nothing: these are definitions.
use Rattle.std.specs.Prelude.{true, false, cond, not, ℕ, ◌/◌, ◌%◌, replicate, get_or, set, eqb, Option, Some, None}
use Rattle.firmware.specs.Word.{command_in, data_in, word_of}
use Rattle.firmware.specs.declared.Descriptor.{Descriptor}
use Rattle.firmware.specs.declared.Status.{Status}
use Rattle.firmware.specs.declared.Status.TheVariants.{Success, UnknownCommand, NoDescriptor, InterfaceOn, BitsSet}
use Rattle.firmware.specs.declared.Interrupt.{Interrupt}
use Rattle.firmware.specs.declared.Firmware.{Firmware}
use Rattle.firmware.specs.declared.Ran.{Ran}

-- ---- the fresh state
-- what is kept for an ID at first: no descriptor, and no delivery
abbrev pub nothing : Interrupt
nothing = record { descriptor = None; delivery = false }

-- the interface on, no part held, nothing kept for any ID
abbrev pub fresh_firmware : Firmware
fresh_firmware = record { interface = true; part1 = None; part2 = None; part3 = None; interrupts = replicate 64 nothing }

-- ---- how a command went, by number
abbrev pub status_number : Status → ℕ
status_number Success = 0
status_number UnknownCommand = 1
status_number NoDescriptor = 2
status_number InterfaceOn = 3
status_number BitsSet = 0x1F

-- ---- what a command comes to: the state after it, and the response with a status, the command and data
abbrev pub answers : Firmware → (status command d : ℕ) → Ran
answers f status command d = record { firmware = f; word = word_of 1 status command d }

-- ---- 0x80: the interface off
abbrev pub interface_off : Firmware → Firmware
interface_off f = record { interface = false; part1 = f.part1; part2 = f.part2; part3 = f.part3; interrupts = f.interrupts }

-- ---- 0x82, 0x83, 0x84: a part comes
-- the ID in bits 15:10, and what is kept for it
abbrev pub id_in : (d : ℕ) → ℕ
id_in d = d / 1024 % 64

abbrev pub kept_for : Firmware → (id : ℕ) → Interrupt
kept_for f id = get_or f.interrupts id nothing

-- these parts held
abbrev pub holding : Firmware → (one two three : Option ℕ) → Firmware
holding f one two three = record { interface = f.interface; part1 = one; part2 = two; part3 = three; interrupts = f.interrupts }

-- the three parts saved as the descriptor of the ID in part 3, whose delivery is as it was; no part is held any more
abbrev pub saving : Firmware → (one two three : ℕ) → Firmware
saving f one two three = record {
  interface = f.interface;
  part1 = None;
  part2 = None;
  part3 = None;
  interrupts = set f.interrupts (id_in three) (record { descriptor = Some (record { part1 = one; part2 = two; part3 = three }); delivery = (kept_for f (id_in three)).delivery });
}

-- what comes where a part is held, and where it is not
abbrev pub when_held : Option ℕ → (some : ℕ → Firmware) (none : Firmware) → Firmware
when_held (Some value) some none = some value
when_held None some none = none

-- once all three are there, in whatever order they came, they are saved
unfoldable pub settled_of : Firmware → Firmware
settled_of f =
    when_held f.part1 (λ one. when_held f.part2 (λ two. when_held f.part3 (λ three. saving f one two three) f) f) f

-- ---- 0x85: delivery
-- what comes where no descriptor is saved, and where one is
abbrev pub when_saved : {A : Type 0} → Option Descriptor → (none some : A) → A
when_saved None none some = none
when_saved (Some descriptor) none some = some

-- the delivery of the ID in bits 15:10 is as bit 0 says
abbrev pub delivering : Firmware → (d : ℕ) → Firmware
delivering f d = record {
  interface = f.interface;
  part1 = f.part1;
  part2 = f.part2;
  part3 = f.part3;
  interrupts = set f.interrupts (id_in d) (record { descriptor = (kept_for f (id_in d)).descriptor; delivery = eqb (d % 2) 1 });
}

unfoldable pub delivery_of : Firmware → (d : ℕ) → Ran
delivery_of f d =
    cond f.interface (answers f 3 0x85 d)  -- interface on: status 3
    (cond (not (eqb (d / 2 % 512) 0)) (answers f 0x1F 0x85 d)  -- else bits 9:1 not zero: 0x1F
    (when_saved (kept_for f (id_in d)).descriptor (answers f 2 0x85 d)  -- else no descriptor under that ID: 2
    (answers (delivering f d) 0 0x85 d)))  -- else success, with delivery as bit 0 says

-- ---- the rules by command
unfoldable pub rule_of : Firmware → (command d : ℕ) → Ran
rule_of f command d =
    cond (eqb command 0x80) (answers (interface_off f) 0 command d)  -- the interface off
    (cond (eqb command 0x81) (answers f 0 command (cond f.interface 1 0))  -- data 1 for on, 0 for off
    (cond (eqb command 0x82) (answers (settled_of (holding f (Some d) f.part2 f.part3)) 0 command d)  -- part 1, in the place of one held
    (cond (eqb command 0x83) (answers (settled_of (holding f f.part1 (Some d) f.part3)) 0 command d)  -- part 2
    (cond (eqb command 0x84) (answers (settled_of (holding f f.part1 f.part2 (Some d))) 0 command d)  -- part 3
    (cond (eqb command 0x85) (delivery_of f d)  -- delivery
    (answers f 1 command d))))))  -- none of these: status 1

-- a command word run: the state after it, and its response
abbrev pub run_of : Firmware → (w : ℕ) → Ran
run_of f w = rule_of f (command_in w) (data_in w)

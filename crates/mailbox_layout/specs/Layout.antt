-- A mailbox as 88 words, and back. Word by word:
--   0 the register: 0 idle, 1 a command, 2 a response; 1 its caller and 2 its word, both 0 where it is idle;
--   3 how many posts are in the line; 4 the interface: 1 on, 0 off; 5 to 7 the parts: 0 for none, 2^16 + value for one that is held;
--   8 to 15 the line, oldest first: caller in bits 63:32, command in 31:16, data in 15:0;
--   16 to 23 the places of callers 0 to 7: 0 free, 2^32 waiting, 2 * 2^32 + w for the word w;
--   24 to 87 the IDs 0 to 63: bit 0 a descriptor is saved, bit 1 delivery is on, parts 1, 2, 3 in bits 31:16, 47:32, 63:48.
-- Assumes nothing: these are definitions.
use Rattle.std.specs.Prelude.{Bool, true, false, cond, List, [], ◌∷◌, ◌++◌, map, ℕ, zero, suc, ◌+◌, ◌*◌, ◌/◌, ◌%◌, get_or, eqb, Option, Some, None}
use Rattle.firmware.specs.declared.Descriptor.{Descriptor}
use Rattle.firmware.specs.declared.Interrupt.{Interrupt}
use Rattle.firmware.specs.declared.Firmware.{Firmware}
use Rattle.mailbox.specs.declared.Phase.{Phase}
use Rattle.mailbox.specs.declared.Phase.TheVariants.{Idle, Command, Response}
use Rattle.mailbox.specs.declared.PlaceState.{PlaceState}
use Rattle.mailbox.specs.declared.PlaceState.TheVariants.{Free, Waiting, Ready}
use Rattle.mailbox.specs.declared.Place.{Place}
use Rattle.mailbox.specs.declared.Post.{Post}
use Rattle.mailbox.specs.declared.Mailbox.{Mailbox}
use Rattle.mailbox.specs.Machine.{place_with}

-- where the line, the places and the interrupts begin, and how many words there are
abbrev pub start_of_line : ℕ
start_of_line = 8

abbrev pub start_of_places : ℕ
start_of_places = 16

abbrev pub start_of_interrupts : ℕ
start_of_interrupts = 24

abbrev pub words_of_mailbox : ℕ
words_of_mailbox = 88

-- f 0, f 1, up to f (n - 1)
unfoldable pub up_to : {A : Type 0} → (f : ℕ → A) (n : ℕ) → List A
up_to f zero = []
up_to f (suc n) = up_to f n ++ (f n ∷ [])

-- ---- to words
abbrev pub bit_of : (b : Bool) → ℕ
bit_of true = 1
bit_of false = 0

abbrev pub phase_word : (register : Phase) → ℕ
phase_word Idle = 0
phase_word (Command caller word) = 1
phase_word (Response caller word) = 2

abbrev pub caller_word : (register : Phase) → ℕ
caller_word Idle = 0
caller_word (Command caller word) = caller
caller_word (Response caller word) = caller

abbrev pub word_word : (register : Phase) → ℕ
word_word Idle = 0
word_word (Command caller word) = word
word_word (Response caller word) = word

abbrev pub part_word : (p : Option ℕ) → ℕ
part_word None = 0
part_word (Some value) = 0x1_0000 + value

abbrev pub post_word : (p : Post) → ℕ
post_word p = p.caller * 0x1_0000_0000 + p.command * 0x1_0000 + p.«data»

abbrev pub state_word : (state : PlaceState) → ℕ
state_word Free = 0
state_word Waiting = 0x1_0000_0000
state_word (Ready word) = 0x2_0000_0000 + word

abbrev pub place_word : (p : Place) → ℕ
place_word p = state_word p.state

abbrev pub saved_word : (delivery : Bool) → Option Descriptor → ℕ
saved_word delivery None = bit_of delivery * 2
saved_word delivery (Some d) = 1 + bit_of delivery * 2 + d.part1 * 0x1_0000 + d.part2 * 0x1_0000_0000 + d.part3 * 0x1_0000_0000_0000

abbrev pub interrupt_word : (i : Interrupt) → ℕ
interrupt_word i = saved_word i.delivery i.descriptor

-- the first eight words
abbrev pub head_of : (m : Mailbox) → List ℕ
head_of m =
    phase_word m.register
    ∷ caller_word m.register
    ∷ word_word m.register
    ∷ m.count
    ∷ bit_of m.firmware.interface
    ∷ part_word m.firmware.part1
    ∷ part_word m.firmware.part2
    ∷ part_word m.firmware.part3
    ∷ []

-- all of them: a mailbox of the code has 8 posts, 8 places and 64 interrupts, so there are 88
unfoldable pub pack_of : (m : Mailbox) → List ℕ
pack_of m = head_of m ++ (map post_word m.line ++ (map place_word m.places ++ map interrupt_word m.firmware.interrupts))

-- ---- from words, whatever they are; a missing word counts as 0
abbrev pub phase_from : (phase caller word : ℕ) → Phase
phase_from phase caller word =
    cond (eqb phase 0) Idle
    (cond (eqb phase 1) (Command (caller % 0x1_0000_0000) (word % 0x1_0000_0000))
    (Response (caller % 0x1_0000_0000) (word % 0x1_0000_0000)))

abbrev pub part_from : (word : ℕ) → Option ℕ
part_from word = cond (eqb (word / 0x1_0000) 0) None (Some (word % 0x1_0000))

abbrev pub post_from : (word : ℕ) → Post
post_from word = record { caller = word / 0x1_0000_0000 % 0x1_0000_0000; command = word / 0x1_0000 % 0x1_0000; «data» = word % 0x1_0000 }

abbrev pub state_from : (word : ℕ) → PlaceState
state_from word =
    cond (eqb (word / 0x1_0000_0000) 0) Free
    (cond (eqb (word / 0x1_0000_0000) 1) Waiting
    (Ready (word % 0x1_0000_0000)))

abbrev pub place_from : (word : ℕ) → Place
place_from word = place_with (state_from word)

abbrev pub saved_from : (word : ℕ) → Option Descriptor
saved_from word =
    cond (eqb (word % 2) 0) None
    (Some (record { part1 = word / 0x1_0000 % 0x1_0000; part2 = word / 0x1_0000_0000 % 0x1_0000; part3 = word / 0x1_0000_0000_0000 % 0x1_0000 }))

abbrev pub interrupt_from : (word : ℕ) → Interrupt
interrupt_from word = record { descriptor = saved_from word; delivery = eqb (word / 2 % 2) 1 }

abbrev pub post_at : (words : List ℕ) (i : ℕ) → Post
post_at words i = post_from (get_or words (start_of_line + i) 0)

abbrev pub place_at : (words : List ℕ) (i : ℕ) → Place
place_at words i = place_from (get_or words (start_of_places + i) 0)

abbrev pub interrupt_at : (words : List ℕ) (i : ℕ) → Interrupt
interrupt_at words i = interrupt_from (get_or words (start_of_interrupts + i) 0)

unfoldable pub firmware_from : (words : List ℕ) → Firmware
firmware_from words = record {
  interface = eqb (get_or words 4 0) 1;
  part1 = part_from (get_or words 5 0);
  part2 = part_from (get_or words 6 0);
  part3 = part_from (get_or words 7 0);
  interrupts = up_to (interrupt_at words) 64;
}

unfoldable pub unpack_of : (words : List ℕ) → Mailbox
unpack_of words = record {
  register = phase_from (get_or words 0 0) (get_or words 1 0) (get_or words 2 0);
  count = get_or words 3 0;
  line = up_to (post_at words) 8;
  places = up_to (place_at words) 8;
  firmware = firmware_from words;
}

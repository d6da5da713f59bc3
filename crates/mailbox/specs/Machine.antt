-- The mailbox of document 01: the fresh one, its parts, and what each call makes of it. Assumes nothing: these are definitions.
use Rattle.std.specs.Prelude.{Bool, true, false, List, [], ◌∷◌, ◌++◌, ℕ, ◌+◌, ◌-◌, replicate, get_or, set, take, drop}
use Rattle.firmware.specs.Word.{word_of}
use Rattle.firmware.specs.Rules.{fresh_firmware, run_of}
use Rattle.firmware.specs.declared.Firmware.{Firmware}
use Rattle.mailbox.specs.declared.Phase.TheVariants.{Idle, Command, Response}
use Rattle.mailbox.specs.declared.PlaceState.{PlaceState}
use Rattle.mailbox.specs.declared.PlaceState.TheVariants.{Free, Waiting, Ready}
use Rattle.mailbox.specs.declared.Place.{Place}
use Rattle.mailbox.specs.declared.Post.{Post}
use Rattle.mailbox.specs.declared.Mailbox.{Mailbox}

-- ---- posts
abbrev pub post_by : (caller command d : ℕ) → Post
post_by caller command d = record { caller = caller; command = command; «data» = d }

-- what an empty slot of the line holds
abbrev pub no_post : Post
no_post = post_by 0 0 0

-- the command word of a post
abbrev pub command_word : Post → ℕ
command_word p = word_of 0 0 p.command p.«data»

-- the accepted posts that wait, the oldest first
abbrev pub waiting : Mailbox → List Post
waiting m = take m.count m.line

-- ---- places
abbrev pub place_with : PlaceState → Place
place_with state = record { state = state }

-- what stands in a caller's place
abbrev pub state_at : (places : List Place) (caller : ℕ) → PlaceState
state_at places caller = (get_or places caller (place_with Free)).state

abbrev pub state_of : Mailbox → (caller : ℕ) → PlaceState
state_of m caller = state_at m.places caller

-- the caller has no untaken post
abbrev pub is_free : PlaceState → Bool
is_free Free = true
is_free Waiting = false
is_free (Ready word) = false

-- ---- the fresh mailbox
-- nothing in line, register and places, before this firmware
abbrev pub mailbox_before : Firmware → Mailbox
mailbox_before f = record { register = Idle; count = 0; line = replicate 8 no_post; places = replicate 8 (place_with Free); firmware = f }

abbrev pub fresh_mailbox : Mailbox
fresh_mailbox = mailbox_before fresh_firmware

-- ---- what the calls make of a mailbox
-- the post is the last in line, and its caller waits
abbrev pub joined : Mailbox → (caller command d : ℕ) → Mailbox
joined m caller command d = record {
  register = m.register;
  count = m.count + 1;
  line = set m.line m.count (post_by caller command d);
  places = set m.places caller (place_with Waiting);
  firmware = m.firmware;
}

-- the line without its oldest post
unfoldable pub shifted : (line : List Post) → List Post
shifted line = drop 1 line ++ (no_post ∷ [])

-- the register holds the command of the oldest post
abbrev pub with_oldest : Mailbox → Mailbox
with_oldest m = record {
  register = Command (get_or m.line 0 no_post).caller (command_word (get_or m.line 0 no_post));
  count = m.count - 1;
  line = shifted m.line;
  places = m.places;
  firmware = m.firmware;
}

-- the register holds the response, and the firmware is in the state after it
abbrev pub with_response : Mailbox → (caller word : ℕ) → Mailbox
with_response m caller word = record {
  register = Response caller (run_of m.firmware word).word;
  count = m.count;
  line = m.line;
  places = m.places;
  firmware = (run_of m.firmware word).firmware;
}

-- the word is ready in its caller's place, and the register is idle
abbrev pub handed_over : Mailbox → (caller word : ℕ) → Mailbox
handed_over m caller word = record {
  register = Idle;
  count = m.count;
  line = m.line;
  places = set m.places caller (place_with (Ready word));
  firmware = m.firmware;
}

-- the caller has no untaken post any more
abbrev pub freed : Mailbox → (caller : ℕ) → Mailbox
freed m caller = record {
  register = m.register;
  count = m.count;
  line = m.line;
  places = set m.places caller (place_with Free);
  firmware = m.firmware;
}

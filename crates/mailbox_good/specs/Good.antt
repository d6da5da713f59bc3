-- What makes a mailbox good, as plain facts; and that the test of consistency accepts exactly that. Assumes nothing: definitions and statements.
use Rattle.std.specs.Prelude.{ℕ, ◌<◌, ◌≤◌, Bool, true, ◌⊎◌, ◌≡◌, length, get_or}
use Rattle.mailbox.specs.declared.Phase.{Phase}
use Rattle.mailbox.specs.declared.Phase.TheVariants.{Idle, Command, Response}
use Rattle.mailbox.specs.declared.PlaceState.TheVariants.{Waiting}
use Rattle.mailbox.specs.declared.Post.{Post}
use Rattle.mailbox.specs.declared.Mailbox.{Mailbox}
use Rattle.mailbox.specs.Machine.{no_post, state_of}
use Rattle.mailbox.specs.Consistent.{consistent_of}

abbrev pub post_at : Mailbox → (i : ℕ) → Post
post_at m i = get_or m.line i no_post

-- the post at index i of the line waits, and is the caller's
abbrev pub InLine : Mailbox → (caller i : ℕ) → Type 0
InLine m caller i = (i < m.count) × ((post_at m i).caller ≡ caller)

-- the register holds the caller's command or response
abbrev pub InRegister : Phase → (caller : ℕ) → Type 0
InRegister Idle caller = ⊥
InRegister (Command holder word) caller = holder ≡ caller
InRegister (Response holder word) caller = holder ≡ caller

-- document 01: "Each caller 0 to 7 has at most one post, found once in line, register or place, no other caller has any, and commands are at most 0x3FF."
pub record GoodMailbox (m : Mailbox) : Type 0 where
  -- each caller has at most one post, so the line has at most eight; it is in line once, or in the register, and not in both
  pub short : m.count ≤ 8
  pub line_once : (caller i j : ℕ) → InLine m caller i → InLine m caller j → i ≡ j
  pub line_or_register : (caller i : ℕ) → InLine m caller i → InRegister m.register caller → ⊥
  -- the place of a caller with a post in line or register says that it waits: it is not free, and holds no word
  pub line_waits : (caller i : ℕ) → InLine m caller i → state_of m caller ≡ Waiting
  pub register_waits : (caller : ℕ) → InRegister m.register caller → state_of m caller ≡ Waiting
  -- and a place that says so has its post there
  pub waits_for_one : (caller : ℕ) → caller ≤ 7 → state_of m caller ≡ Waiting → ((i : ℕ) × InLine m caller i) ⊎ InRegister m.register caller
  -- no other caller has any
  pub line_caller : (caller i : ℕ) → InLine m caller i → caller ≤ 7
  pub register_caller : (caller : ℕ) → InRegister m.register caller → caller ≤ 7
  -- commands are at most 0x3FF: in the register, bits 31:26 of the command word are zero; a response is any word
  pub line_command : (i : ℕ) → i < m.count → (post_at m i).command ≤ 0x3FF
  pub register_command : (caller word : ℕ) → m.register ≡ Command caller word → word < 0x400_0000

-- a test accepts exactly the good mailboxes; the line has its eight slots, as in every value of the code
pub record BothWays (test : Mailbox → Bool) : Type 0 where
  pub only : (m : Mailbox) → length m.line ≡ 8 → test m ≡ true → GoodMailbox m
  pub all : (m : Mailbox) → length m.line ≡ 8 → GoodMailbox m → test m ≡ true

abbrev pub ConsistentBothWays : Type 0
ConsistentBothWays = BothWays consistent_of

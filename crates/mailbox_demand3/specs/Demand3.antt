-- Demand 3, stated: what holds after any finite list of calls from the fresh mailbox, and from an empty one before firmware in any state. The proof stands in proofs/Demand3.antt.
use Rattle.std.specs.Prelude.{true, false, List, [], ◌∷◌, ◌++◌, ◌≡◌, ℕ, ◌+◌, ◌<◌, ◌≤◌, length, get_or, take}
use Rattle.reply.specs.Reply.{given}
use Rattle.firmware.specs.Rules.{fresh_firmware, run_of}
use Rattle.firmware.specs.declared.Firmware.{Firmware}
use Rattle.mailbox.specs.declared.Phase.TheVariants.{Idle, Command, Response}
use Rattle.mailbox.specs.declared.PlaceState.{PlaceState}
use Rattle.mailbox.specs.declared.PlaceState.TheVariants.{Free, Waiting, Ready}
use Rattle.mailbox.specs.declared.Post.{Post}
use Rattle.mailbox.specs.declared.Mailbox.{Mailbox}
use Rattle.mailbox.specs.Machine.{post_by, no_post, command_word, waiting, state_of, mailbox_before}
use Rattle.mailbox_calls.specs.Calls.{After, accepted}
use Rattle.mailbox_demand3.specs.Calls.{Sixteen, Call, post, load, turn, unload, take_word, Seen, posted, loaded, turned, unloaded, took, Server, call_of, number_in, acted_in}
use Rattle.mailbox_demand3.specs.Log.{Log, from, played}
use Rattle.mailbox_demand3.specs.Sequence.{state_after, answers_to, words_of}

-- the second list begins with the first
abbrev pub Begins : (a b : List ℕ) → Type 0
Begins a b = (rest : List ℕ) × (a ++ rest ≡ b)

-- how many posts of a caller are untaken, by its place
abbrev pub untaken : PlaceState → ℕ
untaken Free = 0
untaken Waiting = 1
untaken (Ready word) = 1

-- ---- service: what a call answers, and what the mailbox is afterwards
-- every place but the caller's is as it was
abbrev pub OthersKept : (m : Mailbox) (caller : ℕ) (n : Mailbox) → Type 0
OthersKept m caller n = (other : ℕ) → (other ≡ caller → ⊥) → state_of n other ≡ state_of m other

-- a post is accepted, and is the last in line
pub record Joins (m : Mailbox) (p : Post) (s : After Seen) : Type 0 where
  pub answer : s.answer ≡ posted p.caller p.command p.«data» (given accepted)
  pub register : s.mailbox.register ≡ m.register
  pub line : waiting s.mailbox ≡ waiting m ++ (p ∷ [])
  pub place : state_of s.mailbox p.caller ≡ Waiting
  pub others : OthersKept m p.caller s.mailbox
  pub firmware : s.mailbox.firmware ≡ m.firmware

-- a load takes the oldest waiting post
pub record Loads (m : Mailbox) (oldest : Post) (s : After Seen) : Type 0 where
  pub answer : s.answer ≡ loaded (given true)
  pub register : s.mailbox.register ≡ Command oldest.caller (command_word oldest)
  pub line : waiting m ≡ oldest ∷ waiting s.mailbox
  pub places : s.mailbox.places ≡ m.places
  pub firmware : s.mailbox.firmware ≡ m.firmware

-- a turn answers the command that is there
pub record Turns (m : Mailbox) (caller word : ℕ) (s : After Seen) : Type 0 where
  pub answer : s.answer ≡ turned (given true)
  pub register : s.mailbox.register ≡ Response caller (run_of m.firmware word).word
  pub line : waiting s.mailbox ≡ waiting m
  pub places : s.mailbox.places ≡ m.places
  pub firmware : s.mailbox.firmware ≡ (run_of m.firmware word).firmware

-- an unload delivers a response to its caller's place
pub record Unloads (m : Mailbox) (caller word : ℕ) (s : After Seen) : Type 0 where
  pub answer : s.answer ≡ unloaded (given true)
  pub register : s.mailbox.register ≡ Idle
  pub line : waiting s.mailbox ≡ waiting m
  pub place : state_of s.mailbox caller ≡ Ready word
  pub others : OthersKept m caller s.mailbox
  pub firmware : s.mailbox.firmware ≡ m.firmware

-- a delivered word is taken by its caller
pub record Takes (m : Mailbox) (caller word : ℕ) (s : After Seen) : Type 0 where
  pub answer : s.answer ≡ took caller (given word)
  pub register : s.mailbox.register ≡ m.register
  pub line : waiting s.mailbox ≡ waiting m
  pub place : state_of s.mailbox caller ≡ Free
  pub others : OthersKept m caller s.mailbox
  pub firmware : s.mailbox.firmware ≡ m.firmware

-- ---- what holds of a mailbox and its log, the firmware having been in the state `start` before the first call
pub record Demand3 (serve : Server) (start : Firmware) (m : Mailbox) (g : Log) : Type 0 where
  -- the words that a caller took are, from the first and in order, the words that its accepted posts get at their places in the line's run
  pub words : (caller : ℕ) → Begins (words_of caller g.taken) (words_of caller (answers_to start g.line))
  -- no accepted post is lost: a caller's words are all taken, but for one where its place is not free
  pub kept : (caller : ℕ) → caller ≤ 7 → length (words_of caller (answers_to start g.line)) ≡ length (words_of caller g.taken) + untaken (state_of m caller)
  -- the firmware's state is that of the line run as far as the last command turned
  pub reached : g.turns ≤ length g.line
  pub firmware : m.firmware ≡ state_after start (take g.turns g.line)
  -- no call answers 5
  pub never5 : (call : Call) → number_in (serve m call).answer ≡ 5 → ⊥
  -- a call that is refused or answers no changes nothing, and every other call changes the mailbox
  pub stays : (call : Call) → acted_in (serve m call).answer ≡ false → (serve m call).mailbox ≡ m
  pub acts : (call : Call) → acted_in (serve m call).answer ≡ true → (serve m call).mailbox ≡ m → ⊥
  -- a caller with no untaken post can post
  pub posts : (caller command d : ℕ) (bits : Sixteen d) → caller ≤ 7 → command ≤ 0x3FF → state_of m caller ≡ Free
      → Joins m (post_by caller command d) (serve m (post caller command d bits))
  -- a load on an idle register takes the oldest accepted post that is not yet turned
  pub loads : m.register ≡ Idle → g.turns < length g.line → Loads m (get_or g.line g.turns no_post) (serve m load)
  -- a turn answers a command there
  pub turns : (caller word : ℕ) → m.register ≡ Command caller word → Turns m caller word (serve m turn)
  -- an unload delivers a response to its caller's place
  pub unloads : (caller word : ℕ) → m.register ≡ Response caller word → Unloads m caller word (serve m unload)
  -- a delivered word can be taken by its caller
  pub takes : (caller word : ℕ) → caller ≤ 7 → state_of m caller ≡ Ready word → Takes m caller word (serve m (take_word caller))

-- after every finite list of calls, from the empty mailbox before firmware in this state
abbrev pub AfterAllFrom : Server → (start : Firmware) → Type 0
AfterAllFrom serve start =
    (calls : List Call) → Demand3 serve start (played serve (from (mailbox_before start)) calls).mailbox (played serve (from (mailbox_before start)) calls).log

-- from the fresh mailbox
abbrev pub AfterAll : Server → Type 0
AfterAll serve = AfterAllFrom serve fresh_firmware

-- ---- the theorem: it holds of document 01's mailbox, whatever state its firmware began in
abbrev pub DemandThreeFrom : Type 0
DemandThreeFrom = (start : Firmware) → AfterAllFrom call_of start

abbrev pub DemandThree : Type 0
DemandThree = AfterAll call_of

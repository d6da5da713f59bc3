-- Any call on a mailbox, and what an onlooker sees of it. Assumes nothing: these are definitions.
use Rattle.std.specs.Prelude.{Bool, true, false, ℕ, ◌<◌}
use Rattle.reply.specs.Reply.{Reply, given, refused}
use Rattle.mailbox.specs.declared.Mailbox.{Mailbox}
use Rattle.mailbox_calls.specs.Calls.{After, after, Accepted, post_of, load_of, turn_of, unload_of, take_of}

-- a post has 16 data bits
abbrev pub Sixteen : (d : ℕ) → Type 0
Sixteen d = d < 0x1_0000

-- a call, by any caller
pub data Call : Type 0 where
  post : (caller command d : ℕ) → Sixteen d → Call
  load : Call
  turn : Call
  unload : Call
  take_word : (caller : ℕ) → Call

-- what is seen of a call: the call, and its answer
pub data Seen : Type 0 where
  posted : (caller command d : ℕ) → Reply Accepted → Seen
  loaded : Reply Bool → Seen
  turned : Reply Bool → Seen
  unloaded : Reply Bool → Seen
  took : (caller : ℕ) → Reply ℕ → Seen

abbrev pub seen_as : {A : Type 0} → (Reply A → Seen) → After (Reply A) → After Seen
seen_as how a = after a.mailbox (how a.answer)

-- what serves calls: the mailbox after a call, and what is seen of it
abbrev pub Server : Type 0
Server = Mailbox → Call → After Seen

-- a server by its five calls
abbrev pub server_of : (Mailbox → (caller command d : ℕ) → After (Reply Accepted)) → (loads turns unloads : Mailbox → After (Reply Bool))
    → (Mailbox → (caller : ℕ) → After (Reply ℕ)) → Server
server_of posts loads turns unloads takes m (post caller command d bits) = seen_as (posted caller command d) (posts m caller command d)
server_of posts loads turns unloads takes m load = seen_as loaded (loads m)
server_of posts loads turns unloads takes m turn = seen_as turned (turns m)
server_of posts loads turns unloads takes m unload = seen_as unloaded (unloads m)
server_of posts loads turns unloads takes m (take_word caller) = seen_as (took caller) (takes m caller)

-- document 01's mailbox
abbrev pub call_of : Server
call_of = server_of post_of load_of turn_of unload_of take_of

-- the number answered: 0 where the call is not refused
abbrev pub number_of : {A : Type 0} → Reply A → ℕ
number_of (given a) = 0
number_of (refused number carried) = number

abbrev pub number_in : Seen → ℕ
number_in (posted caller command d r) = number_of r
number_in (loaded r) = number_of r
number_in (turned r) = number_of r
number_in (unloaded r) = number_of r
number_in (took caller r) = number_of r

-- the call acted: a post is accepted, a word is taken, a load, turn or unload says yes
abbrev pub yes_in : Reply Bool → Bool
yes_in (given acted) = acted
yes_in (refused number carried) = false

abbrev pub is_given : {A : Type 0} → Reply A → Bool
is_given (given a) = true
is_given (refused number carried) = false

abbrev pub acted_in : Seen → Bool
acted_in (posted caller command d r) = is_given r
acted_in (loaded r) = yes_in r
acted_in (turned r) = yes_in r
acted_in (unloaded r) = yes_in r
acted_in (took caller r) = is_given r

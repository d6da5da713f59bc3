-- Wrong mailboxes that demand 3 rules out, stated: document 01 names some of them under "When a promise says too little". The proofs stand in proofs/Wrong.antt.
use Rattle.std.specs.Prelude.{Bool, true, cond, List, [], ◌∷◌, ℕ, ◌+◌, eqb}
use Rattle.reply.specs.Reply.{Reply, given, refused, alone}
use Rattle.mailbox.specs.declared.PlaceState.{PlaceState}
use Rattle.mailbox.specs.declared.PlaceState.TheVariants.{Free, Waiting, Ready}
use Rattle.mailbox.specs.declared.Place.{Place}
use Rattle.mailbox.specs.declared.Phase.{Phase}
use Rattle.mailbox.specs.declared.Phase.TheVariants.{Idle, Command, Response}
use Rattle.mailbox.specs.declared.Mailbox.{Mailbox}
use Rattle.mailbox.specs.Machine.{state_of}
use Rattle.mailbox_calls.specs.Calls.{After, after, Accepted, accepted, post_of, load_of, turn_of, unload_of, take_of}
use Rattle.mailbox_demand3.specs.Calls.{Server, server_of}
use Rattle.mailbox_demand3.specs.Demand3.{AfterAll}

-- a post that is always refused
abbrev pub refuses : Server
refuses = server_of (λ m caller command d. after m (refused 9 alone)) load_of turn_of unload_of take_of

-- a load, a turn or an unload that does nothing, whatever it says
abbrev pub idle_load : (says : Bool) → Server
idle_load says = server_of post_of (λ m. after m (given says)) turn_of unload_of take_of

abbrev pub idle_turn : (says : Bool) → Server
idle_turn says = server_of post_of load_of (λ m. after m (given says)) unload_of take_of

abbrev pub idle_unload : (says : Bool) → Server
idle_unload says = server_of post_of load_of turn_of (λ m. after m (given says)) take_of

-- a turn that forgets the firmware's state
abbrev pub forgets : Server
forgets =
    server_of post_of load_of
    (λ m. after (record { register = (turn_of m).mailbox.register; count = m.count; line = m.line; places = m.places; firmware = m.firmware }) (turn_of m).answer)
    unload_of take_of

-- a turn that runs the first post, and repeats its word while that stands in place 0
abbrev pub repeated : Phase → PlaceState → Phase
repeated (Response caller word) (Ready first) = Response caller first
repeated (Response caller word) Free = Response caller word
repeated (Response caller word) Waiting = Response caller word
repeated Idle state = Idle
repeated (Command caller word) state = Command caller word

abbrev pub repeats : Server
repeats =
    server_of post_of load_of
    (λ m. after
    (record {
      register = repeated (turn_of m).mailbox.register (state_of m 0);
      count = m.count;
      line = m.line;
      places = m.places;
      firmware = (turn_of m).mailbox.firmware;
    })
    (turn_of m).answer)
    unload_of take_of

-- a take that gives any caller the word in place 0
abbrev pub any_take : Server
any_take = server_of post_of load_of turn_of unload_of (λ m caller. take_of m 0)

-- a post that is accepted and joins no line, whether its caller's place says that it waits or not
abbrev pub drops : (marks : Bool) → Server
drops marks =
    server_of
    (λ m caller command d. after
    (record {
      register = m.register;
      count = m.count;
      line = m.line;
      places = cond marks (post_of m caller command d).mailbox.places m.places;
      firmware = m.firmware;
    })
    (post_of m caller command d).answer)
    load_of turn_of unload_of take_of

-- a post that is said to be accepted where it is refused with this number, and changes nothing
abbrev pub agreed : (number : ℕ) → Reply Accepted → Reply Accepted
agreed number (given a) = given a
agreed number (refused n carried) = cond (eqb n number) (given accepted) (refused n carried)

abbrev pub agrees : (number : ℕ) → Server
agrees number =
    server_of (λ m caller command d. after (post_of m caller command d).mailbox (agreed number (post_of m caller command d).answer)) load_of turn_of unload_of take_of

-- an unload that delivers a response and leaves it in the register
abbrev pub unloads_again : Server
unloads_again =
    server_of post_of load_of turn_of
    (λ m. after (record { register = m.register; count = m.count; line = m.line; places = (unload_of m).mailbox.places; firmware = m.firmware }) (unload_of m).answer)
    take_of

-- a take that leaves the word in its place
abbrev pub takes_again : Server
takes_again = server_of post_of load_of turn_of unload_of (λ m caller. after m (take_of m caller).answer)

-- a take that gives any caller the word that is ready in the lowest place
abbrev pub counted : PlaceState → (later : ℕ) → ℕ
counted Free later = later + 1
counted Waiting later = later + 1
counted (Ready word) later = 0

unfoldable pub lowest_ready : (places : List Place) → ℕ
lowest_ready [] = 0
lowest_ready (p ∷ places) = counted p.state (lowest_ready places)

abbrev pub any_ready : Server
any_ready = server_of post_of load_of turn_of unload_of (λ m caller. take_of m (lowest_ready m.places))

-- a post that is refused, and loads the oldest post meanwhile
abbrev pub if_refused : {A : Type 0} → Reply A → (so otherwise : Mailbox) → Mailbox
if_refused (given a) so otherwise = otherwise
if_refused (refused number carried) so otherwise = so

abbrev pub meddles : Server
meddles =
    server_of
    (λ m caller command d. after (if_refused (post_of m caller command d).answer (load_of m).mailbox (post_of m caller command d).mailbox) (post_of m caller command d).answer)
    load_of turn_of unload_of take_of

-- a load, a turn or an unload that always says yes
abbrev pub says_yes : (Mailbox → After (Reply Bool)) → Mailbox → After (Reply Bool)
says_yes call m = after (call m).mailbox (given true)

abbrev pub yes_load : Server
yes_load = server_of post_of (says_yes load_of) turn_of unload_of take_of

abbrev pub yes_turn : Server
yes_turn = server_of post_of load_of (says_yes turn_of) unload_of take_of

abbrev pub yes_unload : Server
yes_unload = server_of post_of load_of turn_of (says_yes unload_of) take_of

pub record RuledOut : Type 0 where
  pub refuses_posts : AfterAll refuses → ⊥
  pub load_idles : (says : Bool) → AfterAll (idle_load says) → ⊥
  pub turn_idles : (says : Bool) → AfterAll (idle_turn says) → ⊥
  pub unload_idles : (says : Bool) → AfterAll (idle_unload says) → ⊥
  pub turn_forgets : AfterAll forgets → ⊥
  pub first_repeated : AfterAll repeats → ⊥
  pub takes_any : AfterAll any_take → ⊥
  pub post_dropped : (marks : Bool) → AfterAll (drops marks) → ⊥
  -- a caller or a command out of range (9), and a caller that has a post outstanding (10)
  pub range_agreed : AfterAll (agrees 9) → ⊥
  pub outstanding_agreed : AfterAll (agrees 10) → ⊥
  pub unloaded_twice : AfterAll unloads_again → ⊥
  pub taken_twice : AfterAll takes_again → ⊥
  pub takes_ready : AfterAll any_ready → ⊥
  pub refusal_meddles : AfterAll meddles → ⊥
  pub load_says_yes : AfterAll yes_load → ⊥
  pub turn_says_yes : AfterAll yes_turn → ⊥
  pub unload_says_yes : AfterAll yes_unload → ⊥

-- Each wrong program fails demand 3 after a few calls. Assumes nothing.
use mathlib.Core.Bool.{Bool, true≢false}
use mathlib.Core.List.{[], ◌∷◌}
use mathlib.Core.Path.{◌≡◌, refl, ap}
use Prim.Native.Nat.{ℕ}
use native.Mathlib.Omega.{arith}
use lib.ListN.{get_or, length}
use Rattle.firmware.specs.Word.{word_of}
use Rattle.firmware.specs.Rules.{rule_of}
use Rattle.firmware.specs.declared.Firmware.{Firmware}
use Rattle.mailbox.specs.declared.Mailbox.{Mailbox}
use Rattle.mailbox.specs.Machine.{shifted}
use Rattle.mailbox.specs.Consistent.{posts_fit, register_fits, times_in, register_holds, all_below, consistent_of}
use Rattle.mailbox_calls.specs.Calls.{post_of, load_of, turn_of, unload_of, take_of}
use Rattle.mailbox_demand3.specs.Calls.{post, load, turn, unload, take_word}
use Rattle.mailbox_demand3.specs.Log.{played}
use Rattle.mailbox_demand3.specs.Sequence.{state_after, answers_to, words_of}
use Rattle.mailbox_demand3.specs.Demand3.{AfterAll}
use Rattle.mailbox_demand3.specs.Wrong.{refuses, idle_load, idle_turn, idle_unload, forgets, repeats, any_take, drops, agrees, unloads_again, takes_again, lowest_ready, any_ready, meddles, yes_load, yes_turn, yes_unload, RuledOut}

refuses_posts : AfterAll refuses → ⊥
unfolding played
refuses_posts d =
    let e = ((d []).posts 0 0x81 0 (omega arith) (omega arith) (omega arith) refl).answer in
    let z : ◌≡◌ {A = ℕ} 0 1 = cc in
    omega arith

-- one post waits
load_idles : (says : Bool) → AfterAll (idle_load says) → ⊥
unfolding played post_of consistent_of posts_fit register_fits times_in register_holds all_below
load_idles says d =
    let e = ((d (post 0 0x81 0 (omega arith) ∷ [])).loads refl (omega arith)).register in
    let z : ◌≡◌ {A = ℕ} 0 1 = cc in
    omega arith

-- a command is in the register
turn_idles : (says : Bool) → AfterAll (idle_turn says) → ⊥
unfolding played post_of load_of consistent_of posts_fit register_fits times_in register_holds all_below word_of
turn_idles says d =
    let e = ((d (post 0 0x81 0 (omega arith) ∷ load ∷ [])).turns 0 0x00810000 refl).register in
    let z : ◌≡◌ {A = ℕ} 0 1 = cc in
    omega arith

-- a response is in the register
unload_idles : (says : Bool) → AfterAll (idle_unload says) → ⊥
unfolding played post_of load_of turn_of consistent_of posts_fit register_fits times_in register_holds all_below shifted word_of rule_of
unload_idles says d =
    let e = ((d (post 0 0x81 0 (omega arith) ∷ load ∷ turn ∷ [])).unloads 0 0x80810001 refl).register in
    let z : ◌≡◌ {A = ℕ} 0 1 = cc in
    omega arith

-- the interface was turned off
turn_forgets : AfterAll forgets → ⊥
unfolding played post_of load_of turn_of consistent_of posts_fit register_fits times_in register_holds all_below shifted word_of rule_of state_after
turn_forgets d = true≢false (ap (λ (f : Firmware). f.interface) (d (post 0 0x80 0 (omega arith) ∷ load ∷ turn ∷ [])).firmware)

-- caller 1 takes the word of caller 0's post for its own
first_repeated : AfterAll repeats → ⊥
unfolding played post_of load_of turn_of unload_of take_of consistent_of posts_fit register_fits times_in register_holds all_below shifted word_of rule_of answers_to words_of
first_repeated d =
    let b = (d (post 0 0x81 0 (omega arith) ∷ load ∷ turn ∷ unload ∷ post 1 0x86 0 (omega arith) ∷ load ∷ turn ∷ unload ∷ take_word 1 ∷ [])).words 1 in
    let e : ◌≡◌ {A = ℕ} 0x80810001 0x84860000 = ap (λ l. get_or l 0 0) b.1 in
    omega arith

-- caller 1 takes caller 0's word
takes_any : AfterAll any_take → ⊥
unfolding played post_of load_of turn_of unload_of take_of consistent_of posts_fit register_fits times_in register_holds all_below shifted word_of rule_of answers_to words_of
takes_any d =
    let b = (d (post 0 0x81 0 (omega arith) ∷ load ∷ turn ∷ unload ∷ take_word 1 ∷ [])).words 1 in
    let e : length (0x80810001 ∷ b.0) ≡ 0 = ap length b.1 in
    omega arith

-- the line after an accepted post is empty
post_dropped : (marks : Bool) → AfterAll (drops marks) → ⊥
unfolding played
post_dropped marks d =
    let e : ◌≡◌ {A = ℕ} 0 1 = ap length ((d []).posts 0 0x81 0 (omega arith) (omega arith) (omega arith) refl).line in
    omega arith

-- command 0x400 is said to be accepted, and is nowhere
range_agreed : AfterAll (agrees 9) → ⊥
unfolding played post_of consistent_of posts_fit register_fits times_in register_holds all_below answers_to words_of
range_agreed d = let e : ◌≡◌ {A = ℕ} 1 0 = (d (post 0 0x400 0 (omega arith) ∷ [])).kept 0 (omega arith) in omega arith

-- two posts of caller 0 are said to be accepted, and one waits
outstanding_agreed : AfterAll (agrees 10) → ⊥
unfolding played post_of consistent_of posts_fit register_fits times_in register_holds all_below answers_to words_of
outstanding_agreed d = let e : ◌≡◌ {A = ℕ} 2 1 = (d (post 0 0x81 0 (omega arith) ∷ post 0 0x86 0 (omega arith) ∷ [])).kept 0 (omega arith) in omega arith

-- the register still has what was delivered
unloaded_twice : AfterAll unloads_again → ⊥
unfolding played post_of load_of turn_of unload_of consistent_of posts_fit register_fits times_in register_holds all_below shifted word_of rule_of
unloaded_twice d =
    let e = ((d (post 0 0x81 0 (omega arith) ∷ load ∷ turn ∷ [])).unloads 0 0x80810001 refl).register in
    let z : ◌≡◌ {A = ℕ} 0 1 = cc in
    omega arith

-- caller 0 takes the word of its one post twice
taken_twice : AfterAll takes_again → ⊥
unfolding played post_of load_of turn_of unload_of take_of consistent_of posts_fit register_fits times_in register_holds all_below shifted word_of rule_of answers_to words_of
taken_twice d =
    let b = (d (post 0 0x81 0 (omega arith) ∷ load ∷ turn ∷ unload ∷ take_word 0 ∷ take_word 0 ∷ [])).words 0 in
    let e : length (0x80810001 ∷ 0x80810001 ∷ b.0) ≡ 1 = ap length b.1 in
    omega arith

-- caller 1 takes caller 3's word
takes_ready : AfterAll any_ready → ⊥
unfolding played post_of load_of turn_of unload_of take_of consistent_of posts_fit register_fits times_in register_holds all_below shifted word_of rule_of answers_to words_of lowest_ready
takes_ready d =
    let b = (d (post 3 0x81 0 (omega arith) ∷ load ∷ turn ∷ unload ∷ take_word 1 ∷ [])).words 1 in
    let e : length (0x80810001 ∷ b.0) ≡ 0 = ap length b.1 in
    omega arith

-- the second post of caller 0 is refused, and the first has left the line
refusal_meddles : AfterAll meddles → ⊥
unfolding played post_of load_of consistent_of posts_fit register_fits times_in register_holds all_below shifted word_of
refusal_meddles d =
    let e : ◌≡◌ {A = ℕ} 0 1 = ap (λ (m : Mailbox). m.count) ((d (post 0 0x81 0 (omega arith) ∷ [])).stays (post 0 0x86 0 (omega arith)) refl) in
    omega arith

-- nothing is in line, register and places
load_says_yes : AfterAll yes_load → ⊥
unfolding played load_of consistent_of posts_fit register_fits times_in register_holds all_below
load_says_yes d = (d []).acts load refl refl

turn_says_yes : AfterAll yes_turn → ⊥
unfolding played turn_of consistent_of posts_fit register_fits times_in register_holds all_below
turn_says_yes d = (d []).acts turn refl refl

unload_says_yes : AfterAll yes_unload → ⊥
unfolding played unload_of consistent_of posts_fit register_fits times_in register_holds all_below
unload_says_yes d = (d []).acts unload refl refl

pub ruled_out : RuledOut
ruled_out = record {
  refuses_posts = refuses_posts;
  load_idles = load_idles;
  turn_idles = turn_idles;
  unload_idles = unload_idles;
  turn_forgets = turn_forgets;
  first_repeated = first_repeated;
  takes_any = takes_any;
  post_dropped = post_dropped;
  range_agreed = range_agreed;
  outstanding_agreed = outstanding_agreed;
  unloaded_twice = unloaded_twice;
  taken_twice = taken_twice;
  takes_ready = takes_ready;
  refusal_meddles = refusal_meddles;
  load_says_yes = load_says_yes;
  turn_says_yes = turn_says_yes;
  unload_says_yes = unload_says_yes;
}

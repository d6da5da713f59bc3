-- What any call on a consistent mailbox comes to, once for every theorem: nothing changed, or one of five changes with its reason. Assumes nothing.
use mathlib.Core.Bool.{true, false}
use mathlib.Core.Path.{◌≡◌, refl, ap, subst}
use Prim.Native.Nat.{ℕ, ◌<◌, ◌≤◌}
use native.Mathlib.Omega.{arith}
use native.Mathlib.Decide.{ℕ_discrete, dec_le}
use borrow.Author.Tests.{ne_eqb, le-leb, lt-leb}
use Rattle.reply.specs.Reply.{Reply, given, refused, alone}
use Rattle.mailbox.specs.declared.Phase.{Phase}
use Rattle.mailbox.specs.declared.Phase.TheVariants.{Idle, Command, Response}
use Rattle.mailbox.specs.declared.PlaceState.{PlaceState}
use Rattle.mailbox.specs.declared.PlaceState.TheVariants.{Free, Waiting, Ready}
use Rattle.mailbox.specs.declared.Mailbox.{Mailbox}
use Rattle.mailbox.specs.Machine.{state_of, is_free, joined, with_oldest, with_response, handed_over, freed}
use Rattle.mailbox.specs.Consistent.{consistent_of}
use Rattle.mailbox_calls.specs.Calls.{After, after, leaves, accepted, loaded_from, turned_from, unloaded_from, taken_from, post_of, load_of, turn_of, unload_of, take_of}
use Rattle.mailbox_demand3.specs.Calls.{Call, post, load, turn, unload, take_word, Seen, posted, loaded, turned, unloaded, took, seen_as, call_of, number_in, acted_in}
use Rattle.mailbox_demand3.specs.Log.{Log, noted}

pub data Outcome (m : Mailbox) : After Seen → Type 0 where
  nothing : (s : Seen) → ((g : Log) → noted g s ≡ g) → (number_in s ≡ 5 → ⊥) → acted_in s ≡ false → Outcome m (after m s)
  joins : (c k d : ℕ) → c ≤ 7 → k ≤ 0x3FF → state_of m c ≡ Free → Outcome m (after (joined m c k d) (posted c k d (given accepted)))
  loads : m.register ≡ Idle → (m.count ≡ 0 → ⊥) → Outcome m (after (with_oldest m) (loaded (given true)))
  turns : (c w : ℕ) → m.register ≡ Command c w → Outcome m (after (with_response m c w) (turned (given true)))
  unloads : (c w : ℕ) → m.register ≡ Response c w → Outcome m (after (handed_over m c w) (unloaded (given true)))
  takes : (c w : ℕ) → c ≤ 7 → state_of m c ≡ Ready w → Outcome m (after (freed m c) (took c (given w)))

-- by what the definition of the call is
by : {A : Type 0} {m : Mailbox} {a b : After (Reply A)} (how : Reply A → Seen) → a ≡ b → Outcome m (seen_as how a) → Outcome m (seen_as how b)
by {m = m} how e o = subst (Outcome m) (ap (seen_as how) e) o

module _ (m : Mailbox) (good : true ≡ consistent_of m) where
  -- the changes, as equations
  pub join_is : (c k d : ℕ) → c ≤ 7 → k ≤ 0x3FF → state_of m c ≡ Free → after (joined m c k d) (given accepted) ≡ post_of m c k d
  unfolding post_of
  join_is c k d h l e = rw (← good, le-leb c 7 h, le-leb k 0x3FF l, e)

  pub load_is : m.register ≡ Idle → (m.count ≡ 0 → ⊥) → after (with_oldest m) (given true) ≡ load_of m
  unfolding load_of
  load_is e n = rw (← good, e, ne_eqb m.count 0 n)

  pub turn_is : (c w : ℕ) → m.register ≡ Command c w → after (with_response m c w) (given true) ≡ turn_of m
  unfolding turn_of
  turn_is c w e = rw (← good, e)

  pub unload_is : (c w : ℕ) → m.register ≡ Response c w → after (handed_over m c w) (given true) ≡ unload_of m
  unfolding unload_of
  unload_is c w e = rw (← good, e)

  pub take_is : (c w : ℕ) → c ≤ 7 → state_of m c ≡ Ready w → after (freed m c) (given w) ≡ take_of m c
  unfolding take_of
  take_is c w h e = rw (← good, le-leb c 7 h, e)

  -- and the calls that change nothing
  caller_refused : (c k d : ℕ) → 7 < c → after m (refused 9 alone) ≡ post_of m c k d
  unfolding post_of
  caller_refused c k d h = rw (← good, lt-leb c 7 h)

  command_refused : (c k d : ℕ) → c ≤ 7 → 0x3FF < k → after m (refused 9 alone) ≡ post_of m c k d
  unfolding post_of
  command_refused c k d h l = rw (← good, le-leb c 7 h, lt-leb k 0x3FF l)

  outstanding : (c k d : ℕ) → c ≤ 7 → k ≤ 0x3FF → is_free (state_of m c) ≡ false → after m (refused 10 alone) ≡ post_of m c k d
  unfolding post_of
  outstanding c k d h l e = rw (← good, le-leb c 7 h, le-leb k 0x3FF l, e)

  none_waits : m.register ≡ Idle → m.count ≡ 0 → after m (given false) ≡ load_of m
  unfolding load_of
  none_waits e z = rw (← good, e, z)

  load_stays : after m (given false) ≡ leaves m (given (loaded_from m m.register)) → after m (given false) ≡ load_of m
  unfolding load_of
  load_stays e = rw (← good) e

  turn_stays : after m (given false) ≡ leaves m (given (turned_from m m.register)) → after m (given false) ≡ turn_of m
  unfolding turn_of
  turn_stays e = rw (← good) e

  unload_stays : after m (given false) ≡ leaves m (given (unloaded_from m m.register)) → after m (given false) ≡ unload_of m
  unfolding unload_of
  unload_stays e = rw (← good) e

  taker_refused : (c : ℕ) → 7 < c → after m (refused 9 alone) ≡ take_of m c
  unfolding take_of
  taker_refused c h = rw (← good, lt-leb c 7 h)

  take_refused : (c number : ℕ) → c ≤ 7 → taken_from m c (state_of m c) ≡ refused number alone → after m (refused number alone) ≡ take_of m c
  unfolding take_of
  take_refused c number h e = rw (← good, le-leb c 7 h, e)

  of_post : (c k d : ℕ) → Outcome m (seen_as (posted c k d) (post_of m c k d))
  of_post c k d = low (dec_le c 7)
    where
      quiet : (n : ℕ) → (n ≡ 5 → ⊥) → Outcome m (after m (posted c k d (refused n alone)))
      quiet n h = nothing (posted c k d (refused n alone)) (λ g. refl) h refl

      go : c ≤ 7 → k ≤ 0x3FF → (s : PlaceState) → state_of m c ≡ s → Outcome m (seen_as (posted c k d) (post_of m c k d))
      go h l Free e = by (posted c k d) (join_is c k d h l e) (joins c k d h l e)
      go h l Waiting e = by (posted c k d) (outstanding c k d h l (rw e)) (quiet 10 (λ q. omega arith))
      go h l (Ready w) e = by (posted c k d) (outstanding c k d h l (rw e)) (quiet 10 (λ q. omega arith))

      command : c ≤ 7 → Dec (k ≤ 0x3FF) → Outcome m (seen_as (posted c k d) (post_of m c k d))
      command h (yes l) = go h l (state_of m c) refl
      command h (no l) = by (posted c k d) (command_refused c k d h (omega arith)) (quiet 9 (λ q. omega arith))

      low : Dec (c ≤ 7) → Outcome m (seen_as (posted c k d) (post_of m c k d))
      low (yes h) = command h (dec_le k 0x3FF)
      low (no h) = by (posted c k d) (caller_refused c k d (omega arith)) (quiet 9 (λ q. omega arith))

  of_load : Outcome m (call_of m load)
  of_load = go m.register refl
    where
      quiet : Outcome m (after m (loaded (given false)))
      quiet = nothing (loaded (given false)) (λ g. refl) (λ q. omega arith) refl

      some : m.register ≡ Idle → Dec (m.count ≡ 0) → Outcome m (call_of m load)
      some e (yes z) = by loaded (none_waits e z) quiet
      some e (no n) = by loaded (load_is e n) (loads e n)

      go : (p : Phase) → m.register ≡ p → Outcome m (call_of m load)
      go Idle e = some e (ℕ_discrete m.count 0)
      go (Command c w) e = by loaded (load_stays (rw e)) quiet
      go (Response c w) e = by loaded (load_stays (rw e)) quiet

  of_turn : Outcome m (call_of m turn)
  of_turn = go m.register refl
    where
      quiet : Outcome m (after m (turned (given false)))
      quiet = nothing (turned (given false)) (λ g. refl) (λ q. omega arith) refl

      go : (p : Phase) → m.register ≡ p → Outcome m (call_of m turn)
      go Idle e = by turned (turn_stays (rw e)) quiet
      go (Command c w) e = by turned (turn_is c w e) (turns c w e)
      go (Response c w) e = by turned (turn_stays (rw e)) quiet

  of_unload : Outcome m (call_of m unload)
  of_unload = go m.register refl
    where
      quiet : Outcome m (after m (unloaded (given false)))
      quiet = nothing (unloaded (given false)) (λ g. refl) (λ q. omega arith) refl

      go : (p : Phase) → m.register ≡ p → Outcome m (call_of m unload)
      go Idle e = by unloaded (unload_stays (rw e)) quiet
      go (Command c w) e = by unloaded (unload_stays (rw e)) quiet
      go (Response c w) e = by unloaded (unload_is c w e) (unloads c w e)

  of_take : (c : ℕ) → Outcome m (call_of m (take_word c))
  of_take c = low (dec_le c 7)
    where
      quiet : (n : ℕ) → (n ≡ 5 → ⊥) → Outcome m (after m (took c (refused n alone)))
      quiet n h = nothing (took c (refused n alone)) (λ g. refl) h refl

      go : c ≤ 7 → (s : PlaceState) → state_of m c ≡ s → Outcome m (call_of m (take_word c))
      go h Free e = by (took c) (take_refused c 8 h (rw e)) (quiet 8 (λ q. omega arith))
      go h Waiting e = by (took c) (take_refused c 11 h (rw e)) (quiet 11 (λ q. omega arith))
      go h (Ready w) e = by (took c) (take_is c w h e) (takes c w h e)

      low : Dec (c ≤ 7) → Outcome m (call_of m (take_word c))
      low (yes h) = go h (state_of m c) refl
      low (no h) = by (took c) (taker_refused c (omega arith)) (quiet 9 (λ q. omega arith))

  pub outcome : (call : Call) → Outcome m (call_of m call)
  outcome (post c k d bits) = of_post c k d
  outcome load = of_load
  outcome turn = of_turn
  outcome unload = of_unload
  outcome (take_word c) = of_take c

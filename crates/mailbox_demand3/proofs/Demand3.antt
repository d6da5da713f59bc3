-- Demand 3, proved: after any finite list of calls from the fresh mailbox, and before firmware in any state at all. Assumes nothing.
use mathlib.Core.Bool.{Bool, true, false, cond, true≢false}
use mathlib.Core.List.{List, [], ◌∷◌, ◌++◌, append_assoc}
use mathlib.Core.Path.{◌≡◌, refl, sym, ap, ◌∙◌, subst}
use Prim.Native.Nat.{ℕ, zero, suc, ◌+◌, ◌<◌, ◌≤◌}
use native.Mathlib.Omega.{arith}
use lib.ListN.{length, get_or, take, replicate, length-append}
use lib.Seq.{take_at, get_or_at}
use lib.Dec.{eqb}
use Rattle.firmware.specs.Rules.{fresh_firmware}
use Rattle.firmware.specs.declared.Firmware.{Firmware}
use Rattle.mailbox.specs.declared.Phase.{Phase}
use Rattle.mailbox.specs.declared.Phase.TheVariants.{Idle, Command, Response}
use Rattle.mailbox.specs.declared.PlaceState.{PlaceState}
use Rattle.mailbox.specs.declared.PlaceState.TheVariants.{Free, Waiting, Ready}
use Rattle.mailbox.specs.declared.Post.{Post}
use Rattle.mailbox.specs.declared.Mailbox.{Mailbox}
use Rattle.mailbox.specs.Machine.{post_by, no_post, waiting, place_with, state_of, mailbox_before}
use Rattle.mailbox.specs.Consistent.{posts_fit, register_fits, once, times_in, register_holds, waits, consistent_of}
use Rattle.mailbox_calls.specs.Calls.{After}
use Rattle.mailbox.proofs.ConsistentLaws.{times_append}
use Rattle.mailbox.proofs.Facts.{consistent_test, room}
use Rattle.mailbox_demand3.specs.Calls.{Sixteen, Call, post, load, turn, unload, take_word, Seen, posted, loaded, turned, unloaded, took, seen_as, call_of, number_in, acted_in}
use Rattle.mailbox_demand3.specs.Log.{Log, no_log, noted, Run, from, stepped, played}
use Rattle.mailbox_demand3.specs.Sequence.{state_after, answers_to, words_of}
use Rattle.mailbox_demand3.specs.Demand3.{Begins, untaken, Joins, Loads, Turns, Unloads, Takes, Demand3, DemandThreeFrom, DemandThree}
use Rattle.mailbox_demand3.proofs.SequenceLaws.{answers_append, words_append, words_count}
use Rattle.mailbox_demand3.proofs.Outcome.{Outcome, nothing, joins, loads, turns, unloads, takes, outcome, join_is, load_is, turn_is, unload_is, take_is}
use Rattle.mailbox_demand3.proofs.Kept.{Holds, ready, answered, Kept, at_same, at_other, join_line, join_kept, load_line, load_kept, turn_kept, unload_low, unload_kept, take_kept}

-- ---- every run keeps it
good : {start : Firmware} (m : Mailbox) (g : Log) → Kept start m g → true ≡ consistent_of m
good m g k = sym (consistent_test m k.good)

changed : {start : Firmware} (m : Mailbox) (g : Log) (k : Kept start m g) {s : After Seen} → Outcome m s → Kept start s.mailbox (noted g s.answer)
changed {start} m g k (nothing s same n idle) = subst (Kept start m) (sym (same g)) k
changed m g k (joins c n d h l e) = join_kept m g k c n d h l e (room m c k.line_long (consistent_test m k.good) h e)
changed m g k (loads e n) = load_kept m g k e n
changed m g k (turns c w e) = turn_kept m g k c w e
changed m g k (unloads c w e) = unload_kept m g k c w e
changed m g k (takes c w h e) = take_kept m g k c w h e

pub run_kept : {start : Firmware} (calls : List Call) (r : Run) → Kept start r.mailbox r.log → Kept start (played call_of r calls).mailbox (played call_of r calls).log
unfolding played
run_kept [] r k = k
run_kept (call ∷ calls) r k = run_kept calls (stepped call_of r call) (changed r.mailbox r.log k (outcome r.mailbox (good r.mailbox r.log k) call))

all_free : (n i : ℕ) → get_or (replicate n (place_with Free)) i (place_with Free) ≡ place_with Free
all_free zero i = refl
all_free (suc n) zero = refl
all_free (suc n) (suc i) = all_free n i

pub start_kept : (start : Firmware) → Kept start (mailbox_before start) no_log
unfolding times_in posts_fit register_fits register_holds state_after answers_to words_of
start_kept start = record {
  good = record { short = omega arith; posts = refl; register = refl; callers = λ c h. rw (all_free 8 c) };
  line_long = refl;
  places_long = refl;
  ran = [];
  inside = [];
  holds = refl;
  split = refl;
  turns = refl;
  state = refl;
  words = λ c. rw (all_free 8 c);
}

-- ---- what is kept gives what is asked
begins : (start : Firmware) (c : ℕ) (had left : List ℕ) (l ran rest : List Post) → l ≡ ran ++ rest → had ++ left ≡ words_of c (answers_to start ran)
    → Begins had (words_of c (answers_to start l))
begins start c had left l ran rest e w =
    let later = words_of c (answers_to (state_after start ran) rest) in
    (left ++ later, rw (e, answers_append, words_append, ← w, append_assoc))

-- the posts in the register and its response are the caller's as often as the register says
inside_count : (c : ℕ) (r : Phase) (inside : List Post) → Holds r inside → times_in c inside + length (answered c r) ≡ register_holds c r
unfolding times_in register_holds
inside_count c Idle inside e = rw e
inside_count c (Command k w) inside h = rw (h.1, h.2) (omega arith)
inside_count c (Response k w) inside e = rw e (go (eqb k c))
  where
    go : (b : Bool) → 0 + length (cond b (w ∷ []) []) ≡ once b
    go true = refl
    go false = refl

ready_count : (s : PlaceState) → length (ready s) + waits s ≡ untaken s
ready_count Free = refl
ready_count Waiting = refl
ready_count (Ready w) = refl

module _ {start : Firmware} (m : Mailbox) (g : Log) (k : Kept start m g) where
  words_begin : (c : ℕ) → Begins (words_of c g.taken) (words_of c (answers_to start g.line))
  words_begin c = begins start c (words_of c g.taken) (ready (state_of m c) ++ answered c m.register) g.line k.ran (k.inside ++ waiting m) k.split (k.words c)

  none_lost : (c : ℕ) → c ≤ 7 → length (words_of c (answers_to start g.line)) ≡ length (words_of c g.taken) + untaken (state_of m c)
  none_lost c h =
      let all : length (words_of c (answers_to start g.line)) ≡ times_in c g.line = words_count c start g.line in
      let line : times_in c g.line ≡ times_in c k.ran + (times_in c k.inside + times_in c (waiting m)) = rw (k.split, times_append c k.ran, times_append c k.inside) in
      let done : length (words_of c (answers_to start k.ran)) ≡ times_in c k.ran = words_count c start k.ran in
      let had : length (words_of c g.taken) + (length (ready (state_of m c)) + length (answered c m.register)) ≡ length (words_of c (answers_to start k.ran)) = simp length-append at (ap length (k.words c)) in
      let one = inside_count c m.register k.inside k.holds in
      let two = ready_count (state_of m c) in
      let three = k.good.callers c h in
      omega arith

  reaches : g.turns ≤ length g.line
  reaches = let h = k.turns in rw (k.split, length-append) (omega arith)

  state_is : m.firmware ≡ state_after start (take g.turns g.line)
  state_is = k.state ∙ ap (state_after start) (sym (ap (take g.turns) k.split ∙ take_at k.ran _ g.turns (sym k.turns)))

  fives : {s : After Seen} → Outcome m s → number_in s.answer ≡ 5 → ⊥
  fives (nothing s same n idle) e = n e
  fives (joins c n d h l p) e = omega arith
  fives (loads p n) e = omega arith
  fives (turns c w p) e = omega arith
  fives (unloads c w p) e = omega arith
  fives (takes c w h p) e = omega arith

  -- what acted is told from what did not
  staying : {s : After Seen} → Outcome m s → acted_in s.answer ≡ false → s.mailbox ≡ m
  staying (nothing s same n idle) e = refl
  staying (joins c n d h l p) e = absurd (true≢false e)
  staying (loads p n) e = absurd (true≢false e)
  staying (turns c w p) e = absurd (true≢false e)
  staying (unloads c w p) e = absurd (true≢false e)
  staying (takes c w h p) e = absurd (true≢false e)

  long : (c : ℕ) → c ≤ 7 → c < length m.places
  long c h = let e = k.places_long in omega arith

  acting : {s : After Seen} → Outcome m s → acted_in s.answer ≡ true → s.mailbox ≡ m → ⊥
  acting (nothing s same n idle) e q = true≢false (sym e ∙ idle)
  acting (joins c n d h l p) e q = let more : m.count + 1 ≡ m.count = ap (λ (b : Mailbox). b.count) q in omega arith
  acting (loads p n) e q = let r = ap (λ (b : Mailbox). b.register) q ∙ p in cc
  acting (turns c w p) e q = let r = ap (λ (b : Mailbox). b.register) q ∙ p in cc
  acting (unloads c w p) e q = let r = ap (λ (b : Mailbox). b.register) q ∙ p in cc
  acting (takes c w h p) e q = let r = sym (at_same m.places c Free (long c h)) ∙ (ap (λ (b : Mailbox). state_of b c) q ∙ p) in cc

  -- ---- service
  joining : (c n d : ℕ) (bits : Sixteen d) → c ≤ 7 → n ≤ 0x3FF → state_of m c ≡ Free → Joins m (post_by c n d) (call_of m (post c n d bits))
  joining c n d bits h l e =
      subst (Joins m (post_by c n d)) (ap (seen_as (posted c n d)) (join_is m (good m g k) c n d h l e))
      (record {
        answer = refl;
        register = refl;
        line = join_line m g k c n d h l e (room m c k.line_long (consistent_test m k.good) h e);
        place = at_same m.places c Waiting (long c h);
        others = at_other m.places c Waiting;
        firmware = refl;
      })

  module _ (idle : m.register ≡ Idle) (more : g.turns < length g.line) where
    line_is : g.line ≡ k.ran ++ waiting m
    line_is = let e : k.inside ≡ [] = subst (λ r. Holds r k.inside) idle k.holds in k.split ∙ rw e

    some : m.count ≡ 0 → ⊥
    some z =
        let l : length g.line ≡ length k.ran + length (waiting m) = ap length line_is ∙ length-append k.ran (waiting m) in
        let n : length (waiting m) ≡ 0 = rw z in
        let t = k.turns in
        omega arith

    oldest : get_or g.line g.turns no_post ≡ get_or m.line 0 no_post
    oldest = rw (line_is, load_line m g k idle some) (get_or_at k.ran _ _ no_post g.turns (sym k.turns))

    loading : Loads m (get_or g.line g.turns no_post) (call_of m load)
    loading =
        rw oldest (subst (Loads m (get_or m.line 0 no_post)) (ap (seen_as loaded) (load_is m (good m g k) idle some))
        (record { answer = refl; register = refl; line = load_line m g k idle some; places = refl; firmware = refl }))

  turning : (c w : ℕ) → m.register ≡ Command c w → Turns m c w (call_of m turn)
  turning c w e =
      subst (Turns m c w) (ap (seen_as turned) (turn_is m (good m g k) c w e)) (record { answer = refl; register = refl; line = refl; places = refl; firmware = refl })

  unloading : (c w : ℕ) → m.register ≡ Response c w → Unloads m c w (call_of m unload)
  unloading c w e =
      subst (Unloads m c w) (ap (seen_as unloaded) (unload_is m (good m g k) c w e))
      (record {
        answer = refl;
        register = refl;
        line = refl;
        place = at_same m.places c (Ready w) (long c (unload_low m g k c w e));
        others = at_other m.places c (Ready w);
        firmware = refl;
      })

  taking : (c w : ℕ) → c ≤ 7 → state_of m c ≡ Ready w → Takes m c w (call_of m (take_word c))
  taking c w h e =
      subst (Takes m c w) (ap (seen_as (took c)) (take_is m (good m g k) c w h e))
      (record { answer = refl; register = refl; line = refl; place = at_same m.places c Free (long c h); others = at_other m.places c Free; firmware = refl })

  pub asked : Demand3 call_of start m g
  asked = record {
    words = words_begin;
    kept = none_lost;
    reached = reaches;
    firmware = state_is;
    never5 = λ call. fives (outcome m (good m g k) call);
    stays = λ call. staying (outcome m (good m g k) call);
    acts = λ call. acting (outcome m (good m g k) call);
    posts = joining;
    loads = loading;
    turns = turning;
    unloads = unloading;
    takes = taking;
  }

-- before firmware in any state
pub demand3_from : DemandThreeFrom
demand3_from start calls =
    let r = played call_of (from (mailbox_before start)) calls in
    asked r.mailbox r.log (run_kept calls (from (mailbox_before start)) (start_kept start))

-- demand 3
pub mailbox_demand3 : DemandThree
mailbox_demand3 = demand3_from fresh_firmware

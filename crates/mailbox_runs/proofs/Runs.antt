-- Demand 3 at the boundary, proved: a run of calls through lent words is the mailbox's own run of those that had room. Assumes nothing.
use mathlib.Core.Path.{◌≡◌, refl, sym, ap, subst, ◌∙◌}
use mathlib.Core.Bool.{Bool, true, false}
use mathlib.Core.List.{List, [], ◌∷◌, ◌++◌}
use Prim.Native.Nat.{ℕ, ◌≤◌}
use native.Mathlib.Omega.{arith}
use native.Mathlib.Decide.{dec_le}
use lib.ListN.{length, get_or, drop}
use lib.Dec.{eqb, leb}
use borrow.Author.Tests.{ne_eqb}
use Rattle.reply.specs.Reply.{Reply, given, refused, alone, guard}
use Rattle.lent.specs.Lent.{number_of, words_for}
use Rattle.lent.proofs.Laws.{words_fits}
use Rattle.firmware.specs.Rules.{fresh_firmware}
use Rattle.firmware.specs.declared.Firmware.{Firmware}
use Rattle.mailbox.specs.declared.PlaceState.{PlaceState}
use Rattle.mailbox.specs.declared.PlaceState.TheVariants.{Free, Waiting, Ready}
use Rattle.mailbox.specs.declared.Mailbox.{Mailbox}
use Rattle.mailbox.specs.Machine.{post_by, no_post, state_of, is_free, fresh_mailbox}
use Rattle.mailbox.specs.Consistent.{consistent_of}
use Rattle.mailbox_calls.specs.Calls.{After, after, leaves, Accepted, accepted, taken_from, post_of, load_of, turn_of, unload_of, take_of}
use Rattle.mailbox_demand3.specs.Calls.{Call, post, load, turn, unload, take_word, Seen, posted, loaded, turned, unloaded, took, seen_as, Server, call_of, number_in, acted_in}
use Rattle.mailbox_demand3.specs.Log.{Log, noted, Run, from, stepped, played}
use Rattle.mailbox_demand3.specs.Demand3.{Joins, Loads, Turns, Unloads, Takes, Demand3}
use Rattle.mailbox_demand3.proofs.Demand3.{mailbox_demand3}
use Rattle.mailbox_layout.specs.Layout.{words_of_mailbox, pack_of, unpack_of}
use Rattle.mailbox_words.specs.Calls.{lay_accepted, lay_acted, lay_word, Left, left, fresh_words}
use Rattle.mailbox_runs.specs.Typed.{Typed}
use Rattle.mailbox_runs.specs.Faithful.{Room, values_after, Through}
use Rattle.mailbox_runs.specs.Boundary.{CallOn, on_words, read_as, first_of, seen_on, RunOn, run_on, noting, played_on, from_fresh, behind_of, unless_short, with_room, server_on}
use Rattle.mailbox_runs.specs.Runs.{own_run, SameRuns, Demand3AtTheBoundary}
use Rattle.mailbox_runs.proofs.Faithful.{all_faithful}

-- ---- a refusal of the mailbox has a number of its own: neither 0 nor 12, and nothing beside it
abbrev Plain : {A : Type 0} → Reply A → Type 0
Plain (given a) = Unit {0}
Plain (refused number carried) = (carried ≡ alone) × (number ≡ 0 → ⊥) × (number ≡ 12 → ⊥)

module _ (m : Mailbox) where
  past_check : {A : Type 0} (b : Bool) (n : ℕ) (x : Reply (After A)) → (n ≡ 0 → ⊥) → (n ≡ 12 → ⊥) → Plain (leaves m x).answer → Plain (leaves m (guard b n x)).answer
  past_check true n x z t h = h
  past_check false n x z t h = (refl, z, t)

  post_plain : (c n d : ℕ) → Plain (post_of m c n d).answer
  unfolding post_of
  post_plain c n d =
      past_check (consistent_of m) 5 _ (λ e. omega arith) (λ e. omega arith)
      (past_check (leb c 7) 9 _ (λ e. omega arith) (λ e. omega arith)
      (past_check (leb n 0x3FF) 9 _ (λ e. omega arith) (λ e. omega arith)
      (past_check (is_free (state_of m c)) 10 _ (λ e. omega arith) (λ e. omega arith) tt)))

  load_plain : Plain (load_of m).answer
  unfolding load_of
  load_plain = past_check (consistent_of m) 5 _ (λ e. omega arith) (λ e. omega arith) tt

  turn_plain : Plain (turn_of m).answer
  unfolding turn_of
  turn_plain = past_check (consistent_of m) 5 _ (λ e. omega arith) (λ e. omega arith) tt

  unload_plain : Plain (unload_of m).answer
  unfolding unload_of
  unload_plain = past_check (consistent_of m) 5 _ (λ e. omega arith) (λ e. omega arith) tt

  take_plain : (c : ℕ) → Plain (take_of m c).answer
  unfolding take_of
  take_plain c =
      past_check (consistent_of m) 5 _ (λ e. omega arith) (λ e. omega arith)
      (past_check (leb c 7) 9 _ (λ e. omega arith) (λ e. omega arith) (go (state_of m c)))
    where
      go : (s : PlaceState) → Plain (leaves m (taken_from m c s)).answer
      go Free = (refl, λ e. omega arith, λ e. omega arith)
      go Waiting = (refl, λ e. omega arith, λ e. omega arith)
      go (Ready w) = tt

-- ---- what is laid into the value words is read there
first_laid : (v : ℕ) (values : List ℕ) → 1 ≤ length values → first_of (words_for (v ∷ []) values) ≡ v
first_laid v values room = ap first_of (sym (words_fits (v ∷ []) values room))

accepted_back : (a : Accepted) (values : List ℕ) → length (lay_accepted a) ≤ length values → accepted ≡ a
accepted_back accepted values room = refl

acted_back : (b : Bool) (values : List ℕ) → length (lay_acted b) ≤ length values → eqb (first_of (words_for (lay_acted b) values)) 1 ≡ b
acted_back true values room = ap (λ v. eqb v 1) (first_laid 1 values room)
acted_back false values room = ap (λ v. eqb v 1) (first_laid 0 values room)

word_back_lem : (w : ℕ) (values : List ℕ) → length (lay_word w) ≤ length values → first_of (words_for (lay_word w) values) ≡ w
word_back_lem w values room = first_laid w values room

-- ---- what one call leaves on the words of a mailbox
data StepOn (m : Mailbox) (behind values : List ℕ) (seen : (number : ℕ) (values : List ℕ) → Seen) (s : After Seen) : Left → Type 0 where
  -- what the mailbox's own call leaves
  served : (l : Left) → eqb l.number 12 ≡ false → l.words ≡ pack_of s.mailbox ++ behind → seen l.number l.values ≡ s.answer → Typed s.mailbox → StepOn m behind values seen s l
  -- or nothing, where there is no value word
  short : length values ≡ 0 → StepOn m behind values seen s (left 12 (pack_of m ++ behind) values)

module _ {A : Type 0} (lay : A → List ℕ) (small : (a : A) → length (lay a) ≤ 1) (read : List ℕ → A)
    (back : (a : A) (values : List ℕ) → length (lay a) ≤ length values → read (words_for (lay a) values) ≡ a) (how : Reply A → Seen) where
  told : (r : Reply A) (values : List ℕ) → Plain r → Room lay r values → read_as (read (values_after lay r values)) (number_of r) ≡ r
  told (given a) values p room = ap given (back a values room)
  told (refused n carried) values p room = rw (ne_eqb n 0 p.1, p.0)

  not_12 : (r : Reply A) → Plain r → eqb (number_of r) 12 ≡ false
  not_12 (given a) p = refl
  not_12 (refused n carried) p = ne_eqb n 12 p.2

  has_room : (r : Reply A) (values : List ℕ) → Dec (Room lay r values)
  has_room (given a) values = dec_le (length (lay a)) (length values)
  has_room (refused n carried) values = yes tt

  no_word : (r : Reply A) (values : List ℕ) → (Room lay r values → ⊥) → length values ≡ 0
  no_word (given a) values none = let h = small a in omega arith
  no_word (refused n carried) values none = absurd (none tt)

  module _ (m : Mailbox) (a : After (Reply A)) (on : (words values : List ℕ) → Left) (t : Through lay a on m) (p : Plain a.answer) (behind values : List ℕ) where
    abbrev seen : (number : ℕ) (values : List ℕ) → Seen
    seen number now = how (read_as (read now) number)

    step_of : StepOn m behind values seen (seen_as how a) (on (pack_of m ++ behind) values)
    step_of = go (has_room a.answer values)
      where
        go : Dec (Room lay a.answer values) → StepOn m behind values seen (seen_as how a) (on (pack_of m ++ behind) values)
        go (yes room) =
            let n = t.number behind values room in
            let v = t.values behind values room in
            served (on (pack_of m ++ behind) values) (rw n (not_12 a.answer p)) (t.words behind values room) (rw (n, v) (ap how (told a.answer values p room))) t.typed
        go (no none) = subst (StepOn m behind values seen (seen_as how a)) (sym (t.no_room behind values none)) (short (no_word a.answer values none))

module _ (m : Mailbox) (k : Typed m) (behind values : List ℕ) where
  acted_on : (how : Reply Bool → Seen) (a : After (Reply Bool)) (on : (words values : List ℕ) → Left) → Through lay_acted a on m → Plain a.answer
      → StepOn m behind values (λ number now. how (read_as (eqb (first_of now) 1) number)) (seen_as how a) (on (pack_of m ++ behind) values)
  acted_on how a on t p = step_of lay_acted (λ b. omega arith) (λ now. eqb (first_of now) 1) acted_back how m a on t p behind values

  step_on : (call : Call) → StepOn m behind values (seen_on call) (call_of m call) (on_words (pack_of m ++ behind) call values)
  step_on (post c n d bits) =
      let t = (all_faithful.all m k).post_through c n d bits in
      step_of lay_accepted (λ a. omega arith) (λ now. accepted) accepted_back (posted c n d) m (post_of m c n d) _ t (post_plain m c n d) behind values
  step_on load = acted_on loaded (load_of m) _ (all_faithful.all m k).load_through (load_plain m)
  step_on turn = acted_on turned (turn_of m) _ (all_faithful.all m k).turn_through (turn_plain m)
  step_on unload = acted_on unloaded (unload_of m) _ (all_faithful.all m k).unload_through (unload_plain m)
  step_on (take_word c) =
      step_of lay_word (λ w. omega arith) first_of word_back_lem (took c) m (take_of m c) _ ((all_faithful.all m k).take_through c) (take_plain m c) behind values

-- a call without room is not in the log
short_noted : (g : Log) (call : Call) (values : List ℕ) → noted g (seen_on call 12 values) ≡ g
short_noted g (post c n d bits) values = refl
short_noted g load values = refl
short_noted g turn values = refl
short_noted g unload values = refl
short_noted g (take_word c) values = refl

-- ---- the runs
-- a run of the mailbox, as it stands in words
abbrev in_words : Run → (behind : List ℕ) → RunOn
in_words r behind = run_on (pack_of r.mailbox ++ behind) r.log

-- a run on words ends as the mailbox's own run of these calls
abbrev EndsAs : Run → (behind : List ℕ) → RunOn → List Call → Type 0
EndsAs r behind on calls = (on ≡ in_words (played call_of r calls) behind) × Typed (played call_of r calls).mailbox

module _ (r : Run) (behind : List ℕ) (c : CallOn) (calls : List CallOn) where
  abbrev next : Run
  next = stepped call_of r c.call

  -- by what the first call leaves, and the rest of the run
  one_more : EndsAs r behind (played_on (in_words r behind) calls) (with_room (pack_of r.mailbox ++ behind) calls)
      → (Typed next.mailbox → EndsAs next behind (played_on (in_words next behind) calls) (with_room (pack_of next.mailbox ++ behind) calls))
      → {l : Left} → StepOn r.mailbox behind c.values (seen_on c.call) (call_of r.mailbox c.call) l
      → EndsAs r behind (played_on (noting r.log c.call l) calls) (unless_short l.number c.call (with_room l.words calls))
  unfolding played
  one_more stay go (served l n w s t) =
      let ended = subst (λ on. EndsAs next behind (played_on on calls) (with_room (pack_of next.mailbox ++ behind) calls)) (λ i. run_on (sym w i) (noted r.log (sym s i))) (go t) in
      let listed = subst (λ ws. EndsAs next behind (played_on (noting r.log c.call l) calls) (with_room ws calls)) (sym w) ended in
      rw n listed
  one_more stay go (short e) =
      subst (λ g. EndsAs r behind (played_on (run_on (pack_of r.mailbox ++ behind) g) calls) (with_room (pack_of r.mailbox ++ behind) calls)) (sym (short_noted r.log c.call c.values)) stay

ends : (calls : List CallOn) (r : Run) (behind : List ℕ) → Typed r.mailbox → EndsAs r behind (played_on (in_words r behind) calls) (with_room (pack_of r.mailbox ++ behind) calls)
unfolding played_on with_room played
ends [] r behind k = (refl, k)
ends (c ∷ calls) r behind k =
    one_more r behind c calls (ends calls r behind k) (ends calls (stepped call_of r c.call) behind)
    (step_on r.mailbox k behind c.values c.call)

-- the words that `fresh` leaves
module _ (lent : List ℕ) (long : words_of_mailbox ≤ length lent) where
  begun : words_for fresh_words lent ≡ fresh_words ++ behind_of lent
  begun =
      let n = (all_faithful.all fresh_mailbox all_faithful.fresh).long in
      sym (words_fits fresh_words lent (omega arith)) ∙ ap (λ i. fresh_words ++ drop i lent) n

  fresh_ends : (calls : List CallOn) → EndsAs (from fresh_mailbox) (behind_of lent) (played_on (from_fresh lent) calls) (with_room (words_for fresh_words lent) calls)
  fresh_ends calls =
      subst (λ ws. EndsAs (from fresh_mailbox) (behind_of lent) (played_on (run_on ws (from fresh_mailbox).log) calls) (with_room ws calls)) (sym begun)
      (ends calls (from fresh_mailbox) (behind_of lent) all_faithful.fresh)

pub same_runs : SameRuns
same_runs lent long calls =
    let e = fresh_ends lent long calls in
    record { words = ap (λ (r : RunOn). r.words) e.0; log = ap (λ (r : RunOn). r.log) e.0; further = all_faithful.all (own_run lent calls).mailbox e.1 }

-- ---- the words as a server
module _ (m : Mailbox) (k : Typed m) (behind : List ℕ) (v : ℕ) (more : List ℕ) where
  -- one value word is room enough, and the mailbox is read back
  read_back : (call : Call) {l : Left} → StepOn m behind (v ∷ more) (seen_on call) (call_of m call) l → after (unpack_of l.words) (seen_on call l.number l.values) ≡ call_of m call
  read_back call (served l n w s t) =
      let same : unpack_of l.words ≡ (call_of m call).mailbox = ap unpack_of w ∙ (all_faithful.all (call_of m call).mailbox t).back behind in
      λ i. after (same i) (s i)
  read_back call (short e) = absurd (omega arith)

  alike : (call : Call) → server_on behind (v ∷ more) m call ≡ call_of m call
  alike call = read_back call (step_on m k behind (v ∷ more) call)

-- what serves a mailbox alike keeps demand 3
served_alike : (serve other : Server) (start : Firmware) (m : Mailbox) (g : Log) → ((call : Call) → other m call ≡ serve m call) → Demand3 serve start m g → Demand3 other start m g
served_alike serve other start m g e d = record {
  words = d.words;
  kept = d.kept;
  reached = d.reached;
  firmware = d.firmware;
  never5 = λ call. subst (λ (s : After Seen). number_in s.answer ≡ 5 → ⊥) (sym (e call)) (d.never5 call);
  stays = λ call. subst (λ (s : After Seen). acted_in s.answer ≡ false → s.mailbox ≡ m) (sym (e call)) (d.stays call);
  acts = λ call. subst (λ (s : After Seen). acted_in s.answer ≡ true → s.mailbox ≡ m → ⊥) (sym (e call)) (d.acts call);
  posts = λ c n x bits h l f. subst (Joins m (post_by c n x)) (sym (e (post c n x bits))) (d.posts c n x bits h l f);
  loads = λ idle some. subst (Loads m (get_or g.line g.turns no_post)) (sym (e load)) (d.loads idle some);
  turns = λ c w h. subst (Turns m c w) (sym (e turn)) (d.turns c w h);
  unloads = λ c w h. subst (Unloads m c w) (sym (e unload)) (d.unloads c w h);
  takes = λ c w h r. subst (Takes m c w) (sym (e (take_word c))) (d.takes c w h r);
}

pub demand3_at_the_boundary : Demand3AtTheBoundary
demand3_at_the_boundary lent long calls =
    let e = fresh_ends lent long calls in
    let r = own_run lent calls in
    let log = (played_on (from_fresh lent) calls).log in
    let asked : Demand3 call_of fresh_firmware r.mailbox log = subst (Demand3 call_of fresh_firmware r.mailbox) (ap (λ (on : RunOn). on.log) (sym e.0)) (mailbox_demand3 (with_room (words_for fresh_words lent) calls)) in
    record {
      mailbox = r.mailbox;
      words = ap (λ (on : RunOn). on.words) e.0;
      own = asked;
      served = λ v more. served_alike call_of (server_on (behind_of lent) (v ∷ more)) fresh_firmware r.mailbox log (alike r.mailbox e.1 (behind_of lent) v more) asked;
    }

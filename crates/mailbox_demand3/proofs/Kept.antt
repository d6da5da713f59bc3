-- What every run keeps: the accepted line is the posts turned, then the one in the register, then those that wait; and each caller's
-- words taken, with the one in its place and the one in the register, are what the posts turned are answered. Assumes nothing.
use mathlib.Core.Bool.{true, cond, ◌&&◌}
use mathlib.Core.List.{List, [], ◌∷◌, ◌++◌, append_assoc, append-nil}
use mathlib.Core.Path.{◌≡◌, refl, sym, ap, ◌∙◌, subst}
use Prim.Native.Nat.{ℕ, ◌+◌, ◌/◌, ◌<◌, ◌≤◌}
use native.Mathlib.Omega.{arith}
use native.Mathlib.Decide.{ℕ_discrete}
use lib.ListN.{length, get_or, set, length-append, length-set}
use lib.Seq.{get_or-set_same, get_or-set_other}
use lib.Dec.{eqb, leb}
use borrow.Author.Tests.{eq-eqb, ne_eqb, le-leb, leb-true}
use Rattle.reply.specs.Reply.{given}
use Rattle.firmware.specs.Word.{word_of}
use Rattle.firmware.specs.declared.Firmware.{Firmware}
use Rattle.std.proofs.lemmas.Bool.{and_parts}
use Rattle.mailbox.specs.declared.Phase.{Phase}
use Rattle.mailbox.specs.declared.Phase.TheVariants.{Idle, Command, Response}
use Rattle.mailbox.specs.declared.PlaceState.{PlaceState}
use Rattle.mailbox.specs.declared.PlaceState.TheVariants.{Free, Waiting, Ready}
use Rattle.mailbox.specs.declared.Place.{Place}
use Rattle.mailbox.specs.declared.Post.{Post}
use Rattle.mailbox.specs.declared.Mailbox.{Mailbox}
use Rattle.mailbox.specs.Machine.{post_by, no_post, command_word, waiting, place_with, state_at, state_of, joined, with_oldest, with_response, handed_over, freed}
use Rattle.mailbox.specs.Consistent.{post_fits, posts_fit, register_fits, times_in, register_holds, waits}
use Rattle.mailbox_calls.specs.Calls.{accepted}
use Rattle.mailbox.proofs.ConsistentLaws.{times_append, fit_append}
use Rattle.mailbox.proofs.LineLaws.{shifted_long, line_first, line_last}
use Rattle.mailbox.proofs.Facts.{Consistent, waits_one}
use Rattle.mailbox_demand3.specs.Calls.{posted, loaded, turned, unloaded, took}
use Rattle.mailbox_demand3.specs.Log.{got, Log, noted}
use Rattle.mailbox_demand3.specs.Sequence.{state_after, answers_to, words_of}
use Rattle.mailbox_demand3.proofs.SequenceLaws.{state_append, answers_append, words_append}

-- the accepted posts that the register holds as commands
abbrev pub Holds : Phase → List Post → Type 0
Holds Idle inside = inside ≡ []
Holds (Command c w) inside = (p : Post) × (inside ≡ p ∷ []) × (p.caller ≡ c) × (command_word p ≡ w)
Holds (Response c w) inside = inside ≡ []

-- the word in a place, and the caller's word in the register
abbrev pub ready : PlaceState → List ℕ
ready Free = []
ready Waiting = []
ready (Ready w) = w ∷ []

abbrev pub answered : ℕ → Phase → List ℕ
answered c Idle = []
answered c (Command k w) = []
answered c (Response k w) = cond (eqb k c) (w ∷ []) []

pub record Kept (start : Firmware) (m : Mailbox) (g : Log) : Type 0 where
  pub good : Consistent m
  pub line_long : length m.line ≡ 8
  pub places_long : length m.places ≡ 8
  pub ran : List Post
  pub inside : List Post
  pub holds : Holds m.register inside
  pub split : g.line ≡ ran ++ (inside ++ waiting m)
  pub turns : g.turns ≡ length ran
  pub state : m.firmware ≡ state_after start ran
  pub words : (c : ℕ) → words_of c g.taken ++ (ready (state_of m c) ++ answered c m.register) ≡ words_of c (answers_to start ran)

-- ---- a place after one is set
module _ (l : List Place) (c : ℕ) (s : PlaceState) where
  pub at_same : c < length l → state_at (set l c (place_with s)) c ≡ s
  at_same h = ap (λ (p : Place). p.state) (get_or-set_same l c (place_with s) (place_with Free) h)

  pub at_other : (i : ℕ) → (i ≡ c → ⊥) → state_at (set l c (place_with s)) i ≡ state_at l i
  at_other i h = ap (λ (p : Place). p.state) (get_or-set_other l c i (place_with s) (place_with Free) h)

-- what holds of every place after one is set: of that one, and of each other
module _ (P : ℕ → PlaceState → Type 0) (l : List Place) (c : ℕ) (s : PlaceState) where
  at_every : c < length l → P c s → ((i : ℕ) → (i ≡ c → ⊥) → P i (state_at l i)) → (i : ℕ) → P i (state_at (set l c (place_with s)) i)
  at_every h here others i = go (ℕ_discrete i c)
    where
      go : Dec (i ≡ c) → P i (state_at (set l c (place_with s)) i)
      go (yes e) = rw (e, at_same l c s h) here
      go (no n) = rw (at_other l c s i n) (others i n)

module _ {start : Firmware} (m : Mailbox) (g : Log) (k : Kept start m g) where
  long : (c : ℕ) → c ≤ 7 → c < length m.places
  long c h = let e = k.places_long in omega arith

  -- ---- post
  module _ (c n d : ℕ) (low : c ≤ 7) (fit : n ≤ 0x3FF) (is_free : state_of m c ≡ Free) (has : m.count < 8) where
    abbrev p : Post
    p = post_by c n d

    pub join_line : waiting (joined m c n d) ≡ waiting m ++ (p ∷ [])
    join_line = line_last m.line m.count p (let h = k.line_long in omega arith)

    join_fits : posts_fit (waiting m ++ (p ∷ [])) ≡ true
    unfolding posts_fit
    join_fits = rw (fit_append, k.good.posts, le-leb _ _ low, le-leb _ _ fit)

    join_callers : (i : ℕ) → i ≤ 7 → times_in i (waiting m ++ (p ∷ [])) + register_holds i m.register ≡ waits (state_of (joined m c n d) i)
    unfolding times_in
    join_callers =
        at_every (λ i s. i ≤ 7 → times_in i (waiting m ++ (p ∷ [])) + register_holds i m.register ≡ waits s) m.places c Waiting (long c low)
        (λ h. let q : times_in c (waiting m) + register_holds c m.register ≡ 0 = rw is_free at (k.good.callers c h) in rw (times_append, eq-eqb c c refl) (omega arith))
        (λ i ne h. let q = k.good.callers i h in rw (times_append, ne_eqb c i (λ e. ne (sym e))) (omega arith))

    join_words : (i : ℕ) → ready (state_of (joined m c n d) i) ≡ ready (state_of m i)
    join_words = at_every (λ i s. ready s ≡ ready (state_of m i)) m.places c Waiting (long c low) (rw is_free) (λ i ne. refl)

    pub join_kept : Kept start (joined m c n d) (noted g (posted c n d (given accepted)))
    join_kept = record {
      good = record { short = omega arith; posts = rw join_line join_fits; register = k.good.register; callers = λ i h. rw join_line (join_callers i h) };
      line_long = length-set m.line m.count p ∙ k.line_long;
      places_long = length-set m.places c (place_with Waiting) ∙ k.places_long;
      ran = k.ran;
      inside = k.inside;
      holds = k.holds;
      split = rw (join_line, k.split) (simp append_assoc);
      turns = k.turns;
      state = k.state;
      words = λ i. rw (join_words i) (k.words i);
    }

  -- ---- load
  module _ (idle : m.register ≡ Idle) (some : m.count ≡ 0 → ⊥) where
    abbrev first : Post
    first = get_or m.line 0 no_post

    pub load_line : waiting m ≡ first ∷ waiting (with_oldest m)
    load_line = line_first m.line m.count (let h = k.line_long in let s = k.good.short in omega arith) some

    load_fits : post_fits first && posts_fit (waiting (with_oldest m)) ≡ true
    unfolding posts_fit
    load_fits = rw load_line at k.good.posts

    load_command : leb (command_word first / 0x1_0000) 0x3FF ≡ true
    unfolding word_of
    load_command = let h : command_word first / 0x1_0000 ≤ 0x3FF = omega arith in le-leb _ _ h

    load_callers : (i : ℕ) → i ≤ 7 → times_in i (waiting (with_oldest m)) + register_holds i (with_oldest m).register ≡ waits (state_of m i)
    unfolding times_in register_holds
    load_callers i h = let q = rw (load_line, idle) at (k.good.callers i h) in omega arith

    load_inside : k.inside ≡ []
    load_inside = subst (λ r. Holds r k.inside) idle k.holds

    pub load_kept : Kept start (with_oldest m) (noted g (loaded (given true)))
    unfolding register_fits
    load_kept =
        let b = and_parts (post_fits first) (posts_fit (waiting (with_oldest m))) load_fits in
        let f = and_parts (leb first.caller 7) (leb first.command 0x3FF) b.0 in
        record {
          good = record { short = let h = k.good.short in omega arith; posts = b.1; register = rw (f.0, load_command); callers = load_callers };
          line_long = shifted_long m.line k.line_long;
          places_long = k.places_long;
          ran = k.ran;
          inside = first ∷ [];
          holds = (first, refl, refl, refl);
          split = k.split ∙ ap (λ t. k.ran ++ t) (rw (load_inside, load_line));
          turns = k.turns;
          state = k.state;
          words = λ i. rw idle at (k.words i);
        }

  -- ---- turn
  module _ (c w : ℕ) (is : m.register ≡ Command c w) where
    turn_low : leb c 7 ≡ true
    unfolding register_fits
    turn_low = (and_parts _ _ (rw is at k.good.register)).0

    turn_callers : (i : ℕ) → i ≤ 7 → times_in i (waiting m) + register_holds i (with_response m c w).register ≡ waits (state_of m i)
    unfolding register_holds
    turn_callers i h = let q = rw is at (k.good.callers i h) in omega arith

    turn_inside : Holds (Command c w) k.inside
    turn_inside = subst (λ r. Holds r k.inside) is k.holds

    turn_words : (i : ℕ) (p : Post) → p.caller ≡ c → command_word p ≡ w
        → words_of i g.taken ++ (ready (state_of m i) ++ answered i (with_response m c w).register) ≡ words_of i (answers_to start (k.ran ++ (p ∷ [])))
    unfolding words_of answers_to
    turn_words i p e q =
        let h : words_of i g.taken ++ ready (state_of m i) ≡ words_of i (answers_to start k.ran) = rw (is, append-nil) at (k.words i) in
        rw (answers_append, words_append, e, q, ← h, ← k.state, append_assoc)

    turn_to : (p : Post) → k.inside ≡ p ∷ [] → p.caller ≡ c → command_word p ≡ w → Kept start (with_response m c w) (noted g (turned (given true)))
    unfolding register_fits state_after
    turn_to p only e q = record {
      good = record { short = k.good.short; posts = k.good.posts; register = turn_low; callers = turn_callers };
      line_long = k.line_long;
      places_long = k.places_long;
      ran = k.ran ++ (p ∷ []);
      inside = [];
      holds = refl;
      split = k.split ∙ rw (only, append_assoc);
      turns = let h = k.turns in rw length-append (omega arith);
      state = rw (state_append, ← k.state, ← q);
      words = λ i. turn_words i p e q;
    }

    pub turn_kept : Kept start (with_response m c w) (noted g (turned (given true)))
    turn_kept = let h = turn_inside in turn_to h.0 h.1 h.2 h.3

  -- ---- unload
  module _ (c w : ℕ) (is : m.register ≡ Response c w) where
    pub unload_low : c ≤ 7
    unfolding register_fits
    unload_low = leb-true c 7 (rw is at k.good.register)

    -- the caller's place waits
    unload_waits : state_of m c ≡ Waiting
    unfolding register_holds
    unload_waits = waits_one (state_of m c) (let q = rw (is, eq-eqb c c refl) at (k.good.callers c unload_low) in omega arith)

    unload_callers : (i : ℕ) → i ≤ 7 → times_in i (waiting m) + register_holds i Idle ≡ waits (state_of (handed_over m c w) i)
    unfolding register_holds
    unload_callers =
        at_every (λ i s. i ≤ 7 → times_in i (waiting m) + 0 ≡ waits s) m.places c (Ready w) (long c unload_low)
        (λ h. let q = rw (is, unload_waits, eq-eqb c c refl) at (k.good.callers c h) in omega arith)
        (λ i ne h. rw (is, ne_eqb c i (λ e. ne (sym e))) at (k.good.callers i h))

    unload_words : (i : ℕ) → ready (state_of (handed_over m c w) i) ++ [] ≡ ready (state_of m i) ++ answered i m.register
    unload_words =
        at_every (λ i s. ready s ++ [] ≡ ready (state_of m i) ++ answered i m.register) m.places c (Ready w) (long c unload_low)
        (rw (unload_waits, is, eq-eqb c c refl)) (λ i ne. rw (is, ne_eqb c i (λ e. ne (sym e))))

    pub unload_kept : Kept start (handed_over m c w) (noted g (unloaded (given true)))
    unfolding register_fits
    unload_kept = record {
      good = record { short = k.good.short; posts = k.good.posts; register = refl; callers = unload_callers };
      line_long = k.line_long;
      places_long = length-set m.places c (place_with (Ready w)) ∙ k.places_long;
      ran = k.ran;
      inside = k.inside;
      holds = subst (λ r. Holds r k.inside) is k.holds;
      split = k.split;
      turns = k.turns;
      state = k.state;
      words = λ i. ap (λ t. words_of i g.taken ++ t) (unload_words i) ∙ k.words i;
    }

  -- ---- take
  module _ (c w : ℕ) (low : c ≤ 7) (is : state_of m c ≡ Ready w) where
    take_callers : (i : ℕ) → i ≤ 7 → times_in i (waiting m) + register_holds i m.register ≡ waits (state_of (freed m c) i)
    take_callers =
        at_every (λ i s. i ≤ 7 → times_in i (waiting m) + register_holds i m.register ≡ waits s) m.places c Free (long c low)
        (λ h. rw is at (k.good.callers c h)) (λ i ne h. k.good.callers i h)

    take_words : (i : ℕ) → words_of i (g.taken ++ (got c w ∷ [])) ++ (ready (state_of (freed m c) i) ++ answered i m.register)
        ≡ words_of i g.taken ++ (ready (state_of m i) ++ answered i m.register)
    unfolding words_of
    take_words =
        at_every
        (λ i s. words_of i (g.taken ++ (got c w ∷ [])) ++ (ready s ++ answered i m.register) ≡ words_of i g.taken ++ (ready (state_of m i) ++ answered i m.register))
        m.places c Free (long c low) (rw (words_append, is, eq-eqb c c refl, append_assoc)) (λ i ne. rw (words_append, ne_eqb c i (λ e. ne (sym e)), append-nil))

    pub take_kept : Kept start (freed m c) (noted g (took c (given w)))
    take_kept = record {
      good = record { short = k.good.short; posts = k.good.posts; register = k.good.register; callers = take_callers };
      line_long = k.line_long;
      places_long = length-set m.places c (place_with Free) ∙ k.places_long;
      ran = k.ran;
      inside = k.inside;
      holds = k.holds;
      split = k.split;
      turns = k.turns;
      state = k.state;
      words = λ i. take_words i ∙ k.words i;
    }

-- The test of consistency accepts exactly the good mailboxes. Assumes nothing.
use mathlib.Core.Bool.{true}
use mathlib.Core.Logic.{◌⊎◌, inl, inr}
use mathlib.Core.Path.{◌≡◌, refl, sym, ap, ◌∙◌}
use Prim.Native.Nat.{ℕ, ◌+◌, ◌/◌, ◌<◌, ◌≤◌}
use native.Mathlib.Omega.{arith}
use native.Mathlib.Decide.{ℕ_discrete, dec_lt}
use lib.ListN.{length}
use lib.Seq.{get_or-take, length-take-le}
use lib.Dec.{leb}
use borrow.Author.Tests.{eq-eqb, ne_eqb, le-leb, leb-true}
use Rattle.std.proofs.lemmas.Bool.{and_parts}
use Rattle.mailbox.specs.declared.Phase.{Phase}
use Rattle.mailbox.specs.declared.Phase.TheVariants.{Idle, Command, Response}
use Rattle.mailbox.specs.declared.PlaceState.TheVariants.{Waiting}
use Rattle.mailbox.specs.declared.Mailbox.{Mailbox}
use Rattle.mailbox.specs.Machine.{no_post, waiting, state_of}
use Rattle.mailbox.specs.Consistent.{post_fits, register_fits, times_in, register_holds, waits}
use Rattle.mailbox.proofs.Facts.{Consistent, consistent_facts, consistent_test, waits_one, waits_le}
use Rattle.mailbox_good.specs.Good.{post_at, InLine, InRegister, GoodMailbox, ConsistentBothWays}
use Rattle.mailbox_good.proofs.LineFacts.{At, fit_at, fit_all, times_at, times_twice, times_found, times_found_two}

-- ---- the register
-- it holds the caller's post, once, or it does not
abbrev Held : (c : ℕ) → Phase → Type 0
Held c p = (InRegister p c × (register_holds c p ≡ 1)) ⊎ ((InRegister p c → ⊥) × (register_holds c p ≡ 0))

module _ (c : ℕ) where
  held_by : (holder word : ℕ) → Dec (holder ≡ c) → Held c (Command holder word)
  unfolding register_holds
  held_by holder word (yes e) = inl (e, rw (eq-eqb _ _ e))
  held_by holder word (no n) = inr (n, rw (ne_eqb _ _ n))

  held : (p : Phase) → Held c p
  unfolding register_holds
  held Idle = inr (λ e. e, refl)
  held (Command holder word) = held_by holder word (ℕ_discrete holder c)
  held (Response holder word) = held_by holder word (ℕ_discrete holder c)

  holds_in : (p : Phase) → InRegister p c → register_holds c p ≡ 1
  unfolding register_holds
  holds_in Idle e = absurd e
  holds_in (Command holder word) e = rw (eq-eqb _ _ e)
  holds_in (Response holder word) e = rw (eq-eqb _ _ e)

  register_low : (p : Phase) → register_fits p ≡ true → InRegister p c → c ≤ 7
  unfolding register_fits
  register_low Idle f e = absurd e
  register_low (Command holder word) f e = let h = leb-true holder 7 (and_parts _ _ f).0 in omega arith
  register_low (Response holder word) f e = let h = leb-true holder 7 f in omega arith

register_command : (p : Phase) (caller word : ℕ) → register_fits p ≡ true → p ≡ Command caller word → word < 0x400_0000
unfolding register_fits
register_command p caller word f e =
    let g : register_fits (Command caller word) ≡ true = rw e at f in
    let h = leb-true (word / 0x1_0000) 0x3FF (and_parts (leb caller 7) _ g).1 in
    omega arith

register_fits_lem : (p : Phase) → ((c : ℕ) → InRegister p c → c ≤ 7) → ((caller word : ℕ) → p ≡ Command caller word → word < 0x400_0000) → register_fits p ≡ true
unfolding register_fits
register_fits_lem Idle f g = refl
register_fits_lem (Command caller word) f g =
    let h = g caller word refl in
    rw (le-leb _ _ (f caller refl)) (le-leb (word / 0x1_0000) 0x3FF (omega arith))
register_fits_lem (Response caller word) f g = le-leb _ _ (f caller refl)

-- ---- the line
module _ (m : Mailbox) (long : length m.line ≡ 8) (short : m.count ≤ 8) where
  line_long : length (waiting m) ≡ m.count
  line_long = length-take-le m.count m.line (omega arith)

  there : (c i : ℕ) → InLine m c i → At c (waiting m) i
  there c i a =
      let h = a.0 in
      let l = line_long in
      (omega arith, ap (λ p. p.caller) (get_or-take m.count m.line i no_post h) ∙ a.1)

  back : (c i : ℕ) → At c (waiting m) i → InLine m c i
  back c i a =
      let l = line_long in
      let k = a.0 in
      let h : i < m.count = omega arith in
      (h, sym (ap (λ p. p.caller) (get_or-take m.count m.line i no_post h)) ∙ a.1)

-- ---- a mailbox that passes is good
module _ (m : Mailbox) (long : length m.line ≡ 8) (k : Consistent m) where
  fits : (i : ℕ) → i < m.count → post_fits (post_at m i) ≡ true
  fits i h =
      let l = line_long m long k.short in
      let f = fit_at (waiting m) i k.posts (omega arith) in
      rw (get_or-take m.count m.line i no_post h) at f

  low : (c i : ℕ) → InLine m c i → c ≤ 7
  low c i a =
      let h = leb-true (post_at m i).caller 7 (and_parts (leb (post_at m i).caller 7) _ (fits i a.0)).0 in
      let e = a.1 in
      omega arith

  -- one that is in line is the only one, and its place says so
  line_one : (c i : ℕ) → InLine m c i → (times_in c (waiting m) ≡ 1) × (register_holds c m.register ≡ 0) × (state_of m c ≡ Waiting)
  line_one c i a =
      let e = k.callers c (low c i a) in
      let t = times_at c (waiting m) i (there m long k.short c i a) in
      let w = waits_le (state_of m c) in
      (omega arith, omega arith, waits_one (state_of m c) (omega arith))

  one_index : (c i j : ℕ) → InLine m c i → InLine m c j → Dec (i ≡ j) → Dec (i < j) → i ≡ j
  one_index c i j a b (yes e) l = e
  one_index c i j a b (no n) (yes l) =
      let t = times_twice c (waiting m) i j l (there m long k.short c i a) (there m long k.short c j b) in
      let o = (line_one c i a).0 in
      absurd (omega arith)
  one_index c i j a b (no n) (no l) =
      let t = times_twice c (waiting m) j i (omega arith) (there m long k.short c j b) (there m long k.short c i a) in
      let o = (line_one c i a).0 in
      absurd (omega arith)

  found : (c : ℕ) → times_in c (waiting m) + register_holds c m.register ≡ 1 → Held c m.register → ((i : ℕ) × InLine m c i) ⊎ InRegister m.register c
  found c e (inl r) = inr r.0
  found c e (inr r) =
      let z = r.1 in
      let t = times_found c (waiting m) (omega arith) in
      inl (t.0, back m long k.short c t.0 t.1)

  pub good : GoodMailbox m
  good = record {
    short = k.short;
    line_once = λ c i j a b. one_index c i j a b (ℕ_discrete i j) (dec_lt i j);
    line_or_register = λ c i a r. let z = (line_one c i a).1 in let o = holds_in c m.register r in omega arith;
    line_waits = λ c i a. (line_one c i a).2;
    register_waits = λ c r.
        let e = k.callers c (register_low c m.register k.register r) in
        let o = holds_in c m.register r in
        waits_one (state_of m c) (omega arith);
    waits_for_one = λ c h s. found c (k.callers c h ∙ ap waits s) (held c m.register);
    line_caller = low;
    register_caller = λ c r. let h = register_low c m.register k.register r in omega arith;
    line_command = λ i h. leb-true (post_at m i).command 0x3FF (and_parts (leb (post_at m i).caller 7) _ (fits i h)).1;
    register_command = λ c w e. let h = register_command m.register c w k.register e in omega arith;
  }

-- ---- a good mailbox passes
module _ (m : Mailbox) (long : length m.line ≡ 8) (g : GoodMailbox m) where
  none : (c : ℕ) → ((i : ℕ) → InLine m c i → ⊥) → times_in c (waiting m) ≡ 0
  none c n = go (ℕ_discrete (times_in c (waiting m)) 0)
    where
      go : Dec (times_in c (waiting m) ≡ 0) → times_in c (waiting m) ≡ 0
      go (yes e) = e
      go (no q) =
          let t = times_found c (waiting m) (omega arith) in
          absurd (n t.0 (back m long g.short c t.0 t.1))

  one_at_most : (c : ℕ) → times_in c (waiting m) ≤ 1
  one_at_most c = go (dec_lt 1 (times_in c (waiting m)))
    where
      go : Dec (1 < times_in c (waiting m)) → times_in c (waiting m) ≤ 1
      go (no q) = omega arith
      go (yes h) =
          let t = times_found_two c (waiting m) (omega arith) in
          let e = g.line_once c t.0 t.1 (back m long g.short c t.0 t.3) (back m long g.short c t.1 t.4) in
          let l = t.2 in
          absurd (omega arith)

  not_held : (c : ℕ) → (InRegister m.register c → ⊥) → Held c m.register → register_holds c m.register ≡ 0
  not_held c n (inl r) = absurd (n r.0)
  not_held c n (inr r) = r.1

  -- with a place that says so a caller has one post, and else it has none
  one : (c : ℕ) → ((i : ℕ) × InLine m c i) ⊎ InRegister m.register c → times_in c (waiting m) + register_holds c m.register ≡ 1
  one c (inl (i, a)) =
      let t = times_at c (waiting m) i (there m long g.short c i a) in
      let o = one_at_most c in
      let z = not_held c (g.line_or_register c i a) (held c m.register) in
      omega arith
  one c (inr r) =
      let z = none c (λ i a. g.line_or_register c i a r) in
      let o = holds_in c m.register r in
      omega arith

  says : (c : ℕ) → c ≤ 7 → Dec (waits (state_of m c) ≡ 0) → times_in c (waiting m) + register_holds c m.register ≡ waits (state_of m c)
  says c h (yes e) =
      let l = none c (λ i a. let w = ap waits (g.line_waits c i a) in omega arith) in
      let r = not_held c (λ r. let w = ap waits (g.register_waits c r) in omega arith) (held c m.register) in
      omega arith
  says c h (no n) =
      let s = waits_one (state_of m c) (omega arith) in
      let o = one c (g.waits_for_one c h s) in
      rw s o

  post_fits_lem : (i : ℕ) → i < m.count → post_fits (post_at m i) ≡ true
  post_fits_lem i h = rw (le-leb (post_at m i).caller 7 (g.line_caller _ i (h, refl))) (le-leb _ _ (g.line_command i h))

  passes : Consistent m
  passes = record {
    short = g.short;
    posts = fit_all (waiting m)
        (λ i h.
        let l = line_long m long g.short in
        let k : i < m.count = omega arith in
        rw (get_or-take m.count m.line i no_post k) (post_fits_lem i k));
    register = register_fits_lem m.register (λ c r. let h = g.register_caller c r in omega arith) (λ c w e. let h = g.register_command c w e in omega arith);
    callers = λ c h. says c h (ℕ_discrete (waits (state_of m c)) 0);
  }

pub consistent_both_ways : ConsistentBothWays
consistent_both_ways = record {
  only = λ m long e. good m long (consistent_facts m e);
  all = λ m long g. consistent_test m (passes m long g);
}

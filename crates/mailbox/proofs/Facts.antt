-- What a consistent mailbox has, as facts instead of a test; and that a caller with no untaken post finds room in the line. Assumes nothing.
use mathlib.Core.Bool.{Bool, true, false, ◌&&◌}
use mathlib.Core.List.{List, [], ◌∷◌}
use mathlib.Core.Path.{◌≡◌, refl}
use Prim.Native.Nat.{ℕ, zero, suc, ◌+◌, ◌<◌, ◌≤◌}
use native.Mathlib.Omega.{arith}
use native.Mathlib.Decide.{ℕ_discrete}
use lib.ListN.{length, length-take}
use lib.Dec.{eqb, leb}
use borrow.Author.Tests.{eq-eqb, ne_eqb, le-leb, eqb-true, leb-true}
use Rattle.std.proofs.lemmas.Bool.{and_parts}
use Rattle.mailbox.specs.declared.Phase.TheVariants.{Response}
use Rattle.mailbox.specs.declared.PlaceState.{PlaceState}
use Rattle.mailbox.specs.declared.PlaceState.TheVariants.{Free, Waiting, Ready}
use Rattle.mailbox.specs.declared.Post.{Post}
use Rattle.mailbox.specs.declared.Mailbox.{Mailbox}
use Rattle.mailbox.specs.Machine.{waiting, state_of}
use Rattle.mailbox.specs.Consistent.{post_fits, posts_fit, register_fits, once, times_in, register_holds, waits, caller_fits, all_below, consistent_of}

pub record Consistent (m : Mailbox) : Type 0 where
  pub short : m.count ≤ 8
  pub posts : posts_fit (waiting m) ≡ true
  pub register : register_fits m.register ≡ true
  pub callers : (c : ℕ) → c ≤ 7 → times_in c (waiting m) + register_holds c m.register ≡ waits (state_of m c)

pub all_facts : (n : ℕ) (f : ℕ → Bool) → all_below n f ≡ true → (i : ℕ) → i < n → f i ≡ true
unfolding all_below
all_facts zero f e i h = absurd (omega arith)
all_facts (suc n) f e i h =
    let b = and_parts (f n) (all_below n f) e in
    go b.0 (λ p. all_facts n f b.1 i p) (ℕ_discrete i n)
  where
    go : f n ≡ true → (i < n → f i ≡ true) → Dec (i ≡ n) → f i ≡ true
    go b r (yes p) = rw p b
    go b r (no q) = r (omega arith)

pub all_test : (n : ℕ) (f : ℕ → Bool) → ((i : ℕ) → i < n → f i ≡ true) → all_below n f ≡ true
unfolding all_below
all_test zero f h = refl
all_test (suc n) f h = rw (h n (omega arith)) (all_test n f (λ i p. h i (omega arith)))

pub consistent_facts : (m : Mailbox) → consistent_of m ≡ true → Consistent m
unfolding consistent_of
consistent_facts m e =
    let a = and_parts _ _ e in
    let b = and_parts _ _ a.0 in
    let d = and_parts _ _ b.0 in
    record {
      short = leb-true _ _ d.0;
      posts = d.1;
      register = b.1;
      callers = λ c h. eqb-true _ _ (all_facts 8 (caller_fits (waiting m) m.register m.places) a.1 c (omega arith));
    }

pub consistent_test : (m : Mailbox) → Consistent m → consistent_of m ≡ true
unfolding consistent_of
consistent_test m k =
    rw (le-leb _ _ k.short, k.posts, k.register)
    (all_test 8 (caller_fits (waiting m) m.register m.places) (λ i h. eq-eqb _ _ (k.callers i (omega arith))))

-- the caller of a response in the register is 0 to 7
pub response_low : (m : Mailbox) (c w : ℕ) → consistent_of m ≡ true → m.register ≡ Response c w → c < 8
unfolding register_fits
response_low m c w e p = let h : c ≤ 7 = leb-true c 7 (rw p at (consistent_facts m e).register) in omega arith

-- ---- room: eight callers with one post each at most, and one of them with none
sum_below : ℕ → (ℕ → ℕ) → ℕ
sum_below zero f = 0
sum_below (suc n) f = f n + sum_below n f

sum_add : (n : ℕ) (f g : ℕ → ℕ) → sum_below n (λ c. f c + g c) ≡ sum_below n f + sum_below n g
unfolding sum_below
sum_add zero f g = refl
sum_add (suc n) f g = let h = sum_add n f g in omega arith

sum_zero : (n : ℕ) → sum_below n (λ c. 0) ≡ 0
unfolding sum_below
sum_zero zero = refl
sum_zero (suc n) = let h = sum_zero n in omega arith

sum_none : (n k : ℕ) → n ≤ k → sum_below n (λ c. once (eqb k c)) ≡ 0
unfolding sum_below
sum_none zero k h = refl
sum_none (suc n) k h =
    let e : eqb k n ≡ false = ne_eqb k n (λ q. omega arith) in
    let r = sum_none n k (omega arith) in
    rw e (omega arith)

sum_one : (n k : ℕ) → k < n → sum_below n (λ c. once (eqb k c)) ≡ 1
unfolding sum_below
sum_one zero k h = absurd (omega arith)
sum_one (suc n) k h = go (λ p. sum_one n k p) (ℕ_discrete k n)
  where
    go : (k < n → sum_below n (λ c. once (eqb k c)) ≡ 1) → Dec (k ≡ n) → once (eqb k n) + sum_below n (λ c. once (eqb k c)) ≡ 1
    go f (yes p) = let r = sum_none n k (omega arith) in rw (eq-eqb k n p) (omega arith)
    go f (no q) = let r = f (omega arith) in rw (ne_eqb k n q) (omega arith)

sum_le : (n : ℕ) (f : ℕ → ℕ) → ((c : ℕ) → c < n → f c ≤ 1) → sum_below n f ≤ n
unfolding sum_below
sum_le zero f h = omega arith
sum_le (suc n) f h =
    let a = h n (omega arith) in
    let b = sum_le n f (λ c p. h c (omega arith)) in
    omega arith

sum_lt : (n : ℕ) (f : ℕ → ℕ) (k : ℕ) → k < n → f k ≡ 0 → ((c : ℕ) → c < n → f c ≤ 1) → sum_below n f < n
unfolding sum_below
sum_lt zero f k p e h = absurd (omega arith)
sum_lt (suc n) f k p e h = go (λ l. sum_lt n f k l e (λ c p. h c (omega arith))) (ℕ_discrete k n)
  where
    go : (k < n → sum_below n f < n) → Dec (k ≡ n) → f n + sum_below n f < suc n
    go r (yes q) =
        let z : f n ≡ 0 = rw (← q) e in
        let b = sum_le n f (λ c p. h c (omega arith)) in
        omega arith
    go r (no q) =
        let a = h n (omega arith) in
        let b = r (omega arith) in
        omega arith

-- each post of the line is some caller's
sum_times : (l : List Post) → posts_fit l ≡ true → sum_below 8 (λ c. times_in c l) ≡ length l
unfolding times_in posts_fit
sum_times [] e = sum_zero 8
sum_times (p ∷ l) e =
    let a = and_parts (post_fits p) (posts_fit l) e in
    let b = and_parts (leb p.caller 7) (leb p.command 0x3FF) a.0 in
    let h : p.caller ≤ 7 = leb-true _ _ b.0 in
    let s = sum_one 8 p.caller (omega arith) in
    let t = sum_times l a.1 in
    rw (sum_add 8 (λ c. once (eqb p.caller c)) (λ c. times_in c l)) (omega arith)

pub waits_one : (s : PlaceState) → 1 ≤ waits s → s ≡ Waiting
waits_one Free h = absurd (omega arith)
waits_one Waiting h = refl
waits_one (Ready w) h = absurd (omega arith)

pub waits_le : (s : PlaceState) → waits s ≤ 1
waits_le Free = omega arith
waits_le Waiting = omega arith
waits_le (Ready w) = omega arith

room_of : (m : Mailbox) (c : ℕ) → length m.line ≡ 8 → Consistent m → c ≤ 7 → times_in c (waiting m) ≡ 0 → m.count < 8
room_of m c len k h z =
    let s = sum_times (waiting m) k.posts in
    let t = length-take m.count m.line in
    let b = sum_lt 8 (λ i. times_in i (waiting m)) c (omega arith) z (λ i p. let q = k.callers i (omega arith) in let r = waits_le (state_of m i) in omega arith) in
    let d = k.short in
    omega arith

pub room : (m : Mailbox) (c : ℕ) → length m.line ≡ 8 → consistent_of m ≡ true → c ≤ 7 → state_of m c ≡ Free → m.count < 8
room m c len e h f =
    let k = consistent_facts m e in
    room_of m c len k h (let q = rw f at (k.callers c h) in omega arith)

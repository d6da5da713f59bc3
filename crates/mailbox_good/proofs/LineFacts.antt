-- Posts by their index in a list, against how many of them are a caller's. Assumes nothing.
use mathlib.Core.Bool.{true}
use mathlib.Core.List.{List, [], ◌∷◌}
use mathlib.Core.Path.{◌≡◌, refl}
use Prim.Native.Nat.{ℕ, zero, suc, ◌+◌, ◌<◌, ◌≤◌}
use native.Mathlib.Omega.{arith}
use native.Mathlib.Decide.{ℕ_discrete}
use lib.ListN.{length, get_or}
use borrow.Author.Tests.{eq-eqb, ne_eqb}
use Rattle.std.proofs.lemmas.Bool.{and_parts}
use Rattle.mailbox.specs.declared.Post.{Post}
use Rattle.mailbox.specs.Machine.{no_post}
use Rattle.mailbox.specs.Consistent.{post_fits, posts_fit, times_in}

-- ---- every post fits
pub fit_at : (l : List Post) (i : ℕ) → posts_fit l ≡ true → i < length l → post_fits (get_or l i no_post) ≡ true
unfolding posts_fit
fit_at [] i e h = absurd (omega arith)
fit_at (p ∷ l) zero e h = (and_parts (post_fits p) (posts_fit l) e).0
fit_at (p ∷ l) (suc i) e h = fit_at l i (and_parts (post_fits p) (posts_fit l) e).1 (omega arith)

pub fit_all : (l : List Post) → ((i : ℕ) → i < length l → post_fits (get_or l i no_post) ≡ true) → posts_fit l ≡ true
unfolding posts_fit
fit_all [] f = refl
fit_all (p ∷ l) f = rw (f 0 (omega arith)) (fit_all l (λ i h. f (suc i) (omega arith)))

-- ---- a caller's posts
-- the post at index i is the caller's
abbrev pub At : (c : ℕ) (l : List Post) (i : ℕ) → Type 0
At c l i = (i < length l) × ((get_or l i no_post).caller ≡ c)

times_first : (c : ℕ) (p : Post) (l : List Post) → p.caller ≡ c → times_in c (p ∷ l) ≡ 1 + times_in c l
unfolding times_in
times_first c p l e = rw (eq-eqb _ _ e)

times_other : (c : ℕ) (p : Post) (l : List Post) → (p.caller ≡ c → ⊥) → times_in c (p ∷ l) ≡ times_in c l
unfolding times_in
times_other c p l e = rw (ne_eqb _ _ e) (omega arith)

-- one post more is at most one more
times_grow : (c : ℕ) (p : Post) (l : List Post) → times_in c l ≤ times_in c (p ∷ l)
unfolding times_in
times_grow c p l = omega arith

-- one that is there is counted, and two are
pub times_at : (c : ℕ) (l : List Post) (i : ℕ) → At c l i → 1 ≤ times_in c l
times_at c [] i a = let h = a.0 in absurd (omega arith)
times_at c (p ∷ l) zero a = let e = times_first c p l a.1 in omega arith
times_at c (p ∷ l) (suc i) a =
    let h = a.0 in
    let r = times_at c l i (omega arith, a.1) in
    let g = times_grow c p l in
    omega arith

pub times_twice : (c : ℕ) (l : List Post) (i j : ℕ) → i < j → At c l i → At c l j → 2 ≤ times_in c l
times_twice c [] i j k a b = let h = a.0 in absurd (omega arith)
times_twice c (p ∷ l) i zero k a b = absurd (omega arith)
times_twice c (p ∷ l) zero (suc j) k a b =
    let h = b.0 in
    let e = times_first c p l a.1 in
    let r = times_at c l j (omega arith, b.1) in
    omega arith
times_twice c (p ∷ l) (suc i) (suc j) k a b =
    let h = b.0 in
    let r = times_twice c l i j (omega arith) (omega arith, a.1) (omega arith, b.1) in
    let g = times_grow c p l in
    omega arith

-- one that is counted is there, and two are
pub times_found : (c : ℕ) (l : List Post) → 1 ≤ times_in c l → (i : ℕ) × At c l i
unfolding times_in
times_found c [] h = absurd (omega arith)
times_found c (p ∷ l) h = go (times_found c l) (ℕ_discrete p.caller c)
  where
    go : (1 ≤ times_in c l → (i : ℕ) × At c l i) → Dec (p.caller ≡ c) → (i : ℕ) × At c (p ∷ l) i
    go f (yes e) = (0, (omega arith, e))
    go f (no n) =
        let o = times_other c p l n in
        let r = f (omega arith) in
        (suc r.0, (let k = r.1.0 in omega arith, r.1.1))

pub times_found_two : (c : ℕ) (l : List Post) → 2 ≤ times_in c l → (i : ℕ) × (j : ℕ) × (i < j) × At c l i × At c l j
unfolding times_in
times_found_two c [] h = absurd (omega arith)
times_found_two c (p ∷ l) h = go (times_found_two c l) (ℕ_discrete p.caller c)
  where
    go : (2 ≤ times_in c l → (i : ℕ) × (j : ℕ) × (i < j) × At c l i × At c l j) → Dec (p.caller ≡ c)
        → (i : ℕ) × (j : ℕ) × (i < j) × At c (p ∷ l) i × At c (p ∷ l) j
    go f (yes e) =
        let o = times_first c p l e in
        let r = times_found c l (omega arith) in
        (0, suc r.0, omega arith, (omega arith, e), (let k = r.1.0 in omega arith, r.1.1))
    go f (no n) =
        let o = times_other c p l n in
        let r = f (omega arith) in
        let k = r.3.0 in
        let g = r.4.0 in
        let q = r.2 in
        (suc r.0, suc r.1, omega arith, (omega arith, r.3.1), (omega arith, r.4.1))

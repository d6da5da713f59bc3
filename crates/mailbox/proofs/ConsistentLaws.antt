-- The counts and tests of consistency: of one post more, and as the library's iterators answer them. Assumes nothing.
use mathlib.Core.Bool.{Bool, true, false, ◌&&◌, cond}
use mathlib.Core.List.{List, [], ◌∷◌, ◌++◌}
use mathlib.Core.Path.{◌≡◌, refl, sym, ap, ◌∙◌}
use Prim.Native.Nat.{ℕ, zero, suc, ◌+◌}
use native.Mathlib.Omega.{arith}
use Rattle.std.specs.List.{list_all, filter, count_by, range_with_len}
use Rattle.std.proofs.Math.Bool.{and_assoc, and_comm, and-true}
use Rattle.std.proofs.lemmas.List.Sums.{length-filter}
use Rattle.std.proofs.lemmas.List.Folds.{list_all-append}
use lib.ListN.{length}
use lib.Dec.{eqb}
use Rattle.mailbox.specs.declared.Post.{Post}
use Rattle.mailbox.specs.Consistent.{post_fits, posts_fit, once, times_in, all_below}

-- ---- one post more
pub times_append : (c : ℕ) (l l' : List Post) → times_in c (l ++ l') ≡ times_in c l + times_in c l'
unfolding times_in
times_append c [] l' = omega arith
times_append c (p ∷ l) l' = let h = times_append c l l' in omega arith

pub fit_append : (l l' : List Post) → posts_fit (l ++ l') ≡ posts_fit l && posts_fit l'
unfolding posts_fit
fit_append [] l' = refl
fit_append (p ∷ l) l' = rw (fit_append l l') (sym (and_assoc (post_fits p) (posts_fit l) (posts_fit l')))

-- ---- the tests as the library's iterators answer them
times_one : (b : Bool) (p : Post) (l : List Post) → once b + length l ≡ length (cond b (p ∷ l) l)
times_one true p l = omega arith
times_one false p l = omega arith

times_filtered : (c : ℕ) (l : List Post) → times_in c l ≡ length (filter (λ p. eqb p.caller c) l)
unfolding times_in
times_filtered c [] = refl
times_filtered c (p ∷ l) = ap (λ n. once (eqb p.caller c) + n) (times_filtered c l) ∙ times_one (eqb p.caller c) p (filter (λ p. eqb p.caller c) l)

pub times_counted : (c : ℕ) (l : List Post) → times_in c l ≡ count_by (λ p. eqb p.caller c) l
times_counted c l = times_filtered c l ∙ length-filter (λ p. eqb p.caller c) l

pub posts_fit_all : (l : List Post) → posts_fit l ≡ list_all post_fits l
unfolding posts_fit
posts_fit_all [] = refl
posts_fit_all (p ∷ l) = ap (λ b. post_fits p && b) (posts_fit_all l)

range_last : (a n : ℕ) → range_with_len a (suc n) ≡ range_with_len a n ++ ((a + n) ∷ [])
range_last a zero = let e : a ≡ a + 0 = omega arith in ap (λ (k : ℕ). k ∷ []) e
range_last a (suc n) =
    let e : a + 1 + n ≡ a + suc n = omega arith in
    ap (λ (l : List ℕ). a ∷ l) (range_last (a + 1) n ∙ ap (λ (k : ℕ). range_with_len (a + 1) n ++ (k ∷ [])) e)

range_of : (n : ℕ) → range_with_len 0 (suc n) ≡ range_with_len 0 n ++ (n ∷ [])
range_of n = let e : 0 + n ≡ n = omega arith in range_last 0 n ∙ ap (λ (k : ℕ). range_with_len 0 n ++ (k ∷ [])) e

pub all_below_all : (n : ℕ) (f : ℕ → Bool) → all_below n f ≡ list_all f (range_with_len 0 n)
unfolding all_below
all_below_all zero f = refl
all_below_all (suc n) f =
    ap (λ b. f n && b) (all_below_all n f)
    ∙ and_comm (f n) (list_all f (range_with_len 0 n))
    ∙ ap (λ b. list_all f (range_with_len 0 n) && b) (sym (and-true (f n)))
    ∙ sym (ap (list_all f) (range_of n) ∙ list_all-append f (range_with_len 0 n) (n ∷ []))

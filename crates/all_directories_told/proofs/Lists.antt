-- Lists of directories that are entered: what stands in them, and that two of rising leads which hold the same are one. Assumes nothing.
use mathlib.Core.Path.{◌≡◌, refl, sym, ap, ap₂, subst, ◌∙◌}
use mathlib.Core.Logic.{inl, inr}
use mathlib.Core.List.{List, [], ◌∷◌, ◌++◌}
use Prim.Native.Nat.{ℕ, ◌+◌, ◌<◌, ◌≤◌}
use native.Mathlib.Omega.{arith}
use Rattle.reply.specs.Scan.{All}
use Rattle.all_directories.specs.AllDirectories.{Entered}
use Rattle.all_directories_told.specs.Told.{In, Rising, totals_of}

-- what holds of all holds of one
pub all_in : (P : Entered → Type 0) (l : List Entered) (e : Entered) → All P l → In e l → P e
all_in P [] e a h = absurd h
all_in P (x ∷ l) e a (inl q) = subst P q a.0
all_in P (x ∷ l) e a (inr h) = all_in P l e a.1 h

pub all_from : {P Q : Entered → Type 0} → ((e : Entered) → P e → Q e) → (l : List Entered) → All P l → All Q l
all_from f [] a = tt
all_from f (x ∷ l) a = (f x a.0, all_from f l a.1)

-- ---- one list behind another
pub all_append : (P : Entered → Type 0) (a b : List Entered) → All P a → All P b → All P (a ++ b)
all_append P [] b p q = q
all_append P (x ∷ a) b p q = (p.0, all_append P a b p.1 q)

pub in_front : (a b : List Entered) (e : Entered) → In e a → In e (a ++ b)
in_front [] b e h = absurd h
in_front (x ∷ a) b e (inl q) = inl q
in_front (x ∷ a) b e (inr h) = inr (in_front a b e h)

pub in_back : (a b : List Entered) (e : Entered) → In e b → In e (a ++ b)
in_back [] b e h = h
in_back (x ∷ a) b e h = inr (in_back a b e h)

-- the leads of the first are below i, those of the second are not
pub rising_append : (a b : List Entered) (i : ℕ) → All (λ e. e.lead < i) a → All (λ e. i ≤ e.lead) b → Rising a → Rising b → Rising (a ++ b)
rising_append [] b i p q r s = s
rising_append (x ∷ a) b i p q r s =
    let h = p.0 in
    (all_append (λ e. x.lead < e.lead) a b r.0 (all_from (λ e g. let k : x.lead < e.lead = omega arith in k) b q), rising_append a b i p.1 q r.1 s)

pub totals_append : (a b : List Entered) → totals_of (a ++ b) ≡ totals_of a + totals_of b
unfolding totals_of
totals_append [] b = omega arith
totals_append (x ∷ a) b = omega (arith, totals_append a b)

-- ---- rising leads
-- a later lead is above the first
above : (x : Entered) (l : List Entered) (e : Entered) → Rising (x ∷ l) → In e l → x.lead < e.lead
above x l e r h = all_in (λ e. x.lead < e.lead) l e r.0 h

pub one_list : (a b : List Entered) → Rising a → Rising b → ((e : Entered) → In e a → In e b) → ((e : Entered) → In e b → In e a) → a ≡ b
one_list [] [] p q f g = refl
one_list [] (y ∷ b) p q f g = absurd (g y (inl refl))
one_list (x ∷ a) [] p q f g = absurd (f x (inl refl))
one_list (x ∷ a) (y ∷ b) p q f g = ap₂ ◌∷◌ same (one_list a b p.1 q.1 (λ e h. tail e h (f e (inr h))) (λ e h. back e h (g e (inr h))))
  where
    same : x ≡ y
    same = by (f x (inl refl)) (g y (inl refl))
      where
        by : In x (y ∷ b) → In y (x ∷ a) → x ≡ y
        by (inl e) k = sym e
        by (inr h) (inl e) = e
        by (inr h) (inr k) = let m = above y b x q h in let n = above x a y p k in absurd (let z : ⊥ = omega arith in z)

    tail : (e : Entered) → In e a → In e (y ∷ b) → In e b
    tail e h (inl k) = let m = above x a e p h in let n : x.lead ≡ e.lead = ap (λ (e : Entered). e.lead) (same ∙ k) in absurd (let z : ⊥ = omega arith in z)
    tail e h (inr k) = k

    back : (e : Entered) → In e b → In e (x ∷ a) → In e a
    back e h (inl k) = let m = above y b e q h in let n : y.lead ≡ e.lead = ap (λ (e : Entered). e.lead) (sym same ∙ k) in absurd (let z : ⊥ = omega arith in z)
    back e h (inr k) = k

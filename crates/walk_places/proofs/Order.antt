-- The order of spots, and how the walk comes from one spot to the next. Assumes nothing.
use mathlib.Core.Path.{◌≡◌, refl, sym, ap, ap₂, subst, ◌∙◌}
use mathlib.Core.Logic.{inl, inr}
use mathlib.Core.List.{List}
use mathlib.Core.Bool.{Bool, true, false}
use Prim.Native.Nat.{ℕ, ◌+◌, ◌<◌, ◌≤◌}
use native.Mathlib.Omega.{arith}
use borrow.Author.Tests.{ltb-true, ltb-false}
use lib.Dec.{ltb}
use Rattle.reply.specs.Reply.{Reply, Carried, given}
use Rattle.reply.proofs.ReplyLaws.{clash}
use Rattle.directory.specs.declared.Directory.{Directory}
use Rattle.entries.specs.Good.{Matches}
use Rattle.efs.specs.declared.Rules.{Rules}
use Rattle.walk_places.specs.Places.{Spot, top, below, Earlier, Enters, FaultAt, IsIn, MatchAt, Reached}

-- ---- one of two numbers, or of two spots, comes first, or they are the same
pub data Compared (i k : ℕ) : Type 0 where
  less : i < k → Compared i k
  equal : i ≡ k → Compared i k
  more : k < i → Compared i k

pub compared : (i k : ℕ) → Compared i k
compared i k = by (ltb i k) refl (ltb k i) refl
  where
    by : (b : Bool) → ltb i k ≡ b → (c : Bool) → ltb k i ≡ c → Compared i k
    by true h c g = less (ltb-true _ _ h)
    by false h true g = more (ltb-true _ _ g)
    by false h false g = let a : k ≤ i = ltb-false _ _ h in let b : i ≤ k = ltb-false _ _ g in equal (omega arith)

pub data Ordered (p q : Spot) : Type 0 where
  before : Earlier p q → Ordered p q
  same : p ≡ q → Ordered p q
  after : Earlier q p → Ordered p q

pub ordered : (p q : Spot) → Ordered p q
ordered (top i) (top k) = by (compared i k)
  where
    by : Compared i k → Ordered (top i) (top k)
    by (less h) = before h
    by (equal e) = same (ap top e)
    by (more h) = after h
ordered (top i) (below k l) = by (compared i k)
  where
    by : Compared i k → Ordered (top i) (below k l)
    by (less h) = before (omega arith)
    by (equal e) = before (omega arith)
    by (more h) = after h
ordered (below i j) (top k) = by (compared i k)
  where
    by : Compared i k → Ordered (below i j) (top k)
    by (less h) = before h
    by (equal e) = after (omega arith)
    by (more h) = after (omega arith)
ordered (below i j) (below k l) = by (compared i k) (compared j l)
  where
    by : Compared i k → Compared j l → Ordered (below i j) (below k l)
    by (less h) c = before (inl h)
    by (equal e) (less h) = before (inr (e, h))
    by (equal e) (equal f) = same (ap₂ below e f)
    by (equal e) (more h) = after (inr (sym e, h))
    by (more h) c = after (inl h)

-- a reply gives one thing
pub one_given : {A : Type 0} {r : Reply A} {a b : A} → r ≡ given a → r ≡ given b → a ≡ b
one_given e h = let g = sym e ∙ h in cc

module _ (r : Rules) (s : List ℕ) (d : Directory) where
  -- a lead leads to a directory or is at fault, not both
  pub no_fault : (i number : ℕ) (carried : Carried) (n : Directory) → Enters r s d i n → FaultAt r s d i number carried → ⊥
  no_fault i number carried n e f = clash (sym f.fault ∙ e.directory)

  -- a spot is in one directory
  pub one_directory : (p : Spot) (m n : Directory) → IsIn r s d p m → IsIn r s d p n → m ≡ n
  one_directory (top i) m n a b = a.0 ∙ sym b.0
  one_directory (below i j) m n a b = one_given a.0.directory b.0.directory

  module _ (class sub : ℕ) where
    pub at_start : Reached r s d class sub (top 0)
    at_start = record { unmatched = none; sound = λ k number carried h f. omega arith }
      where
        none : (q : Spot) → Earlier q (top 0) → MatchAt r s d class sub q → ⊥
        none (top k) h m = omega arith
        none (below k l) h m = omega arith

    -- past the test of an entry of level one
    pub past_top : (i : ℕ) → Reached r s d class sub (top i) → (Matches r.kind s d class sub i → ⊥) → Reached r s d class sub (below i 0)
    past_top i w f = record { unmatched = none; sound = w.sound }
      where
        at : (k : ℕ) → k ≤ i → MatchAt r s d class sub (top k) → Compared k i → ⊥
        at k h m (less l) = w.unmatched (top k) l m
        at k h m (equal e) = f (subst (λ (n : Directory). Matches r.kind s n class sub i) m.is_in.0 (subst (Matches r.kind s m.directory class sub) e m.here))
        at k h m (more l) = omega arith

        none : (q : Spot) → Earlier q (below i 0) → MatchAt r s d class sub q → ⊥
        none (top k) h m = at k h m (compared k i)
        none (below k l) (inl h) m = w.unmatched (below k l) h m
        none (below k l) (inr (e, h)) m = omega arith

    -- past the test of an entry of level two
    pub past_below : (i j : ℕ) (n : Directory) → Enters r s d i n → Reached r s d class sub (below i j) → (Matches r.kind s n class sub j → ⊥) → Reached r s d class sub (below i (j + 1))
    past_below i j n e w f = record { unmatched = none; sound = w.sound }
      where
        at : (k l : ℕ) → k ≡ i → l < j + 1 → MatchAt r s d class sub (below k l) → Compared l j → ⊥
        at k l z h m (less g) = w.unmatched (below k l) (inr (z, g)) m
        at k l z h m (equal g) =
            let x : m.directory ≡ n = one_given m.is_in.0.directory (subst (λ (k : ℕ). Enters r s d k n) (sym z) e).directory in
            f (subst (λ (n : Directory). Matches r.kind s n class sub j) x (subst (Matches r.kind s m.directory class sub) g m.here))
        at k l z h m (more g) = omega arith

        none : (q : Spot) → Earlier q (below i (j + 1)) → MatchAt r s d class sub q → ⊥
        none (top k) h m = w.unmatched (top k) h m
        none (below k l) (inl h) m = w.unmatched (below k l) (inl h) m
        none (below k l) (inr (z, h)) m = at k l z h m (compared l j)

    -- past an entry of level one and all that it leads to
    pub past_entry : (i j : ℕ) → Reached r s d class sub (below i j) → ((l : ℕ) → j ≤ l → MatchAt r s d class sub (below i l) → ⊥) →
        ((number : ℕ) (carried : Carried) → FaultAt r s d i number carried → ⊥) → Reached r s d class sub (top (i + 1))
    past_entry i j w f g = record { unmatched = none; sound = λ k number carried h x. sound k number carried h x (compared k i) }
      where
        sound : (k number : ℕ) (carried : Carried) → k < i + 1 → FaultAt r s d k number carried → Compared k i → ⊥
        sound k number carried h x (less l) = w.sound k number carried l x
        sound k number carried h x (equal e) = g number carried (subst (λ (k : ℕ). FaultAt r s d k number carried) e x)
        sound k number carried h x (more l) = omega arith

        at : (k l : ℕ) → k < i + 1 → MatchAt r s d class sub (below k l) → Compared k i → Compared l j → ⊥
        at k l h m (less z) c = w.unmatched (below k l) (inl z) m
        at k l h m (equal e) (less z) = w.unmatched (below k l) (inr (e, z)) m
        at k l h m (equal e) (equal z) = f l (omega arith) (subst (λ (k : ℕ). MatchAt r s d class sub (below k l)) e m)
        at k l h m (equal e) (more z) = f l (omega arith) (subst (λ (k : ℕ). MatchAt r s d class sub (below k l)) e m)
        at k l h m (more z) c = omega arith

        none : (q : Spot) → Earlier q (top (i + 1)) → MatchAt r s d class sub q → ⊥
        none (top k) h m = w.unmatched (top k) (omega arith) m
        none (below k l) h m = at k l h m (compared k i) (compared l j)

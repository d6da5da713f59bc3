-- The count of entries tested is at most the sum of the totals of the directories entered. Assumes nothing.
use mathlib.Core.Path.{◌≡◌, refl, subst}
use mathlib.Core.List.{List, [], ◌∷◌, ◌++◌}
use mathlib.Core.Bool.{Bool, true, false, cond}
use Prim.Native.Nat.{ℕ, zero, suc, ◌+◌, ◌-◌, ◌≤◌}
use native.Mathlib.Omega.{arith}
use lib.Dec.{eqb}
use Rattle.reply.specs.Reply.{Reply, given, refused}
use Rattle.entries.specs.Entry.{entry_of}
use Rattle.directory.specs.declared.Kind.{Kind}
use Rattle.directory.specs.declared.Directory.{Directory}
use Rattle.efs.specs.declared.Rules.{Rules}
use Rattle.entries.specs.declared.Entry.{Entry}
use Rattle.flash.specs.Flash.{level_two_at}
use Rattle.walk.specs.Walk.{Step, enter, test, fault, entries_from, walked_by, below_of, walk_of}
use Rattle.walk.specs.First.{tests, totals, CountBound}

-- with c tests still to be made, each test in some steps is one of those, or of a directory entered before it
Paid : ℕ → List Step → Type 0
Paid c [] = Unit
Paid c (enter d ∷ xs) = Paid (c + d.total) xs
Paid c (test d i ∷ xs) = (1 ≤ c) × Paid (c - 1) xs
Paid c (fault number carried ∷ xs) = Paid c xs

paid_split : (c : ℕ) (xs ys : List Step) → Paid c (xs ++ ys) → tests xs ≤ c + totals xs
unfolding Paid tests totals
paid_split c [] ys p = omega arith
paid_split c (enter d ∷ xs) ys p = omega (arith, paid_split (c + d.total) xs ys p)
paid_split c (test d i ∷ xs) ys p = omega (arith, p.0, paid_split (c - 1) xs ys p.1)
paid_split c (fault number carried ∷ xs) ys p = paid_split c xs ys p

-- steps that leave k of c tests to be made, and those behind them
paid_append : (c k : ℕ) (xs ys : List Step) → c + totals xs ≡ k + tests xs → Paid c xs → Paid k ys → Paid c (xs ++ ys)
unfolding Paid tests totals
paid_append c k [] ys e p q = let z : k ≡ c = omega arith in subst (λ (n : ℕ). Paid n ys) z q
paid_append c k (enter d ∷ xs) ys e p q = paid_append (c + d.total) k xs ys (omega arith) p q
paid_append c k (test d i ∷ xs) ys e p q = (p.0, paid_append (c - 1) k xs ys (omega (arith, p.0)) p.1 q)
paid_append c k (fault number carried ∷ xs) ys e p q = paid_append c k xs ys e p q

paid_more : (c m : ℕ) (xs : List Step) → Paid c xs → Paid (c + m) xs
unfolding Paid
paid_more c m [] p = tt
paid_more c m (enter d ∷ xs) p = let z : c + d.total + m ≡ c + m + d.total = omega arith in subst (λ (n : ℕ). Paid n xs) z (paid_more (c + d.total) m xs p)
paid_more c m (test d i ∷ xs) p = let z : c - 1 + m ≡ c + m - 1 = omega (arith, p.0) in (omega (arith, p.0), subst (λ (n : ℕ). Paid n xs) z (paid_more (c - 1) m xs p.1))
paid_more c m (fault number carried ∷ xs) p = paid_more c m xs p

pub tests_append : (xs ys : List Step) → tests (xs ++ ys) ≡ tests xs + tests ys
unfolding tests
tests_append [] ys = omega arith
tests_append (enter d ∷ xs) ys = tests_append xs ys
tests_append (test d i ∷ xs) ys = omega (arith, tests_append xs ys)
tests_append (fault number carried ∷ xs) ys = tests_append xs ys

pub totals_append : (xs ys : List Step) → totals (xs ++ ys) ≡ totals xs + totals ys
unfolding totals
totals_append [] ys = omega arith
totals_append (enter d ∷ xs) ys = omega (arith, totals_append xs ys)
totals_append (test d i ∷ xs) ys = totals_append xs ys
totals_append (fault number carried ∷ xs) ys = totals_append xs ys

-- steps that make every test of the directories that they enter, each after its directory is entered
record Whole (xs : List Step) : Type 0 where
  all : tests xs ≡ totals xs
  paid : Paid 0 xs

module _ (below : (i : ℕ) → Entry → List Step) (kind : Kind) (s : List ℕ) (d : Directory) (f : (i : ℕ) (e : Entry) → Whole (below i e)) where
  entries_all : (m i : ℕ) → tests (entries_from below kind s d m i) ≡ m + totals (entries_from below kind s d m i)
  unfolding entries_from tests totals
  entries_all zero i = refl
  entries_all (suc m) i =
      let b = below i (entry_of kind s d i) in
      let r = entries_from below kind s d m (i + 1) in
      omega (arith, tests_append b r, totals_append b r, (f i (entry_of kind s d i)).all, entries_all m (i + 1))

  entries_paid : (m i : ℕ) → Paid m (entries_from below kind s d m i)
  unfolding entries_from Paid
  entries_paid zero i = tt
  entries_paid (suc m) i =
      let b = below i (entry_of kind s d i) in
      let g = f i (entry_of kind s d i) in
      let z : suc m - 1 ≡ 0 + m = omega arith in
      (omega arith, rw z (paid_append (0 + m) m b (entries_from below kind s d m (i + 1)) (omega (arith, g.all)) (paid_more 0 m b g.paid) (entries_paid m (i + 1))))

  entered_whole : Whole (enter d ∷ entries_from below kind s d d.total 0)
  unfolding Paid tests totals
  entered_whole = record { all = entries_all d.total 0; paid = let z : d.total ≡ 0 + d.total = omega arith in subst (λ (n : ℕ). Paid n (entries_from below kind s d d.total 0)) z (entries_paid d.total 0) }

module _ (rules : Rules) (s : List ℕ) where
  below_whole : (depth : ℕ) (d : Directory) (i : ℕ) (e : Entry) → Whole (below_of depth rules s d i e)
  unfolding below_of Paid tests totals
  below_whole zero d i e = record { all = refl; paid = tt }
  below_whole (suc depth) d i e = by (eqb e.class rules.kind.lead) (level_two_at rules s d i e) (λ n. entered_whole (below_of depth rules s n) rules.kind s n (below_whole depth n))
    where
      by : (b : Bool) (r : Reply Directory) → ((n : Directory) → Whole (walk_of depth rules s n)) → Whole (cond b (walked_by (walk_of depth rules s) r) [])
      by true (given n) g = g n
      by true (refused number carried) g = record { all = refl; paid = tt }
      by false r g = record { all = refl; paid = tt }

  walk_is_whole : (depth : ℕ) (d : Directory) → Whole (walk_of depth rules s d)
  walk_is_whole depth d = entered_whole (below_of depth rules s d) rules.kind s d (below_whole depth d)

pub count_bound : CountBound
count_bound = record {
  within = λ depth rules s d before after e. omega (arith, paid_split 0 before after (subst (Paid 0) e (walk_is_whole rules s depth d).paid));
  whole = λ depth rules s d. (walk_is_whole rules s depth d).all;
}

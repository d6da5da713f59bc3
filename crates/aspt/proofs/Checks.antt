-- Checks that are joined, and checks before a step. Assumes nothing.
use mathlib.Core.Path.{◌≡◌, refl, sym, ◌∙◌}
use mathlib.Core.Bool.{Bool, true, false, not, ◌&&◌, ◌||◌}
use mathlib.Core.List.{List, [], ◌∷◌, ◌++◌}
use Prim.Native.Nat.{ℕ, zero, suc, ◌+◌, ◌*◌, ◌-◌, ◌/◌, ◌%◌, ◌≤◌, ◌<◌}
use native.Mathlib.Omega.{arith}
use lib.ListN.{take, drop}
use lib.Dec.{eqb}
use Rattle.std.specs.List.{list_any, fold}
use Rattle.le.specs.Le.{le_at, Bytes}
use Rattle.le.proofs.Laws.{le_split, le_small}
use Rattle.reply.specs.Reply.{Reply, Carried, given, refused, alone, check, then}
use Rattle.aspt.specs.Rules.{done, sum_of, fresh, space_checks, structure_checks, structures_checks}
use Rattle.aspt.specs.Bytes.{structure_part}
use Rattle.aspt.specs.Calls.{header_checks, part_checks, parts_checks, admit_of}
use Rattle.aspt.specs.declared.Structure.{Structure}
use Rattle.aspt.specs.declared.Table.{Table}

-- bytes added up modulo 256, one after the other
pub sum_by : (sum : ℕ) (bytes : List ℕ) → fold (λ s b. (s + b) % 256) (sum % 256) bytes ≡ (sum + sum_of bytes) % 256
unfolding sum_of
sum_by sum [] = omega arith
sum_by sum (b ∷ bs) = let e : (sum % 256 + b) % 256 ≡ (sum + b) % 256 = omega arith in rw e (sum_by (sum + b) bs ∙ omega arith)

-- the three bytes behind the ID byte
pub three_behind : (p : List ℕ) → Bytes p → le_at 4 p 4 / 256 ≡ le_at 3 p 5
three_behind p bytes = omega (arith, le_small p bytes 1 4, le_split 1 3 p 4)

-- none of the types seen, as a slice's `contains` tells it
pub fresh_by : (seen : List ℕ) (class : ℕ) → not (list_any (λ y. eqb y class) seen) ≡ fresh seen class
unfolding fresh
fresh_by [] class = refl
fresh_by (first ∷ others) class = rw (← fresh_by others class) (by (eqb first class) (list_any (λ y. eqb y class) others))
  where
    by : (here later : Bool) → not (here || later) ≡ (not here && not later)
    by true later = refl
    by false later = refl

-- a step after a check's rest is a step after the check
check_then : {A : Type 0} {B : Type 0} (b : Bool) (number : ℕ) (carried : Carried) (r : Reply A) (next : A → Reply B) →
    then (check b number carried r) next ≡ check b number carried (then r next)
check_then true number carried r next = refl
check_then false number carried r next = refl

-- checks are their own answer, and then what comes after them
module _ {A : Type 0} (rest : Reply A) where
  pub structure_by : (pages : ℕ) (seen : List ℕ) (st : Structure) (sized clear : Bool) →
      structure_checks pages seen st sized clear rest ≡ then (structure_checks pages seen st sized clear done) (λ _. rest)
  unfolding structure_checks
  structure_by pages seen st sized clear = simp check_then

  pub structures_by : (pages : ℕ) (a b c : Structure) (sized clear : ℕ → Bool) →
      structures_checks pages a b c sized clear rest ≡ then (structures_checks pages a b c sized clear done) (λ _. rest)
  unfolding structures_checks structure_checks
  structures_by pages a b c sized clear = simp check_then

  pub admit_then : (t : Table) → then (admit_of t) (λ _. rest) ≡ space_checks t.base t.pages (structures_checks t.pages t.first t.second t.third (λ _. true) (λ _. true) rest)
  unfolding admit_of structures_checks structure_checks
  admit_then t = simp check_then

  pub header_by : (s : List ℕ) → header_checks s rest ≡ then (header_checks s done) (λ _. rest)
  unfolding header_checks
  header_by s = simp check_then

-- the checks of the structures from structure i on, so many, given the types of those before
unfoldable pub parts_from : ℕ → List ℕ → (left i : ℕ) → (seen : List ℕ) → Reply Unit
parts_from pages s zero i seen = done
parts_from pages s (suc left) i seen = part_checks pages seen (structure_part i s) (parts_from pages s left (i + 1) (seen ++ (le_at 2 (structure_part i s) 0 ∷ [])))

module _ (pages : ℕ) (s : List ℕ) where
  pub parts_all : pages ≡ le_at 4 s 44 → parts_from pages s 3 0 [] ≡ parts_checks s done
  unfolding parts_from structures_checks
  parts_all is = rw is

  -- structure i where it lies, refused or passed; n is its length, as the code has it
  module _ (i : ℕ) (seen : List ℕ) (h : i < 3) (n : ℕ) (long : n ≡ 20) where
    abbrev part : List ℕ
    part = take n (drop (52 + 20 * i) s)

    parts_step : parts_from pages s (3 - i) i seen ≡ then (part_checks pages seen part done) (λ _. parts_from pages s (3 - (i + 1)) (i + 1) (seen ++ (le_at 2 part 0 ∷ [])))
    unfolding parts_from
    parts_step =
        let left : 3 - i ≡ suc (3 - (i + 1)) = omega arith in
        rw (left, long) (structure_by _ pages seen _ _ _)

    pub parts_refused : (number : ℕ) → refused number alone ≡ part_checks pages seen part done → refused number alone ≡ parts_from pages s (3 - i) i seen
    parts_refused number e = sym (rw (← e) at parts_step)

    pub parts_passed : given tt ≡ part_checks pages seen part done → parts_from pages s (3 - (i + 1)) (i + 1) (seen ++ (le_at 2 part 0 ∷ [])) ≡ parts_from pages s (3 - i) i seen
    parts_passed e = sym (rw (← e) at parts_step)

  pub parts_end : (i : ℕ) (seen : List ℕ) → 3 ≤ i → parts_from pages s (3 - i) i seen ≡ done
  unfolding parts_from
  parts_end i seen h = let left : 3 - i ≡ 0 = omega arith in rw left

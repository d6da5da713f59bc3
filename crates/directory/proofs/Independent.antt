-- Two images that agree on a directory's bytes have the same replies of it. Assumes nothing.
use mathlib.Core.Path.{◌≡◌, ap, ap₂}
use mathlib.Core.List.{List}
use Prim.Native.Nat.{ℕ, ◌+◌, ◌*◌, ◌<◌, ◌≤◌}
use native.Mathlib.Nat.{mul-le-mul_right, add-mul}
use native.Mathlib.Omega.{arith}
use lib.Dec.{leb, eqb}
use mathlib.Core.Bool.{Bool, not, ◌&&◌, ◌||◌}
use Rattle.le.specs.Le.{le_at}
use Rattle.le.proofs.Laws.{le_same}
use Rattle.le.proofs.Part.{part_same}
use Rattle.reply.specs.Reply.{Reply, given, guard}
use Rattle.reply.proofs.ScanLaws.{scan_same}
use Rattle.directory.specs.Directory.{total_at, entry_place, class_at, subprogram_at, same_entry, may_repeat, entry_step, directory_of, entries_at, directory_checks, directory_at, directory_by_cookie}
use Rattle.directory.specs.Independent.{Agree, Independence}
use Rattle.reply.proofs.SomeLaws.{some_same}
use Rattle.directory.specs.declared.Kind.{Kind}
use Rattle.directory.specs.declared.Directory.{Directory}

-- images that agree from o to the end of n entries
module _ (kind : Kind) (s t : List ℕ) (o n : ℕ) (wide : 16 ≤ kind.entry) (agree : Agree s t o (entry_place kind o n)) where
  head : (m p : ℕ) → o ≤ p → p + m ≤ o + 16 → le_at m s p ≡ le_at m t p
  head m p a b = le_same m s t p (λ j x y. agree.same j (omega arith) (omega arith))

  -- an entry below n lies before the end
  before_end : (i : ℕ) → i < n → entry_place kind o i + 16 ≤ entry_place kind o n
  before_end i h =
      let a : (i + 1) * kind.entry ≤ n * kind.entry = mul-le-mul_right kind.entry (omega arith) in
      omega (arith, add-mul i 1 kind.entry)

  pub number : (i : ℕ) → i < n → (m b : ℕ) → b + m ≤ 16 → le_at m s (entry_place kind o i + b) ≡ le_at m t (entry_place kind o i + b)
  number i h m b w = let l = before_end i h in le_same m s t _ (λ j x y. agree.same j (omega arith) (omega arith))

  pub first : (i : ℕ) → i < n → class_at kind s o i ≡ class_at kind t o i
  first i h = number i h 1 0 (omega arith)

  pub second : (i : ℕ) → i < n → subprogram_at kind s o i ≡ subprogram_at kind t o i
  second i h = number i h 1 1 (omega arith)

  may_same : (i : ℕ) → i < n → may_repeat kind s o i ≡ may_repeat kind t o i
  may_same i h =
      ap (λ (b : Bool). kind.repeats || not b) (some_same (same_entry kind s o i) (same_entry kind t o i) i
      (λ j l. ap₂ ◌&&◌ (ap₂ eqb (first j (omega arith)) (first i h)) (ap₂ eqb (second j (omega arith)) (second i h))))

  entries_same : (level : ℕ) → entries_at kind level s o n ≡ entries_at kind level t o n
  entries_same level =
      scan_same (entry_step kind level s o) (entry_step kind level t o) (λ _. given (directory_of o level n)) n 0
      (λ j a b rest. rw (number j (omega arith) 2 2 (omega arith), may_same j (omega arith), first j (omega arith)))

module _ (kind : Kind) (limit : ℕ) (s t : List ℕ) (o : ℕ) (wide : 16 ≤ kind.entry) (agree : Agree s t o (entry_place kind o (total_at s o))) where
  checks_same : (level : ℕ) → directory_checks kind limit level s o ≡ directory_checks kind limit level t o
  unfolding directory_checks
  checks_same level =
      let n = total_at s o in
      let part = part_same (8 + n * kind.entry) (o + 8) s t agree.long (λ j x y. agree.same j (omega arith) (omega arith)) in
      let number = head kind s t o n wide agree in
      rw (entries_same kind s t o n wide agree level, part, agree.long, number 4 (o + 0) (omega arith) (omega arith), number 4 (o + 8) (omega arith) (omega arith), number 4 (o + 4) (omega arith) (omega arith), number 4 (o + 12) (omega arith) (omega arith))

  pub directory_same : (level : ℕ) → directory_at kind limit level s o ≡ directory_at kind limit level t o
  directory_same level = ap (λ (r : Reply Directory). guard (leb 1 level) 9 (guard (leb level 2) 9 r)) (checks_same level)

  cookie_same : directory_by_cookie kind limit s o ≡ directory_by_cookie kind limit t o
  unfolding directory_by_cookie
  cookie_same = rw (checks_same 1, checks_same 2, agree.long, head kind s t o (total_at s o) wide agree 4 (o + 0) (omega arith) (omega arith))

pub independence : Independence
independence = record {
  directory = λ kind limit level s t o w a. directory_same kind limit s t o w a level;
  by_cookie = cookie_same;
}

-- What is read at a place of an image is read at the start of the bytes from there on. Assumes nothing.
use mathlib.Core.Path.{◌≡◌, refl, ap, ap₂, ◌∙◌}
use mathlib.Core.List.{List}
use mathlib.Core.Bool.{Bool, true, false, not, cond, ◌&&◌, ◌||◌}
use Prim.Native.Nat.{ℕ, zero, suc, ◌+◌, ◌≤◌}
use native.Mathlib.Omega.{arith}
use borrow.Author.Tests.{leb-true, leb-false, le-leb, lt-leb}
use lib.ListN.{length, drop, length-drop}
use lib.Seq.{get_or-drop, drop-drop}
use lib.Dec.{leb, ltb, eqb}
use Rattle.le.specs.Le.{le_at}
use Rattle.reply.specs.Reply.{Reply, Carried, given, check}
use Rattle.reply.specs.Scan.{scan}
use Rattle.reply.proofs.ReplyLaws.{check_same}
use Rattle.reply.proofs.SomeLaws.{some_same}
use Rattle.directory.specs.Directory.{total_at, entry_place, same_entry, may_repeat, entry_step, directory_of, directory_checks, directory_at, directory_by_cookie}
use Rattle.directory.specs.declared.Kind.{Kind}
use Rattle.directory.specs.declared.Directory.{Directory}
use Rattle.entries.specs.Entry.{fields_at, entry_of}
use Rattle.build_again.specs.Again.{from_start, met_from_start, told_from_start, ReadAlone}

-- a number
pub le_drop : (n : ℕ) (s : List ℕ) (o p : ℕ) → le_at n (drop o s) p ≡ le_at n s (o + p)
unfolding le_at
le_drop zero s o p = refl
le_drop (suc n) s o p =
    let e : le_at n s (o + (p + 1)) ≡ le_at n s (o + p + 1) = ap (le_at n s) (omega arith) in
    omega (arith, get_or-drop o s p 0, le_drop n s o (p + 1), e)

-- whether some bytes are present
pub room_drop : (s : List ℕ) (o m : ℕ) → 1 ≤ m → leb m (length (drop o s)) ≡ leb (o + m) (length s)
room_drop s o m one = by (leb (o + m) (length s)) refl
  where
    by : (b : Bool) → leb (o + m) (length s) ≡ b → leb m (length (drop o s)) ≡ b
    by true e = le-leb m (length (drop o s)) (let h = leb-true (o + m) (length s) e in omega (arith, length-drop o s))
    by false e = lt-leb m (length (drop o s)) (let h = leb-false (o + m) (length s) e in omega (arith, length-drop o s))

-- the checks before a reply stay, but for the place that they carry
told_check : (b : Bool) (number : ℕ) (carried : Carried) (rest : Reply Directory) → told_from_start (check b number carried rest) ≡ check b number (met_from_start carried) (told_from_start rest)
told_check true number carried rest = refl
told_check false number carried rest = refl

told_cond : (b : Bool) (x y : Reply Directory) → told_from_start (cond b x y) ≡ cond b (told_from_start x) (told_from_start y)
told_cond true x y = refl
told_cond false x y = refl

module _ (kind : Kind) (s : List ℕ) (o : ℕ) where
  -- a number in entry i
  number : (i m b : ℕ) → le_at m (drop o s) (entry_place kind 0 i + b) ≡ le_at m s (entry_place kind o i + b)
  number i m b = le_drop m s o (entry_place kind 0 i + b) ∙ ap (le_at m s) (omega arith)

  may_same : (i : ℕ) → may_repeat kind (drop o s) 0 i ≡ may_repeat kind s o i
  may_same i =
      ap (λ (b : Bool). kind.repeats || not b) (some_same (same_entry kind (drop o s) 0 i) (same_entry kind s o i) i
      (λ j l. ap₂ ◌&&◌ (ap₂ eqb (number j 1 0) (number i 1 0)) (ap₂ eqb (number j 1 1) (number i 1 1))))

  step_same : (level i : ℕ) (rest : Reply Directory) → entry_step kind level (drop o s) 0 i (told_from_start rest) ≡ told_from_start (entry_step kind level s o i rest)
  step_same level i rest = simp (number i 2 2, number i 1 0, may_same i, told_check)

  entries_same : (level n m i : ℕ) →
      scan (entry_step kind level (drop o s) 0) (λ _. given (directory_of 0 level n)) m i ≡ told_from_start (scan (entry_step kind level s o) (λ _. given (directory_of o level n)) m i)
  unfolding scan
  entries_same level n zero i = refl
  entries_same level n (suc m) i =
      ap (entry_step kind level (drop o s) 0 i) (entries_same level n m (i + 1)) ∙ step_same level i (scan (entry_step kind level s o) (λ _. given (directory_of o level n)) m (i + 1))

  -- whether all entries are present
  end_same : (n : ℕ) → leb (entry_place kind 0 n) (length (drop o s)) ≡ leb (entry_place kind o n) (length s)
  end_same n = room_drop s o (entry_place kind 0 n) (omega arith) ∙ ap (λ (e : ℕ). leb e (length s)) (omega arith)

  module _ (limit : ℕ) where
    checks_same : (level : ℕ) → directory_checks kind limit level (drop o s) 0 ≡ told_from_start (directory_checks kind limit level s o)
    unfolding directory_checks
    checks_same level =
        let total : le_at 4 (drop o s) 8 ≡ le_at 4 s (o + 8) = le_drop 4 s o 8 in
        let n = total_at s o in
        rw (
          total,
          le_drop 4 s o 0,
          le_drop 4 s o 4,
          le_drop 4 s o 12,
          drop-drop 8 o s,
          room_drop s o 16 (omega arith),
          end_same n,
          entries_same level n n 0,
        )
        (simp told_check)

    pub directory_same : (level : ℕ) → directory_at kind limit level (drop o s) 0 ≡ told_from_start (directory_at kind limit level s o)
    directory_same level = rw (checks_same level) (simp told_check)

    pub cookie_same : directory_by_cookie kind limit (drop o s) 0 ≡ told_from_start (directory_by_cookie kind limit s o)
    unfolding directory_by_cookie
    cookie_same = rw (le_drop 4 s o 0, room_drop s o 16 (omega arith), checks_same 1, checks_same 2) (simp (told_check, told_cond))

pub fields_same : (s : List ℕ) (o e : ℕ) → fields_at (drop o s) e ≡ fields_at s (o + e)
fields_same s o e =
    let at : (n b : ℕ) → le_at n (drop o s) (e + b) ≡ le_at n s (o + e + b) = λ n b. le_drop n s o (e + b) ∙ ap (le_at n s) (omega arith) in
    rw (at 1 0, at 1 1, at 4 4, at 8 8)

pub entry_same : (kind : Kind) (s : List ℕ) (d : Directory) (i : ℕ) → entry_of kind (drop d.place.0 s) (from_start d) i ≡ entry_of kind s d i
entry_same kind s d i = fields_same s d.place.0 (entry_place kind 0 i) ∙ ap (fields_at s) (omega arith)

pub read_alone : ReadAlone
read_alone = record {
  directory = λ kind limit level s o. directory_same kind s o limit level;
  by_cookie = λ kind limit s o. cookie_same kind s o limit;
  entry = λ kind s d i. check_same (ltb i d.total) _ _ _ _ (λ b. ap given (entry_same kind s d i));
}

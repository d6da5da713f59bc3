-- The lookup in the whole image answers the first match in the order of the walk. Assumes nothing.
use mathlib.Core.Path.{◌≡◌, refl, sym, ap, ◌∙◌}
use mathlib.Core.List.{List, [], ◌∷◌, ◌++◌, append_assoc, append-nil}
use mathlib.Core.Bool.{Bool, true, false}
use Prim.Native.Nat.{ℕ, ◌+◌}
use native.Mathlib.Omega.{arith}
use Rattle.reply.specs.Reply.{Carried, given, refused, tested}
use Rattle.reply.proofs.ReplyLaws.{apart}
use Rattle.reply.proofs.Told.{told_search_one}
use Rattle.entries.specs.Entry.{entry_of, matches}
use Rattle.entries.specs.Good.{Matches}
use Rattle.directory.specs.declared.Kind.{Kind}
use Rattle.directory.specs.declared.Directory.{Directory}
use Rattle.entries.proofs.Lowest.{match_says, match_holds}
use Rattle.walk.specs.Walk.{Step, enter, test, fault, first_in}
use Rattle.walk.specs.First.{tests, Quiet, match_in, Answered, matched, faulty, ended, FirstMatch, FoundApart}

module _ (kind : Kind) (s : List ℕ) (class sub : ℕ) where
  no_match : (d : Directory) (i : ℕ) → (Matches kind s d class sub i → ⊥) → matches (entry_of kind s d i) class sub ≡ false
  no_match d i f = by (matches (entry_of kind s d i) class sub) refl
    where
      by : (b : Bool) → matches (entry_of kind s d i) class sub ≡ b → b ≡ false
      by true q = absurd (f (match_holds (entry_of kind s d i) class sub q))
      by false q = refl

  -- quiet steps only add to the count
  first_quiet : (xs ys : List Step) (t : ℕ) → Quiet kind s class sub xs → first_in kind s class sub (xs ++ ys) t ≡ first_in kind s class sub ys (t + tests xs)
  unfolding Quiet first_in tests
  first_quiet [] ys t q = ap (first_in kind s class sub ys) (omega arith)
  first_quiet (enter d ∷ xs) ys t q = first_quiet xs ys t q
  first_quiet (test d i ∷ xs) ys t q = rw (no_match d i q.0) (first_quiet xs ys (t + 1) q.1 ∙ ap (first_in kind s class sub ys) (omega arith))
  first_quiet (fault number carried ∷ xs) ys t q = absurd q

  quiet_append : (xs ys : List Step) → Quiet kind s class sub xs → Quiet kind s class sub ys → Quiet kind s class sub (xs ++ ys)
  unfolding Quiet
  quiet_append [] ys p q = q
  quiet_append (enter d ∷ xs) ys p q = quiet_append xs ys p q
  quiet_append (test d i ∷ xs) ys p q = (p.0, quiet_append xs ys p.1 q)
  quiet_append (fault number carried ∷ xs) ys p q = absurd p

  at_match : (before after : List Step) (d : Directory) (i : ℕ) → Quiet kind s class sub before → Matches kind s d class sub i →
      first_in kind s class sub (before ++ (test d i ∷ after)) 0 ≡ given (match_in d i (tests before + 1))
  unfolding first_in
  at_match before after d i q m =
      let z : 0 + tests before ≡ tests before = omega arith in
      first_quiet before (test d i ∷ after) 0 q ∙ rw (match_says (entry_of kind s d i) class sub m, z)

  at_fault : (before after : List Step) (number : ℕ) (carried : Carried) → Quiet kind s class sub before → first_in kind s class sub (before ++ (fault number carried ∷ after)) 0 ≡ refused number carried
  unfolding first_in
  at_fault before after number carried q = first_quiet before (fault number carried ∷ after) 0 q

  at_end : (steps : List Step) → Quiet kind s class sub steps → first_in kind s class sub steps 0 ≡ refused 8 (tested (tests steps))
  unfolding first_in
  at_end steps q =
      let z : 0 + tests steps ≡ tests steps = omega arith in
      ap (λ (l : List Step). first_in kind s class sub l 0) (sym (append-nil steps)) ∙ first_quiet steps [] 0 q ∙ ap (λ (n : ℕ). refused 8 (tested n)) z

  answer : (steps xs ys : List Step) → steps ≡ xs ++ ys → Quiet kind s class sub xs → Answered kind s class sub steps (first_in kind s class sub steps 0)
  unfolding Quiet
  answer steps xs [] e q = let w : steps ≡ xs = e ∙ append-nil xs in let r : Quiet kind s class sub steps = rw w q in ended r (at_end steps r)
  answer steps xs (enter d ∷ ys) e q = answer steps (xs ++ (enter d ∷ [])) ys (e ∙ sym (append_assoc xs (enter d ∷ []) ys)) (quiet_append xs (enter d ∷ []) q tt)
  answer steps xs (test d i ∷ ys) e q = by (matches (entry_of kind s d i) class sub) refl (answer steps (xs ++ (test d i ∷ [])) ys (e ∙ sym (append_assoc xs (test d i ∷ []) ys)))
    where
      by : (b : Bool) → matches (entry_of kind s d i) class sub ≡ b → (Quiet kind s class sub (xs ++ (test d i ∷ [])) → Answered kind s class sub steps (first_in kind s class sub steps 0)) → Answered kind s class sub steps (first_in kind s class sub steps 0)
      by true m next = let h = match_holds (entry_of kind s d i) class sub m in matched xs ys d i e q h (ap (λ (l : List Step). first_in kind s class sub l 0) e ∙ at_match xs ys d i q h)
      by false m next = next (quiet_append xs (test d i ∷ []) q ((λ h. apart (match_says (entry_of kind s d i) class sub h) m), tt))
  answer steps xs (fault number carried ∷ ys) e q = faulty xs ys number carried e q (ap (λ (l : List Step). first_in kind s class sub l 0) e ∙ at_fault xs ys number carried q)

  answered : (steps : List Step) → Answered kind s class sub steps (first_in kind s class sub steps 0)
  unfolding Quiet
  answered steps = answer steps [] steps refl tt

pub first_match : FirstMatch
first_match = record { answered = answered; match = at_match; stop = at_fault; absent = at_end }

pub found_apart : FoundApart
found_apart = told_search_one

-- What the walk's proofs cite of its steps. Assumes nothing.
use mathlib.Core.Path.{◌≡◌, refl, sym, ap, subst, ◌∙◌}
use mathlib.Core.List.{List, [], ◌∷◌, ◌++◌}
use mathlib.Core.Bool.{Bool, true, false, cond}
use Prim.Native.Nat.{ℕ, zero, suc, ◌+◌, ◌-◌, ◌<◌, ◌≤◌}
use native.Mathlib.Omega.{arith}
use lib.Dec.{eqb, eqb-suc-zero}
use Rattle.reply.specs.Reply.{Reply, Carried, given, refused, tested, in_entry, then, met, carried_of, told_search}
use Rattle.reply.specs.Number.{refusal_number}
use Rattle.std.specs.Prelude.{Result, Ok, Err}
use Rattle.std.specs.Result.{MatchResult, is_ok}
use Rattle.reply.specs.declared.Fault.{Fault}
use Rattle.reply.specs.declared.Missed.{Missed}
use Rattle.reply.specs.declared.Missed.TheVariants as missed
use Rattle.reply.proofs.ReplyLaws.{clash, apart, then_given}
use Rattle.window.specs.declared.Offset.{Offset}
use Rattle.directory.specs.Directory.{directory_at}
use Rattle.entries.specs.Entry.{entry_of, matches}
use Rattle.entries.specs.Part.{leads_to}
use Rattle.directory.specs.declared.Kind.{Kind}
use Rattle.directory.specs.declared.Directory.{Directory}
use Rattle.efs.specs.declared.Rules.{Rules}
use Rattle.entries.specs.declared.Entry.{Entry}
use Rattle.directory.proofs.Accept.{acceptance}
use Rattle.entries.proofs.Accept.{all_entry}
use Rattle.flash.specs.Flash.{level_two_at}
use Rattle.walk.specs.Walk.{Step, enter, test, fault, entries_from, walked_by, below_of, walk_from, walk_of, first_in}
use Rattle.walk.specs.Probe.{entered, probed, probe_of, is_pass, found_from}
use Rattle.walk.specs.First.{tests, match_in}
use Rattle.walk.specs.declared.ImageMatch.{ImageMatch}
use Rattle.walk.specs.declared.Search.{Search}
use Rattle.walk.specs.declared.Probe.{Probe}
use Rattle.walk.specs.declared.Probe.TheVariants as probe
use Rattle.walk.proofs.Placed.{Place, place_of, no_count, level_placed}

-- each fault in some steps has a place, and no count
pub Plain : List Step → Type 0
Plain [] = Unit
Plain (enter d ∷ steps) = Plain steps
Plain (test d i ∷ steps) = Plain steps
Plain (fault number carried ∷ steps) = Place carried × Plain steps

plain_append : (xs ys : List Step) → Plain xs → Plain ys → Plain (xs ++ ys)
unfolding Plain
plain_append [] ys p q = q
plain_append (enter d ∷ xs) ys p q = plain_append xs ys p q
plain_append (test d i ∷ xs) ys p q = plain_append xs ys p q
plain_append (fault number carried ∷ xs) ys p q = (p.0, plain_append xs ys p.1 q)

module _ (below : (i : ℕ) → Entry → List Step) (kind : Kind) (s : List ℕ) (d : Directory) where
  plain_entries : ((i : ℕ) (e : Entry) → Plain (below i e)) → (m i : ℕ) → Plain (entries_from below kind s d m i)
  unfolding Plain entries_from
  plain_entries f zero i = tt
  plain_entries f (suc m) i = plain_append (below i (entry_of kind s d i)) (entries_from below kind s d m (i + 1)) (f i (entry_of kind s d i)) (plain_entries f m (i + 1))

module _ (rules : Rules) (s : List ℕ) where
  plain_below : (depth : ℕ) (d : Directory) (i : ℕ) (e : Entry) → Plain (below_of depth rules s d i e)
  unfolding Plain below_of
  plain_below zero d i e = tt
  plain_below (suc depth) d i e = by (eqb e.class rules.kind.lead) (level_two_at rules s d i e) refl (λ n. plain_entries (below_of depth rules s n) rules.kind s n (plain_below depth n) n.total 0)
    where
      by : (b : Bool) (r : Reply Directory) → level_two_at rules s d i e ≡ r → ((n : Directory) → Plain (walk_from depth rules s n n.total 0)) → Plain (cond b (walked_by (walk_of depth rules s) r) [])
      by false r q f = tt
      by true (given n) q f = f n
      by true (refused number carried) q f = (level_placed rules s d i e number carried q, tt)

  pub plain_walk : (depth : ℕ) (d : Directory) → Plain (walk_of depth rules s d)
  unfolding Plain
  plain_walk depth d = plain_entries (below_of depth rules s d) rules.kind s d (plain_below depth d) d.total 0

-- the first match or fault in some steps, and what comes after them
module _ (kind : Kind) (s : List ℕ) (class sub : ℕ) where
  pub first_given : (xs ys : List Step) (t : ℕ) (f : ImageMatch) → first_in kind s class sub xs t ≡ given f → first_in kind s class sub (xs ++ ys) t ≡ given f
  unfolding first_in
  first_given [] ys t f e = clash e
  first_given (enter d ∷ xs) ys t f e = first_given xs ys t f e
  first_given (test d i ∷ xs) ys t f e = by (matches (entry_of kind s d i) class sub) (first_given xs ys (t + 1) f) e
    where
      by : (b : Bool) → (first_in kind s class sub xs (t + 1) ≡ given f → first_in kind s class sub (xs ++ ys) (t + 1) ≡ given f) →
          cond b (given (match_in d i (t + 1))) (first_in kind s class sub xs (t + 1)) ≡ given f → cond b (given (match_in d i (t + 1))) (first_in kind s class sub (xs ++ ys) (t + 1)) ≡ given f
      by true h e = e
      by false h e = h e
  first_given (fault number carried ∷ xs) ys t f e = clash e

  pub first_refused : (xs ys : List Step) (t n : ℕ) (carried : Carried) → Place carried → first_in kind s class sub xs t ≡ refused n carried → first_in kind s class sub (xs ++ ys) t ≡ refused n carried
  unfolding first_in
  first_refused [] ys t n carried p e = absurd (no_count t carried p cc)
  first_refused (enter d ∷ xs) ys t n carried p e = first_refused xs ys t n carried p e
  first_refused (test d i ∷ xs) ys t n carried p e = by (matches (entry_of kind s d i) class sub) (first_refused xs ys (t + 1) n carried p) e
    where
      by : (b : Bool) → (first_in kind s class sub xs (t + 1) ≡ refused n carried → first_in kind s class sub (xs ++ ys) (t + 1) ≡ refused n carried) →
          cond b (given (match_in d i (t + 1))) (first_in kind s class sub xs (t + 1)) ≡ refused n carried → cond b (given (match_in d i (t + 1))) (first_in kind s class sub (xs ++ ys) (t + 1)) ≡ refused n carried
      by true h e = clash (sym e)
      by false h e = h e
  first_refused (fault number here ∷ xs) ys t n carried p e = e

  pub first_absent : (xs ys : List Step) → Plain xs → (t n u : ℕ) → first_in kind s class sub xs t ≡ refused n (tested u) → (first_in kind s class sub (xs ++ ys) t ≡ first_in kind s class sub ys u) × (u ≡ t + tests xs)
  unfolding first_in tests Plain
  first_absent [] ys p t n u e = let q : t ≡ u = cc in (ap (first_in kind s class sub ys) q, omega arith)
  first_absent (enter d ∷ xs) ys p t n u e = first_absent xs ys p t n u e
  first_absent (test d i ∷ xs) ys p t n u e = by (matches (entry_of kind s d i) class sub) (first_absent xs ys p (t + 1) n u) e
    where
      by : (b : Bool) → (first_in kind s class sub xs (t + 1) ≡ refused n (tested u) → (first_in kind s class sub (xs ++ ys) (t + 1) ≡ first_in kind s class sub ys u) × (u ≡ t + 1 + tests xs)) →
          cond b (given (match_in d i (t + 1))) (first_in kind s class sub xs (t + 1)) ≡ refused n (tested u) →
          (cond b (given (match_in d i (t + 1))) (first_in kind s class sub (xs ++ ys) (t + 1)) ≡ first_in kind s class sub ys u) × (u ≡ t + (1 + tests xs))
      by true h e = clash (sym e)
      by false h e = let g = h e in (g.0, omega (arith, g.1))
  first_absent (fault number carried ∷ xs) ys p t n u e = absurd (no_count u carried p.0 cc)

-- with no level left below, one test for each entry
pub last_tests : (rules : Rules) (s : List ℕ) (d : Directory) (m i : ℕ) → tests (walk_from 0 rules s d m i) ≡ m
unfolding tests entries_from below_of
last_tests rules s d zero i = refl
last_tests rules s d (suc m) i = let e = last_tests rules s d m (i + 1) in omega arith

-- a directory that an entry leads to has been checked
pub level_few : (rules : Rules) (s : List ℕ) (d : Directory) (i : ℕ) (e : Entry) (n : Directory) → given n ≡ level_two_at rules s d i e → n.total ≤ rules.limit
level_few rules s d i e n q =
    let t = then_given (met (in_entry d.level i d.place.0) (leads_to rules.window s d.place.0 e)) (λ (a : Offset). directory_at rules.kind rules.limit 2 s a.0) (sym q) in
    (acceptance.only rules.kind rules.limit 2 s t.0.0 n t.2).0.few

-- what a probe of entry i tells, with so many levels left below
data Probed (depth : ℕ) (by : Search) (s : List ℕ) (i : ℕ) (e : Entry) : Reply Probe → Type 0 where
  is_match : matches e by.class by.sub ≡ true → Probed depth by s i e (given probe.Match)
  is_pass_lem : matches e by.class by.sub ≡ false → below_of depth by.rules s by.directory i e ≡ [] → Probed depth by s i e (given probe.Pass)
  is_enter : {n : Directory} → matches e by.class by.sub ≡ false → below_of depth by.rules s by.directory i e ≡ walk_of (depth - 1) by.rules s n →
      Probed depth by s i e (given (probe.Enter n))
  is_fault : {number : ℕ} {carried : Carried} → matches e by.class by.sub ≡ false → below_of depth by.rules s by.directory i e ≡ fault number carried ∷ [] → Probed depth by s i e (refused number carried)

probed_is : (by : Search) (s : List ℕ) (i : ℕ) (e : Entry) → Probed by.depth by s i e (probed by s i e)
unfolding probed below_of
probed_is by s i e = tell (matches e by.class by.sub) refl by.depth
  where
    down : (l : ℕ) (b : Bool) (r : Reply Directory) → eqb e.class by.rules.kind.lead ≡ b → level_two_at by.rules s by.directory i e ≡ r → matches e by.class by.sub ≡ false →
        Probed (suc l) by s i e (cond b (entered r) (given probe.Pass))
    down l true (given n) q w m = let z : suc l - 1 ≡ l = omega arith in is_enter {n = n} m (rw (q, w, z))
    down l true (refused number carried) q w m = is_fault m (rw (q, w))
    down l false r q w m = is_pass_lem m (rw q)

    last : (b : Bool) → matches e by.class by.sub ≡ false → Probed 0 by s i e (cond b (given probe.Pass) (given probe.Pass))
    last true m = is_pass_lem m refl
    last false m = is_pass_lem m refl

    tell : (b : Bool) → matches e by.class by.sub ≡ b → (l : ℕ) →
        Probed l by s i e (cond b (given probe.Match) (cond (eqb e.class by.rules.kind.lead) (cond (eqb l 0) (given probe.Pass) (entered (level_two_at by.rules s by.directory i e))) (given probe.Pass)))
    tell true m l = is_match m
    tell false m zero = last (eqb e.class by.rules.kind.lead) m
    tell false m (suc l) = rw (eqb-suc-zero l) (down l (eqb e.class by.rules.kind.lead) (level_two_at by.rules s by.directory i e) refl refl m)

-- the walk of the entries of a directory from index i on, by what the probe of entry i says; r is what the walk from an earlier one on answers
module _ (by : Search) (s : List ℕ) (i t : ℕ) {r : Reply ImageMatch} (same : found_from by s i t ≡ r) (more : i < by.directory.total) where
  here : Entry
  here = entry_of by.rules.kind s by.directory i

  rest : List Step
  rest = walk_from by.depth by.rules s by.directory (by.directory.total - (i + 1)) (i + 1)

  step : found_from by s i t
      ≡ cond (matches here by.class by.sub) (given (match_in by.directory i (t + 1))) (first_in by.rules.kind s by.class by.sub (below_of by.depth by.rules s by.directory i here ++ rest) (t + 1))
  unfolding entries_from first_in here rest
  step =
      let a : by.directory.total - i ≡ suc (by.directory.total - (i + 1)) = omega arith in
      ap (λ (m : ℕ). first_in by.rules.kind s by.class by.sub (walk_from by.depth by.rules s by.directory m i) t) a

  told : (q : Reply Probe) → q ≡ probe_of by s i → Probed by.depth by s i here q
  unfolding here
  told q e =
      let r = all_entry by.rules.kind s by.directory i more in
      subst (Probed by.depth by s i here) (sym (e ∙ ap (λ (x : Reply Entry). then x (probed by s i)) r)) (probed_is by s i here)

  pub by_match : {q : Probe} → q ≡ probe.Match → given q ≡ probe_of by s i → given (match_in by.directory i (t + 1)) ≡ r
  by_match is e = tell (told (given probe.Match) (ap given (sym is) ∙ e))
    where
      tell : Probed by.depth by s i here (given probe.Match) → given (match_in by.directory i (t + 1)) ≡ r
      tell (is_match m) = sym (rw m at step) ∙ same

  pub by_pass : {q : Probe} → q ≡ probe.Pass → given q ≡ probe_of by s i → found_from by s (i + 1) (t + 1) ≡ r
  unfolding rest
  by_pass is e = tell (told (given probe.Pass) (ap given (sym is) ∙ e))
    where
      tell : Probed by.depth by s i here (given probe.Pass) → found_from by s (i + 1) (t + 1) ≡ r
      tell (is_pass_lem m b) = sym (rw (m, b) at step) ∙ same

  pub by_fault : (number : ℕ) (carried : Carried) → refused number carried ≡ probe_of by s i → refused number carried ≡ r
  unfolding first_in
  by_fault number carried e = tell (told (refused number carried) e)
    where
      tell : Probed by.depth by s i here (refused number carried) → refused number carried ≡ r
      tell (is_fault m b) = sym (rw (m, b) at step) ∙ same

  module _ {q : Probe} (n : Directory) (is : q ≡ probe.Enter n) (e : given q ≡ probe_of by s i) where
    entry : given (probe.Enter n) ≡ probe_of by s i
    entry = ap given (sym is) ∙ e

    below : found_from by s i t ≡ first_in by.rules.kind s by.class by.sub (walk_of (by.depth - 1) by.rules s n ++ rest) (t + 1)
    below = tell (told (given (probe.Enter n)) entry)
      where
        tell : Probed by.depth by s i here (given (probe.Enter n)) → found_from by s i t ≡ first_in by.rules.kind s by.class by.sub (walk_of (by.depth - 1) by.rules s n ++ rest) (t + 1)
        tell (is_enter m b) = rw (m, b) at step

    pub enter_given : (f : ImageMatch) → given f ≡ first_in by.rules.kind s by.class by.sub (walk_of (by.depth - 1) by.rules s n) (t + 1) → given f ≡ r
    enter_given f h = sym (below ∙ first_given by.rules.kind s by.class by.sub (walk_of (by.depth - 1) by.rules s n) rest (t + 1) f (sym h)) ∙ same

    pub enter_refused : {m : Missed Fault} (why : Fault) → m ≡ missed.Refused why → told_search (Err m) ≡ first_in by.rules.kind s by.class by.sub (walk_of (by.depth - 1) by.rules s n) (t + 1) →
        refused (refusal_number why.refusal) (carried_of why.met) ≡ r
    enter_refused why is h =
        let e = ap (λ m. told_search (Err m)) (sym is) ∙ h in
        sym (below ∙ first_refused by.rules.kind s by.class by.sub (walk_of (by.depth - 1) by.rules s n) rest (t + 1) (refusal_number why.refusal) (carried_of why.met) (place_of why.met) (sym e)) ∙ same

    module _ {m : Missed Fault} (u : ℕ) (none : m ≡ missed.Absent u) (h : told_search (Err m) ≡ first_in by.rules.kind s by.class by.sub (walk_of (by.depth - 1) by.rules s n) (t + 1)) where
      ended : (first_in by.rules.kind s by.class by.sub (walk_of (by.depth - 1) by.rules s n ++ rest) (t + 1) ≡ first_in by.rules.kind s by.class by.sub rest u) × (u ≡ t + 1 + tests (walk_of (by.depth - 1) by.rules s n))
      ended = first_absent by.rules.kind s by.class by.sub (walk_of (by.depth - 1) by.rules s n) rest (plain_walk by.rules s (by.depth - 1) n) (t + 1) 8 u (sym (ap (λ m. told_search (Err m)) (sym none) ∙ h))

      pub enter_absent : found_from by s (i + 1) u ≡ r
      unfolding rest
      enter_absent = sym (below ∙ ended.0) ∙ same

      pub enter_count : by.depth ≤ 1 → u ≡ t + 1 + n.total
      unfolding tests
      enter_count one =
          let z : by.depth - 1 ≡ 0 = omega arith in
          let c : tests (walk_from (by.depth - 1) by.rules s n n.total 0) ≡ n.total = rw z (last_tests by.rules s n n.total 0) in
          omega (arith, ended.1, c)

-- no entries are left
pub found_none : (by : Search) (s : List ℕ) (i t : ℕ) {r : Reply ImageMatch} → found_from by s i t ≡ r → i ≡ by.directory.total → refused 8 (tested t) ≡ r
unfolding entries_from first_in
found_none by s i t same e = let z : by.directory.total - i ≡ 0 = omega arith in rw z at same

-- all entries of a directory that is entered
pub found_whole : (by : Search) (s : List ℕ) (t : ℕ) → found_from by s 0 t ≡ first_in by.rules.kind s by.class by.sub (walk_of by.depth by.rules s by.directory) t
unfolding first_in
found_whole by s t = let z : by.directory.total - 0 ≡ by.directory.total = omega arith in ap (λ (m : ℕ). first_in by.rules.kind s by.class by.sub (walk_from by.depth by.rules s by.directory m 0) t) z

-- an entry that is passed by, as the tests of its two bytes tell it
pass_cases : (b1 b2 b3 : Bool) (r : Reply Directory) → is_pass (cond b1 (given probe.Match) (cond b2 (cond b3 (given probe.Pass) (entered r)) (given probe.Pass))) ≡ cond b1 false (cond b2 b3 true)
pass_cases true b2 b3 r = refl
pass_cases false false b3 r = refl
pass_cases false true true r = refl
pass_cases false true false (given n) = refl
pass_cases false true false (refused number carried) = refl

pub pass_is : (by : Search) (s : List ℕ) (i : ℕ) → i < by.directory.total →
    let e = entry_of by.rules.kind s by.directory i in
    is_pass (probe_of by s i) ≡ cond (matches e by.class by.sub) false (cond (eqb e.class by.rules.kind.lead) (eqb by.depth 0) true)
unfolding probed
pass_is by s i h =
    ap (λ (r : Reply Entry). is_pass (then r (probed by s i))) (all_entry by.rules.kind s by.directory i h)
    ∙ pass_cases (matches (entry_of by.rules.kind s by.directory i) by.class by.sub) (eqb (entry_of by.rules.kind s by.directory i).class by.rules.kind.lead) (eqb by.depth 0) (level_two_at by.rules s by.directory i (entry_of by.rules.kind s by.directory i))

pass_told : (q : Reply Probe) → is_pass q ≡ true → given probe.Pass ≡ q
pass_told (given probe.Match) e = apart e refl
pass_told (given probe.Pass) e = refl
pass_told (given (probe.Enter n)) e = apart e refl
pass_told (refused number carried) e = apart e refl

-- one more entry is passed by
pub found_passed : (by : Search) (s : List ℕ) (from i t : ℕ) → from ≤ i → i < by.directory.total → is_pass (probe_of by s i) ≡ true → found_from by s i (t + (i - from)) ≡ found_from by s from t →
    found_from by s (i + 1) (t + (i + 1 - from)) ≡ found_from by s from t
found_passed by s from i t low more p h =
    let e : t + (i + 1 - from) ≡ t + (i - from) + 1 = omega arith in
    ap (found_from by s (i + 1)) e ∙ by_pass by s i (t + (i - from)) h more refl (pass_told (probe_of by s i) p)

-- what is `Ok` behind `map_err` was `Ok` before it
pub opened : (x : Result Directory Fault) (d : Directory) (Q : Fault → Type 0) → true ≡ is_ok x → MatchResult x (λ y. ◌≡◌ {A = Result Directory (Missed Fault)} (Ok d) (Ok y)) Q → x ≡ Ok d
opened (Ok y) d Q h m = cc
opened (Err why) d Q h m = apart {b = true} refl h

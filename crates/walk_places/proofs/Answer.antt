-- The walk comes to the first match, to the first fault, or to its end; and only one of these. Assumes nothing.
use mathlib.Core.Path.{◌≡◌, refl, sym, ap, subst, ◌∙◌}
use mathlib.Core.Logic.{inl, inr}
use mathlib.Core.List.{List, ◌++◌}
use mathlib.Core.Bool.{Bool, true, false, cond}
use Prim.Native.Nat.{ℕ, zero, suc, ◌+◌, ◌≤◌}
use native.Mathlib.Numerals.{add-one}
use native.Mathlib.Omega.{arith}
use borrow.Author.Tests.{eqb-true, eqb-false}
use lib.Dec.{eqb}
use Rattle.reply.specs.Reply.{Reply, Carried, given, refused, tested, then}
use Rattle.reply.proofs.ReplyLaws.{apart}
use Rattle.directory.specs.declared.Directory.{Directory}
use Rattle.entries.specs.Entry.{entry_of, matches}
use Rattle.entries.specs.Good.{Matches}
use Rattle.entries.proofs.Lowest.{match_says, match_holds}
use Rattle.efs.specs.declared.Rules.{Rules}
use Rattle.walk.specs.Walk.{Step, entries_from, below_of, walk_from, walk_of, first_in}
use Rattle.walk.specs.declared.ImageMatch.{ImageMatch}
use Rattle.walk_places.specs.Places.{Spot, top, below, outer, inner, level_at, led_to, Enters, FaultAt, IsIn, MatchAt, Reached, total_below, totals_below, spots_to}
use Rattle.walk_places.specs.Lookup.{FirstMatch, FirstFault, Nothing, Answered, matched, faulty, ended}
use Rattle.walk_places.proofs.Leads.{level_two_lem}
use Rattle.walk_places.proofs.Order.{Compared, less, equal, more, compared, Ordered, before, same, after, ordered, one_given, no_fault, one_directory, at_start, past_top, past_below, past_entry}

module _ (r : Rules) (s : List ℕ) (d : Directory) (class sub : ℕ) where
  -- ---- only one of the three cases holds, with one answer
  no_both : (p : Spot) (f : ImageMatch) (i number : ℕ) (carried : Carried) → FirstMatch r s d class sub p f → FirstFault r s d class sub i number carried → ⊥
  no_both p f i number carried w v = by p w (ordered (below i 0) p)
    where
      off : (k l : ℕ) → i ≡ k → MatchAt r s d class sub (below k l) → ⊥
      off k l e m = no_fault r s d k number carried m.directory m.is_in.0 (subst (λ (k : ℕ). FaultAt r s d k number carried) e v.here)

      by : (p : Spot) → FirstMatch r s d class sub p f → Ordered (below i 0) p → ⊥
      by (top k) w (before h) = w.reached.sound i number carried h v.here
      by (top k) w (same e) = let z : ◌≡◌ {A = ℕ} 0 1 = cc in omega arith
      by (below k l) w (before (inl h)) = w.reached.sound i number carried h v.here
      by (below k l) w (before (inr (e, h))) = off k l e w.match
      by (below k l) w (same e) = off k l (ap outer e) w.match
      by p w (after h) = v.reached.unmatched p h w.match

  one_match : (p q : Spot) (f g : ImageMatch) → FirstMatch r s d class sub p f → FirstMatch r s d class sub q g → f ≡ g
  one_match p q f g w v = by (ordered p q)
    where
      equal_at : (p : Spot) → FirstMatch r s d class sub p f → FirstMatch r s d class sub p g → f ≡ g
      equal_at p w v =
          let n = one_directory r s d p w.match.directory v.match.directory w.match.is_in v.match.is_in in
          let place = w.place ∙ ap (λ (n : Directory). n.place) n ∙ sym v.place in
          let level = w.level ∙ sym v.level in
          let index = w.index ∙ sym v.index in
          let count = w.count ∙ sym v.count in
          λ j. record { place = place j; level = level j; index = index j; tested = count j }

      by : Ordered p q → f ≡ g
      by (before h) = absurd (v.reached.unmatched p h w.match)
      by (same e) = equal_at p w (subst (λ (q : Spot). FirstMatch r s d class sub q g) (sym e) v)
      by (after h) = absurd (w.reached.unmatched q h v.match)

  one_fault : (i k number other : ℕ) (carried with : Carried) → FirstFault r s d class sub i number carried → FirstFault r s d class sub k other with →
      ◌≡◌ {A = Reply ImageMatch} (refused number carried) (refused other with)
  one_fault i k number other carried with w v = by (compared i k)
    where
      by : Compared i k → ◌≡◌ {A = Reply ImageMatch} (refused number carried) (refused other with)
      by (less h) = absurd (v.reached.sound i number carried h w.here)
      by (equal e) = ap (λ (x : Reply Directory). then x (λ n. given (record { place = n.place; level = 0; index = 0; tested = 0 }))) (sym w.here.fault ∙ ap (led_to r s d) e ∙ v.here.fault)
      by (more h) = absurd (w.reached.sound k other with h v.here)

  pub one_answer : (a b : Reply ImageMatch) → Answered r s d class sub a → Answered r s d class sub b → a ≡ b
  one_answer a b (matched p f w e) (matched q g v h) = e ∙ ap given (one_match p q f g w v) ∙ sym h
  one_answer a b (matched p f w e) (faulty i number carried v h) = absurd (no_both p f i number carried w v)
  one_answer a b (matched p f w e) (ended v h) = absurd (v.unmatched p w.match)
  one_answer a b (faulty i number carried w e) (matched q g v h) = absurd (no_both q g i number carried v w)
  one_answer a b (faulty i number carried w e) (faulty k other with v h) = e ∙ one_fault i k number other carried with w v ∙ sym h
  one_answer a b (faulty i number carried w e) (ended v h) = absurd (v.sound i number carried w.here)
  one_answer a b (ended w e) (matched q g v h) = absurd (w.unmatched q v.match)
  one_answer a b (ended w e) (faulty i number carried v h) = absurd (w.sound i number carried v.here)
  one_answer a b (ended w e) (ended v h) = e ∙ sym h

  -- ---- one of them holds of the walk
  -- past the last entry of level one
  at_end : (i : ℕ) → i ≡ d.total → Reached r s d class sub (top i) → Nothing r s d class sub
  at_end i e w = record { unmatched = none; sound = λ k number carried f. let h = f.inside in w.sound k number carried (omega arith) f }
    where
      none : (p : Spot) → MatchAt r s d class sub p → ⊥
      none (top k) m = let n : m.directory.total ≡ d.total = ap (λ (n : Directory). n.total) m.is_in.0 in let h = m.is_in.1 in w.unmatched (top k) (omega arith) m
      none (below k l) m = let h = m.is_in.0.inside in w.unmatched (below k l) (omega arith) m

  -- with one entry of level one more
  pub more_below : (i : ℕ) → totals_below r s d (i + 1) ≡ totals_below r s d i + total_below r s d i
  unfolding totals_below
  more_below i = ap (totals_below r s d) (add-one i)

  -- an entry of a directory, tested: it matches at the spot p, or the walk goes on
  tested_entry : (n : Directory) (p : Spot) (t : ℕ) (rest : Reply ImageMatch) → Reached r s d class sub p → IsIn r s d p n → n.level ≡ level_at p → t + 1 ≡ spots_to r s d p →
      ((Matches r.kind s n class sub (inner p) → ⊥) → Answered r s d class sub rest) →
      Answered r s d class sub (cond (matches (entry_of r.kind s n (inner p)) class sub) (given (record { place = n.place; level = n.level; index = inner p; tested = t + 1 })) rest)
  tested_entry n p t rest w i l c next = by (matches (entry_of r.kind s n (inner p)) class sub) refl
    where
      by : (b : Bool) → matches (entry_of r.kind s n (inner p)) class sub ≡ b →
          Answered r s d class sub (cond b (given (record { place = n.place; level = n.level; index = inner p; tested = t + 1 })) rest)
      by true m =
          matched p (record { place = n.place; level = n.level; index = inner p; tested = t + 1 })
          (record { reached = w; match = record { directory = n; is_in = i; here = match_holds (entry_of r.kind s n (inner p)) class sub m }; place = refl; level = l; index = refl; count = c }) refl
      by false m = next (λ h. apart (match_says (entry_of r.kind s n (inner p)) class sub h) m)

  -- the last m entries of the directory n that entry i of level one leads to, and the steps behind them
  entered : (i : ℕ) (n : Directory) (rest : List Step) → Enters r s d i n →
      (Reached r s d class sub (top (i + 1)) → Answered r s d class sub (first_in r.kind s class sub rest (i + totals_below r s d i + 1 + n.total))) →
      (m j t : ℕ) → j + m ≡ n.total → t ≡ i + totals_below r s d i + 1 + j → Reached r s d class sub (below i j) →
      Answered r s d class sub (first_in r.kind s class sub (walk_from 0 r s n m j ++ rest) t)
  unfolding first_in entries_from below_of
  entered i n rest e next zero j t q c w =
      let z : i + totals_below r s d i + 1 + n.total ≡ t = omega arith in
      subst (λ (t : ℕ). Answered r s d class sub (first_in r.kind s class sub rest t)) z
      (next (past_entry r s d class sub i j w past (λ number carried. no_fault r s d i number carried n e)))
    where
      past : (l : ℕ) → j ≤ l → MatchAt r s d class sub (below i l) → ⊥
      past l h m =
          let x : m.directory.total ≡ n.total = ap (λ (n : Directory). n.total) (one_given m.is_in.0.directory e.directory) in
          let y = m.is_in.1 in
          omega arith
  entered i n rest e next (suc m) j t q c w =
      tested_entry n (below i j) t _ w (e, omega arith) (level_two_lem r s d i n e.directory) (omega arith)
      (λ f. entered i n rest e next m (j + 1) (t + 1) (omega arith) (omega arith) (past_below r s d class sub i j n e w f))

  -- the last m entries of level one
  walked : d.level ≡ 1 → (m i t : ℕ) → i + m ≡ d.total → t ≡ i + totals_below r s d i → Reached r s d class sub (top i) →
      Answered r s d class sub (first_in r.kind s class sub (walk_from 1 r s d m i) t)
  unfolding first_in entries_from below_of
  walked one zero i t q c w = let e : i ≡ d.total = omega arith in ended (at_end i e w) (ap (λ (n : ℕ). refused 8 (tested n)) (c ∙ ap (λ (i : ℕ). i + totals_below r s d i) e))
  walked one (suc m) i t q c w =
      tested_entry d (top i) t _ w (refl, omega arith) one (omega arith)
      (λ f. led (past_top r s d class sub i w f) (eqb (entry_of r.kind s d i).class r.kind.lead) refl (led_to r s d i) refl (walked one m (i + 1)))
    where
      led : Reached r s d class sub (below i 0) → (b : Bool) → eqb (entry_of r.kind s d i).class r.kind.lead ≡ b → (x : Reply Directory) → led_to r s d i ≡ x →
          ((t : ℕ) → i + 1 + m ≡ d.total → t ≡ i + 1 + totals_below r s d (i + 1) → Reached r s d class sub (top (i + 1)) → Answered r s d class sub (first_in r.kind s class sub (walk_from 1 r s d m (i + 1)) t)) →
          Answered r s d class sub (first_in r.kind s class sub (below_of 1 r s d i (entry_of r.kind s d i) ++ walk_from 1 r s d m (i + 1)) (t + 1))
      led v true b (given n) x next =
          let e : Enters r s d i n = record { inside = omega arith; lead = eqb-true _ _ b; directory = x } in
          let k : total_below r s d i ≡ n.total = rw (b, x) in
          rw (b, x) (entered i n (walk_from 1 r s d m (i + 1)) e (next (i + totals_below r s d i + 1 + n.total) (omega arith) (omega (arith, more_below i))) n.total 0 (t + 1) (omega arith) (omega arith) v)
      led v true b (refused number carried) x next =
          rw (b, x) (faulty i number carried (record { reached = v; here = record { inside = omega arith; lead = eqb-true _ _ b; fault = x } }) refl)
      led v false b x y next =
          let k : total_below r s d i ≡ 0 = rw b in
          rw b (next (t + 1) (omega arith) (omega (arith, more_below i)) (past_entry r s d class sub i 0 v (λ l h m. eqb-false _ _ b m.is_in.0.lead) (λ number carried f. eqb-false _ _ b f.lead)))

  pub walk_answered : d.level ≡ 1 → Answered r s d class sub (first_in r.kind s class sub (walk_of 1 r s d) 0)
  unfolding first_in totals_below
  walk_answered one = walked one d.total 0 0 (omega arith) refl (at_start r s d class sub)

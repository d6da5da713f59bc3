-- The definition's lookup answers by places, and no other answer does. Assumes nothing.
use mathlib.Core.Path.{◌≡◌, refl, sym, ap, subst, ◌∙◌}
use mathlib.Core.Logic.{inr}
use mathlib.Core.List.{List}
use mathlib.Core.Bool.{Bool, true, false}
use Prim.Native.Nat.{ℕ, zero, suc, ◌+◌, ◌<◌, ◌≤◌}
use native.Mathlib.Omega.{arith}
use borrow.Author.Tests.{eqb-true, eqb-false, eq-eqb, ne_eqb}
use lib.Dec.{eqb}
use Rattle.reply.specs.Reply.{Reply, Carried, given, refused, tested, then}
use Rattle.reply.specs.Scan.{Lowest, None}
use Rattle.reply.proofs.ReplyLaws.{clash, then_given}
use Rattle.directory.specs.declared.Directory.{Directory}
use Rattle.directory.specs.Directory.{directory_at}
use Rattle.directory.proofs.Accept.{acceptance}
use Rattle.entries.specs.declared.Match.{Match}
use Rattle.entries.specs.Entry.{find_in}
use Rattle.entries.specs.Good.{Leads, Matches}
use Rattle.entries.proofs.Lowest.{lowest_match}
use Rattle.efs.specs.declared.Rules.{Rules}
use Rattle.efs.specs.Efs.{pointer_in}
use Rattle.flash.specs.Flash.{flash_directory, from_lookup}
use Rattle.flash.proofs.Ways.{Opened, one, two, opened}
use Rattle.walk.specs.Walk.{walk_of, first_in, find_image}
use Rattle.walk.specs.declared.ImageMatch.{ImageMatch}
use Rattle.walk_places.specs.Places.{Spot, top, below, Earlier, inner, FaultAt, MatchAt, total_below, totals_below, totals_to}
use Rattle.walk_places.specs.Lookup.{Find, FirstMatch, Answered, matched, faulty, ended, in_level_one, Answers, Lookup, ImageLookupByPlaces}
use Rattle.walk_places.proofs.Answer.{one_answer, more_below, walk_answered}

-- level one is of level one
level_one_lem : (r : Rules) (s : List ℕ) (d : Directory) → flash_directory r 1 s ≡ given d → d.level ≡ 1
level_one_lem r s d e = by (opened r s d 1 e).1 refl
  where
    by : {l : ℕ} → Opened r s d l → l ≡ 1 → d.level ≡ 1
    by (one q) h =
        let t = then_given (pointer_in r s) (λ p. directory_at r.kind r.limit 1 s p.place.0) q in
        (acceptance.only r.kind r.limit 1 s t.0.place.0 d t.2).2
    by (two above a q) h = absurd (let z : ⊥ = omega arith in z)

module _ (r : Rules) (s : List ℕ) (d : Directory) (class sub : ℕ) where
  -- ---- in its own directory the first match is the lowest
  lowest_at : (p : Spot) (f : ImageMatch) (m : FirstMatch r s d class sub p f) →
      Lowest (Matches r.kind s m.match.directory class sub) m.match.directory.total f.index
  lowest_at p f m =
      let x = m.index in
      record { inside = let h = inside p m.match in omega arith; here = subst (Matches r.kind s n class sub) (sym x) m.match.here; earlier = λ j h. none p m j (omega arith) }
    where
      n : Directory
      n = m.match.directory

      inside : (p : Spot) (m : MatchAt r s d class sub p) → inner p < m.directory.total
      inside (top i) m = m.is_in.1
      inside (below i j) m = m.is_in.1

      none : (p : Spot) (m : FirstMatch r s d class sub p f) (j : ℕ) → j < inner p → Matches r.kind s m.match.directory class sub j → ⊥
      none (top i) m j h q =
          let g = m.match.is_in.1 in
          m.reached.unmatched (top j) h (record { directory = m.match.directory; is_in = (m.match.is_in.0, omega arith); here = q })
      none (below i k) m j h q =
          let g = m.match.is_in.1 in
          m.reached.unmatched (below i j) (inr (refl, h)) (record { directory = m.match.directory; is_in = (m.match.is_in.0, omega arith); here = q })

  -- ---- its count is at most the sum of the totals of the directories entered
  bound_at : (p : Spot) (f : ImageMatch) → FirstMatch r s d class sub p f → f.tested ≤ totals_to r s d p
  bound_at (top i) f m =
      let c = m.count in
      let n : m.match.directory.total ≡ d.total = ap (λ (n : Directory). n.total) m.match.is_in.0 in
      let h = m.match.is_in.1 in
      omega arith
  bound_at (below i j) f m =
      let c = m.count in
      let e = m.match.is_in.0 in
      let b : total_below r s d i ≡ m.match.directory.total = rw (eq-eqb _ _ e.lead, e.directory) in
      let h = m.match.is_in.1 in
      let g = e.inside in
      omega (arith, more_below r s d class sub i)

  -- ---- without a lead in level one
  module _ (no : None (Leads r.kind s d) d.total) where
    none_below : (i : ℕ) → i ≤ d.total → totals_below r s d i ≡ 0
    unfolding totals_below
    none_below zero h = refl
    none_below (suc i) h =
        let k : total_below r s d i ≡ 0 = rw (ne_eqb _ _ (no i (omega arith))) in
        omega (arith, none_below i (omega arith))

    no_below : (i j : ℕ) → MatchAt r s d class sub (below i j) → ⊥
    no_below i j m = no i m.is_in.0.inside m.is_in.0.lead

    no_faults : (i number : ℕ) (carried : Carried) → FaultAt r s d i number carried → ⊥
    no_faults i number carried f = no i f.inside f.lead

    in_one : (x : Reply Match) → find_in r.kind s d class sub ≡ x → Answered r s d class sub (in_level_one d x)
    in_one (given m) e =
        let l = lowest_match.found_only r.kind s d class sub m e in
        let i = m.index in
        let h = l.0.inside in
        matched (top i) (record { place = d.place; level = 1; index = i; tested = m.tested })
        (record {
          reached = record { unmatched = earlier i l.0.earlier; sound = λ k number carried h. no_faults k number carried };
          match = record { directory = d; is_in = (refl, h); here = l.0.here };
          place = refl;
          level = refl;
          index = refl;
          count = let c = l.1 in omega (arith, none_below i (omega arith));
        }) refl
      where
        earlier : (i : ℕ) → ((j : ℕ) → j < i → Matches r.kind s d class sub j → ⊥) → (q : Spot) → Earlier q (top i) → MatchAt r s d class sub q → ⊥
        earlier i f (top k) h m = f k h (subst (λ (n : Directory). Matches r.kind s n class sub k) m.is_in.0 m.here)
        earlier i f (below k l) h m = no_below k l m
    in_one (refused number carried) e =
        let f = lowest_match.absent_only r.kind s d class sub number carried e in
        let x : d.total ≡ d.total + totals_below r s d d.total = omega (arith, none_below d.total (omega arith)) in
        ended (record { unmatched = none f.0; sound = no_faults }) (rw (f.1, f.2) (ap (λ (n : ℕ). refused 8 (tested n)) x))
      where
        none : None (Matches r.kind s d class sub) d.total → (p : Spot) → MatchAt r s d class sub p → ⊥
        none f (top k) m =
            let n : m.directory.total ≡ d.total = ap (λ (n : Directory). n.total) m.is_in.0 in
            let h = m.is_in.1 in
            f k (omega arith) (subst (λ (n : Directory). Matches r.kind s n class sub k) m.is_in.0 m.here)
        none f (below k l) m = no_below k l m

  -- ---- all that holds follows from the one case that holds
  answers_by : (find : Find) → flash_directory r 1 s ≡ given d → Answered r s d class sub (find r s class sub) → Answers find r s class sub d
  answers_by find e a = record {
    found = λ p f m. one_answer r s d class sub _ _ a (matched p f m refl);
    found_only = λ f q. only f q a;
    fault = λ i number carried f. one_answer r s d class sub _ _ a (faulty i number carried f refl);
    absent = λ n. one_answer r s d class sub _ _ a (ended n refl);
    answered = a;
    no_leads = λ no. one_answer r s d class sub _ _ a (in_one no (find_in r.kind s d class sub) refl) ∙ ap (λ (x : Reply Directory). in_level_one d (then (from_lookup x) (λ d. find_in r.kind s d class sub))) (sym e);
  }
    where
      only : (f : ImageMatch) → find r s class sub ≡ given f → Answered r s d class sub (find r s class sub) → (p : Spot) × FirstMatch r s d class sub p f
      only f q (matched p g m h) = let x : given g ≡ given f = sym h ∙ q in let y : g ≡ f = cc in (p, subst (FirstMatch r s d class sub p) y m)
      only f q (faulty i number carried m h) = clash (sym h ∙ q)
      only f q (ended m h) = clash (sym h ∙ q)

module _ (r : Rules) (s : List ℕ) (class sub : ℕ) where
  pub look : (x : Reply Directory) → flash_directory r 1 s ≡ x → find_image r s class sub ≡ then (from_lookup x) (λ d. first_in r.kind s class sub (walk_of 1 r s d) 0)
  look x e = ap (λ (x : Reply Directory). then (from_lookup x) (λ d. first_in r.kind s class sub (walk_of 1 r s d) 0)) e

  pub image_answered : (d : Directory) → flash_directory r 1 s ≡ given d → Answered r s d class sub (find_image r s class sub)
  image_answered d e = subst (Answered r s d class sub) (sym (look (given d) e)) (walk_answered r s d class sub (level_one_lem r s d e))

  other_number : (number : ℕ) (carried : Carried) → (number ≡ 8 → ⊥) → flash_directory r 1 s ≡ refused number carried → find_image r s class sub ≡ refused number carried
  other_number number carried n e = look (refused number carried) e ∙ rw (ne_eqb _ _ n)

pub holds : Lookup find_image
holds = record {
  no_pointer = λ r s class sub carried e. look r s class sub (refused 8 carried) e;
  no_level_one = other_number;
  answers = λ r s class sub d e. answers_by r s d class sub find_image e (image_answered r s class sub d e);
}

settles : (find other : Find) → Lookup find → Lookup other → (r : Rules) (s : List ℕ) (class sub : ℕ) → find r s class sub ≡ other r s class sub
settles find other w v r s class sub = by (flash_directory r 1 s) refl
  where
    by_number : (number : ℕ) (carried : Carried) → flash_directory r 1 s ≡ refused number carried → (b : Bool) → eqb number 8 ≡ b → find r s class sub ≡ other r s class sub
    by_number number carried e true b =
        let q : flash_directory r 1 s ≡ refused 8 carried = e ∙ ap (λ (n : ℕ). refused n carried) (eqb-true _ _ b) in
        w.no_pointer r s class sub carried q ∙ sym (v.no_pointer r s class sub carried q)
    by_number number carried e false b =
        let n = eqb-false number 8 b in
        w.no_level_one r s class sub number carried n e ∙ sym (v.no_level_one r s class sub number carried n e)

    by : (x : Reply Directory) → flash_directory r 1 s ≡ x → find r s class sub ≡ other r s class sub
    by (given d) e = one_answer r s d class sub _ _ (w.answers r s class sub d e).answered (v.answers r s class sub d e).answered
    by (refused number carried) e = by_number number carried e (eqb number 8) refl

pub image_lookup_by_places : ImageLookupByPlaces
image_lookup_by_places = record {
  holds = holds;
  settles = λ find w. settles find find_image w holds;
  lowest = lowest_at;
  bound = bound_at;
}

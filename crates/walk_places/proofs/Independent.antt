-- Images that agree on what the walk comes to have the same answer. Assumes nothing.
use mathlib.Core.Path.{◌≡◌, refl, sym, ap, ap₂, subst, ◌∙◌}
use mathlib.Core.Logic.{inl, inr}
use mathlib.Core.List.{List}
use mathlib.Core.Bool.{Bool, true, false, cond, ◌&&◌}
use Prim.Native.Nat.{ℕ, zero, suc, ◌+◌, ◌<◌, ◌≤◌}
use native.Mathlib.Omega.{arith}
use borrow.Author.Tests.{eqb-true}
use lib.Dec.{leb, eqb}
use Rattle.reply.specs.Reply.{Reply, Carried, given, refused, tested, guard, then}
use Rattle.reply.proofs.ReplyLaws.{then_given, then_same}
use Rattle.window.specs.Window.{four_gib, offset_in, within}
use Rattle.window.specs.declared.Offset.{Offset}
use Rattle.directory.specs.declared.Directory.{Directory}
use Rattle.directory.specs.Directory.{directory_at}
use Rattle.directory.specs.Good.{GoodDirectory}
use Rattle.directory.specs.Independent.{Agree, end_of}
use Rattle.directory.proofs.Accept.{acceptance}
use Rattle.directory.proofs.Independent.{independence}
use Rattle.entries.specs.declared.Entry.{Entry}
use Rattle.entries.specs.Entry.{entry_of}
use Rattle.entries.specs.Good.{Leads, Matches}
use Rattle.entries.proofs.Accept.{all_entry}
use Rattle.entries.proofs.Independent.{entries_independence}
use Rattle.window.specs.Length.{longest}
use Rattle.efs.specs.Efs.{efs_place, efs_at, efs_in, pointer_to, pointer_of, pointer_in}
use Rattle.efs.specs.declared.Efs.{Efs}
use Rattle.efs.specs.declared.Pointer.{Pointer}
use Rattle.efs.specs.declared.Rules.{Rules}
use Rattle.flash.specs.Flash.{level_one, level_two_at, flash_directory}
use Rattle.flash.proofs.Ways.{Opened, one, two, opened}
use Rattle.walk.specs.Walk.{find_image}
use Rattle.walk.specs.declared.ImageMatch.{ImageMatch}
use Rattle.walk_places.specs.Places.{Spot, top, below, Earlier, outer, inner, led_to, total_of, Enters, FaultAt, IsIn, MatchAt, Reached, total_below, totals_below, spots_to}
use Rattle.walk_places.specs.Lookup.{Answered, matched, faulty, ended}
use Rattle.walk_places.specs.Independent.{AgreeAt, SameWalk, ImageIndependence}
use Rattle.walk_places.proofs.Order.{one_given}
use Rattle.walk_places.proofs.Leads.{two_same, leads_told}
use Rattle.walk_places.proofs.Answer.{one_answer}
use Rattle.walk_places.proofs.Lookup.{look, image_answered}

-- what lies before what entry k leads to lies before every spot that is later than entry k
before_below : (k : ℕ) (p q : Spot) → Earlier (top k) p → Earlier q (below k 0) → Earlier q p
before_below k (top i) (top a) h g = omega arith
before_below k (below i j) (top a) h g = omega arith
before_below k (top i) (below a b) h (inl g) = omega arith
before_below k (below i j) (below a b) h (inl g) = inl (omega arith)
before_below k p (below a b) h (inr (e, g)) = absurd (let z : ⊥ = omega arith in z)

-- an entry of level one comes before each spot that is later than something below it
above_earlier : (k l : ℕ) (p : Spot) → Earlier (below k l) p → Earlier (top k) p
above_earlier k l (top i) h = h
above_earlier k l (below i j) (inl h) = omega arith
above_earlier k l (below i j) (inr (e, h)) = omega arith

index_earlier : (k : ℕ) (p : Spot) → k < outer p → Earlier (top k) p
index_earlier k (top i) h = h
index_earlier k (below i j) h = omega arith

up_to : (k : ℕ) (p : Spot) → Earlier (top k) p → k ≤ outer p
up_to k (top i) h = omega arith
up_to k (below i j) h = h

choose_same : (b : Bool) (x y : ℕ) → (b ≡ true → x ≡ y) → cond b x 0 ≡ cond b y 0
choose_same true x y h = h refl
choose_same false x y h = refl

-- the walk comes to what each entry before a spot leads to
reached_below : (r : Rules) (s : List ℕ) (d : Directory) (class sub : ℕ) (p : Spot) → Reached r s d class sub p → (k : ℕ) → Earlier (top k) p → Reached r s d class sub (below k 0)
reached_below r s d class sub p w k h = record {
  unmatched = λ q g. w.unmatched q (before_below k p q h g);
  sound = λ i number carried g. let u = up_to k p h in w.sound i number carried (omega arith);
}

-- images that agree on the directory at o agree on the one that is given there
agree_given : (r : Rules) (s t : List ℕ) (n : Directory) → GoodDirectory r.kind r.limit s n → AgreeAt r.kind s t n.place.0 → Agree s t n.place.0 (end_of r.kind n)
agree_given r s t n g a = rw (← g.total) a

module _ (r : Rules) (s t : List ℕ) (wide : 16 ≤ r.kind.entry) where
  same_entry : (n : Directory) → Agree s t n.place.0 (end_of r.kind n) → (i : ℕ) → i < n.total → entry_of r.kind s n i ≡ entry_of r.kind t n i
  same_entry n a i h = one_given (all_entry r.kind s n i h) ((entries_independence r.kind s t n wide a).entry i ∙ all_entry r.kind t n i h)

  same_match : (n : Directory) → Agree s t n.place.0 (end_of r.kind n) → (class sub i : ℕ) → i < n.total → Matches r.kind s n class sub i → Matches r.kind t n class sub i
  same_match n a class sub i h = subst (λ (e : Entry). (e.class ≡ class) × (e.subprogram ≡ sub)) (same_entry n a i h)

  match_back : (n : Directory) → Agree s t n.place.0 (end_of r.kind n) → (class sub i : ℕ) → i < n.total → Matches r.kind t n class sub i → Matches r.kind s n class sub i
  match_back n a class sub i h = subst (λ (e : Entry). (e.class ≡ class) × (e.subprogram ≡ sub)) (sym (same_entry n a i h))

module _ (r : Rules) (s t : List ℕ) (class sub : ℕ) (fits : r.window ≤ four_gib) (wide : 16 ≤ r.kind.entry) (way : SameWalk r s t class sub) where
  -- ---- the way to level one
  pointer_same : (p : ℕ) → pointer_to r.window s p ≡ pointer_to r.window t p
  unfolding pointer_to
  pointer_same p = rw (then_same (offset_in r.window p) (λ o. within s o.0 (given o)) (λ o. within t o.0 (given o)) (λ o q. rw way.long), way.long)

  pointers_same : (e : Efs) → pointer_of r.window s e ≡ pointer_of r.window t e
  unfolding pointer_of
  pointers_same e = simp pointer_same

  efs_same : efs_in r s ≡ efs_in r t
  efs_same =
      then_same (efs_place r.window r.candidates s) (λ o. given (efs_at s o)) (λ o. given (efs_at t o)) (λ o q. rw (way.late o q, way.early o q))
      ∙ ap (λ (x : Reply Offset). then x (λ o. given (efs_at t o))) way.place

  one_same : level_one r s ≡ level_one r t
  one_same =
      then_same (pointer_in r s) (λ p. directory_at r.kind r.limit 1 s p.place.0) (λ p. directory_at r.kind r.limit 1 t p.place.0)
      (λ p q. independence.directory r.kind r.limit 1 s t p.place.0 wide (way.one p q))
      ∙ ap (λ (x : Reply Pointer). then x (λ p. directory_at r.kind r.limit 1 t p.place.0))
      (then_same (efs_in r s) (pointer_of r.window s) (pointer_of r.window t) (λ e q. pointers_same e) ∙ ap (λ (x : Reply Efs). then x (pointer_of r.window t)) efs_same)

  flash_same : flash_directory r 1 s ≡ flash_directory r 1 t
  unfolding flash_directory
  flash_same = ap₂ (λ (b : Bool) (x : Reply Directory). guard b 15 x) (ap (λ (n : ℕ). leb 1 n && leb n longest) way.long) one_same

  -- level one is the same in both
  agree_one : (d : Directory) → flash_directory r 1 s ≡ given d → Agree s t d.place.0 (end_of r.kind d)
  agree_one d e = by (opened r s d 1 e).1 refl
    where
      by : {l : ℕ} → Opened r s d l → l ≡ 1 → Agree s t d.place.0 (end_of r.kind d)
      by (one q) h =
          let p = then_given (pointer_in r s) (λ p. directory_at r.kind r.limit 1 s p.place.0) q in
          let g = acceptance.only r.kind r.limit 1 s p.0.place.0 d p.2 in
          agree_given r s t d g.0 (rw g.1 (way.one p.0 p.1))
      by (two above a q) h = absurd (let z : ⊥ = omega arith in z)

  -- ---- where level one is d
  module _ (d : Directory) (opens : flash_directory r 1 s ≡ given d) where
    entry_same : (i : ℕ) → i < d.total → entry_of r.kind s d i ≡ entry_of r.kind t d i
    entry_same = same_entry r s t wide d (agree_one d opens)

    lead_on : (i : ℕ) → i < d.total → Leads r.kind s d i → Leads r.kind t d i
    lead_on i h = subst (λ (e : Entry). e.class ≡ r.kind.lead) (entry_same i h)

    lead_back_lem : (i : ℕ) → i < d.total → Leads r.kind t d i → Leads r.kind s d i
    lead_back_lem i h = subst (λ (e : Entry). e.class ≡ r.kind.lead) (sym (entry_same i h))

    -- what a lead that the walk comes to leads to
    led_same : (i : ℕ) → i < d.total → Leads r.kind s d i → Reached r s d class sub (below i 0) → led_to r s d i ≡ led_to r t d i
    led_same i h l w =
        two_same r fits s t way.long d i
        (λ o b k. independence.directory r.kind r.limit 2 s t o wide (way.two d opens i h l w o b k))
        ∙ ap (level_two_at r t d i) (entry_same i h)

    agree_two : (i : ℕ) (n : Directory) → Enters r s d i n → Reached r s d class sub (below i 0) → Agree s t n.place.0 (end_of r.kind n)
    agree_two i n e w =
        let g = (leads_told r s d i fits).given_only n e.directory in
        let p = g.1.present in
        agree_given r s t n g.1 (way.two d opens i e.inside e.lead w n.place.0 g.0 (omega arith))

    enters_on : (i : ℕ) (n : Directory) → Reached r s d class sub (below i 0) → Enters r s d i n → Enters r t d i n
    enters_on i n w e = record { inside = e.inside; lead = lead_on i e.inside e.lead; directory = sym (led_same i e.inside e.lead w) ∙ e.directory }

    enters_back : (i : ℕ) (n : Directory) → Reached r s d class sub (below i 0) → Enters r t d i n → Enters r s d i n
    enters_back i n w e = let l = lead_back_lem i e.inside e.lead in record { inside = e.inside; lead = l; directory = led_same i e.inside l w ∙ e.directory }

    fault_on : (i number : ℕ) (carried : Carried) → Reached r s d class sub (below i 0) → FaultAt r s d i number carried → FaultAt r t d i number carried
    fault_on i number carried w f = record { inside = f.inside; lead = lead_on i f.inside f.lead; fault = sym (led_same i f.inside f.lead w) ∙ f.fault }

    fault_back : (i number : ℕ) (carried : Carried) → Reached r s d class sub (below i 0) → FaultAt r t d i number carried → FaultAt r s d i number carried
    fault_back i number carried w f = let l = lead_back_lem i f.inside f.lead in record { inside = f.inside; lead = l; fault = led_same i f.inside l w ∙ f.fault }

    -- ---- a spot that the walk comes to
    is_in_on : (p : Spot) (n : Directory) → Reached r s d class sub p → IsIn r s d p n → IsIn r t d p n
    is_in_on (top i) n w h = h
    is_in_on (below i j) n w h = (enters_on i n (reached_below r s d class sub (below i j) w i (omega arith)) h.0, h.1)

    here_on : (p : Spot) (n : Directory) → Reached r s d class sub p → IsIn r s d p n → Matches r.kind s n class sub (inner p) → Matches r.kind t n class sub (inner p)
    here_on (top i) n w h m = same_match r s t wide n (subst (λ (n : Directory). Agree s t n.place.0 (end_of r.kind n)) (sym h.0) (agree_one d opens)) class sub i h.1 m
    here_on (below i j) n w h m = same_match r s t wide n (agree_two i n h.0 (reached_below r s d class sub (below i j) w i (omega arith))) class sub j h.1 m

    match_before : (p q : Spot) → Reached r s d class sub p → Earlier q p → MatchAt r t d class sub q → MatchAt r s d class sub q
    match_before p (top k) w g m = record {
      directory = m.directory;
      is_in = m.is_in;
      here = match_back r s t wide m.directory (subst (λ (n : Directory). Agree s t n.place.0 (end_of r.kind n)) (sym m.is_in.0) (agree_one d opens)) class sub k m.is_in.1 m.here;
    }
    match_before p (below k l) w g m =
        let v = reached_below r s d class sub p w k (above_earlier k l p g) in
        let e = enters_back k m.directory v m.is_in.0 in
        record { directory = m.directory; is_in = (e, m.is_in.1); here = match_back r s t wide m.directory (agree_two k m.directory e v) class sub l m.is_in.1 m.here }

    reached_on : (p : Spot) → Reached r s d class sub p → Reached r t d class sub p
    reached_on p w = record {
      unmatched = λ q g m. w.unmatched q g (match_before p q w g m);
      sound = λ k number carried h f. w.sound k number carried h (fault_back k number carried (reached_below r s d class sub p w k (index_earlier k p h)) f);
    }

    -- ---- the count
    totals_same : (i : ℕ) → i ≤ d.total → ((k : ℕ) → k < i → Reached r s d class sub (below k 0)) → totals_below r s d i ≡ totals_below r t d i
    unfolding totals_below
    totals_same zero h w = refl
    totals_same (suc i) h w =
        let b : total_below r s d i ≡ total_below r t d i =
        choose_same (eqb (entry_of r.kind s d i).class r.kind.lead) _ _ (λ q. ap total_of (led_same i (omega arith) (eqb-true _ _ q) (w i (omega arith))))
        ∙ ap (λ (e : Entry). cond (eqb e.class r.kind.lead) (total_of (led_to r t d i)) 0) (entry_same i (omega arith)) in
        omega (arith, totals_same i (omega arith) (λ k g. w k (omega arith)))

    to_same : (p : Spot) → Reached r s d class sub p → outer p < d.total → spots_to r s d p ≡ spots_to r t d p
    to_same (top i) w h = omega (arith, totals_same i (omega arith) (λ k g. reached_below r s d class sub (top i) w k g))
    to_same (below i j) w h = omega (arith, totals_same i (omega arith) (λ k g. reached_below r s d class sub (below i j) w k (omega arith)))

    inside_one : (p : Spot) (m : MatchAt r s d class sub p) → outer p < d.total
    inside_one (top i) m = let n : m.directory.total ≡ d.total = ap (λ (n : Directory). n.total) m.is_in.0 in let h = m.is_in.1 in omega arith
    inside_one (below i j) m = m.is_in.0.inside

    -- ---- the answer
    answered_same : (a : Reply ImageMatch) → Answered r s d class sub a → Answered r t d class sub a
    answered_same a (matched p f m e) =
        let w = m.reached in
        let h = m.match in
        matched p f
        (record {
          reached = reached_on p w;
          match = record { directory = h.directory; is_in = is_in_on p h.directory w h.is_in; here = here_on p h.directory w h.is_in h.here };
          place = m.place;
          level = m.level;
          index = m.index;
          count = m.count ∙ to_same p w (inside_one p h);
        }) e
    answered_same a (faulty i number carried f e) =
        faulty i number carried (record { reached = reached_on (below i 0) f.reached; here = fault_on i number carried f.reached f.here }) e
    answered_same a (ended n e) =
        ended (record { unmatched = none; sound = λ k number carried f. n.sound k number carried (fault_back k number carried (reached (below k 0)) f) })
        (e ∙ ap (λ (n : ℕ). refused 8 (tested (d.total + n))) (totals_same d.total (omega arith) (λ k g. reached (below k 0))))
      where
        reached : (p : Spot) → Reached r s d class sub p
        reached p = record { unmatched = λ q g. n.unmatched q; sound = λ k number carried g. n.sound k number carried }

        none : (p : Spot) → MatchAt r t d class sub p → ⊥
        none (top k) m = n.unmatched (top k) (match_before (below k 0) (top k) (reached (below k 0)) (omega arith) m)
        none (below k l) m = n.unmatched (below k l) (match_before (top (k + 1)) (below k l) (reached (top (k + 1))) (omega arith) m)

  answer_same : find_image r s class sub ≡ find_image r t class sub
  answer_same = by (flash_directory r 1 s) refl
    where
      by : (x : Reply Directory) → flash_directory r 1 s ≡ x → find_image r s class sub ≡ find_image r t class sub
      by (given d) e = one_answer r t d class sub _ _ (answered_same d e _ (image_answered r s class sub d e)) (image_answered r t class sub d (sym flash_same ∙ e))
      by (refused number carried) e = look r s class sub (refused number carried) e ∙ sym (look r t class sub (refused number carried) (sym flash_same ∙ e))

pub image_independence : ImageIndependence
image_independence = answer_same

-- A search among a directory's entries gives the lowest that fits, or that none does. Assumes nothing.
use mathlib.Core.Path.{◌≡◌, refl, sym, ◌∙◌}
use mathlib.Core.List.{List}
use mathlib.Core.Bool.{Bool, true, false, and-eq-true_iff}
use Prim.Native.Nat.{ℕ, ◌+◌}
use native.Mathlib.Omega.{arith}
use borrow.Author.Tests.{eqb-true, eq-eqb}
use lib.Dec.{eqb}
use Rattle.std.specs.Prelude.{Result, Ok, Err}
use Rattle.std.specs.Result.{is_ok}
use Rattle.reply.specs.Number.{refusal_number}
use Rattle.reply.specs.declared.Fault.{Fault}
use Rattle.reply.specs.declared.Missed.{Missed}
use Rattle.reply.specs.declared.Missed.TheVariants as missed
use Rattle.reply.specs.Reply.{Reply, carried_of, told_search, Carried, given, refused, alone, tested}
use Rattle.reply.specs.Scan.{Lowest, None}
use Rattle.reply.proofs.ReplyLaws.{clash}
use Rattle.reply.proofs.SomeLaws.{some_true, some_false}
use Rattle.reply.proofs.Lowest.{Searched, lowest, none, Decided, lowest_found, none_found, searched}
use Rattle.entries.specs.Entry.{entry_of, lead_of, lead_in, matches, holds_in, find_in, found_at, nowhere}
use Rattle.entries.specs.Good.{Leads, Matches, LowestLead, LowestMatch}
use Rattle.directory.specs.declared.Kind.{Kind}
use Rattle.directory.specs.declared.Directory.{Directory}
use Rattle.entries.specs.declared.Entry.{Entry}
use Rattle.entries.specs.declared.Lead.{Lead}
use Rattle.entries.specs.declared.Match.{Match}

-- the test of a match, as a fact and back
pub match_says : (e : Entry) (type sub : ℕ) → (e.class ≡ type) × (e.subprogram ≡ sub) → matches e type sub ≡ true
match_says e type sub m = rw (eq-eqb _ _ m.0, eq-eqb _ _ m.1)

pub match_holds : (e : Entry) (type sub : ℕ) → matches e type sub ≡ true → (e.class ≡ type) × (e.subprogram ≡ sub)
match_holds e type sub h = let g = (and-eq-true_iff (eqb e.class type) _).0 h in (eqb-true _ _ g.0, eqb-true _ _ g.1)

abbrev leads_test : (kind : Kind) (s : List ℕ) (d : Directory) → Decided (Leads kind s d)
leads_test kind s d = record { test = λ i. eqb (entry_of kind s d i).class kind.lead; says = λ i. eq-eqb _ _; holds = λ i. eqb-true _ _ }

abbrev match_test : (kind : Kind) (s : List ℕ) (d : Directory) (type sub : ℕ) → Decided (Matches kind s d type sub)
match_test kind s d type sub = record {
  test = λ i. matches (entry_of kind s d i) type sub;
  says = λ i. match_says (entry_of kind s d i) type sub;
  holds = λ i. match_holds (entry_of kind s d i) type sub;
}

-- how a search ends that gives something or refuses with 8
module _ {A : Type 0} {P : ℕ → Type 0} {found : ℕ → A} {carried : ℕ → Carried} {n : ℕ} {answer : Reply A} (s : Searched P (λ i. given (found i)) (λ n. refused 8 (carried n)) n answer) where
  given_lowest : (a : A) → answer ≡ given a → (i : ℕ) × Lowest P n i × (found i ≡ a)
  given_lowest a q = by s
    where
      by : Searched P (λ i. given (found i)) (λ n. refused 8 (carried n)) n answer → (i : ℕ) × Lowest P n i × (found i ≡ a)
      by (lowest i l h) = let g : given (found i) ≡ given a = sym h ∙ q in (i, l, cc)
      by (none f h) = clash (sym h ∙ q)

  refused_none : (number : ℕ) (c : Carried) → answer ≡ refused number c → None P n × (number ≡ 8) × (c ≡ carried n)
  refused_none number c q = by s
    where
      by : Searched P (λ i. given (found i)) (λ n. refused 8 (carried n)) n answer → None P n × (number ≡ 8) × (c ≡ carried n)
      by (lowest i l h) = clash (sym q ∙ h)
      by (none f h) = let g : ◌≡◌ {A = Reply A} (refused 8 (carried n)) (refused number c) = sym h ∙ q in (f, cc, cc)

module _ (kind : Kind) (s : List ℕ) (d : Directory) where
  lead_searched : Searched (Leads kind s d) (λ i. given (lead_of kind s d i)) (λ _. refused 8 alone) d.total (lead_in kind s d)
  lead_searched = searched (Leads kind s d) (leads_test kind s d) (λ i. given (lead_of kind s d i)) (λ _. refused 8 alone) d.total

  lead_only : (l : Lead) → lead_in kind s d ≡ given l → Lowest (Leads kind s d) d.total l.index × (entry_of kind s d l.index ≡ l.entry)
  lead_only l q =
      let t = given_lowest {found = lead_of kind s d} {carried = λ _. alone} lead_searched l q in
      let x : t.0 ≡ l.index = cc t.2 in
      let y : entry_of kind s d t.0 ≡ l.entry = cc t.2 in
      (rw (← x) t.1, rw (← x) y)

  lead_none : (number : ℕ) (carried : Carried) → lead_in kind s d ≡ refused number carried → None (Leads kind s d) d.total
  lead_none number carried q = (refused_none {found = lead_of kind s d} {carried = λ _. alone} lead_searched number carried q).0

  module _ (type sub : ℕ) where
    find_searched : Searched (Matches kind s d type sub) found_at nowhere d.total (find_in kind s d type sub)
    find_searched = searched (Matches kind s d type sub) (match_test kind s d type sub) found_at nowhere d.total

    find_only : (m : Match) → find_in kind s d type sub ≡ given m → Lowest (Matches kind s d type sub) d.total m.index × (m.tested ≡ m.index + 1)
    find_only m q =
        let t = given_lowest {found = λ i. record { index = i; tested = i + 1 }} {carried = tested} find_searched m q in
        let x : t.0 ≡ m.index = cc t.2 in
        let y : t.0 + 1 ≡ m.tested = cc t.2 in
        (rw (← x) t.1, omega arith)

    find_none : (number : ℕ) (carried : Carried) → find_in kind s d type sub ≡ refused number carried → None (Matches kind s d type sub) d.total × (number ≡ 8) × (carried ≡ tested d.total)
    find_none number carried q = refused_none {found = λ i. record { index = i; tested = i + 1 }} {carried = tested} find_searched number carried q

    -- some entry matches exactly where the lookup gives one
    pub held : (m : Match) → find_in kind s d type sub ≡ given m → true ≡ holds_in kind s d type sub
    held m q =
        let l = (find_only m q).0 in
        sym (some_true (λ j. matches (entry_of kind s d j) type sub) d.total m.index l.inside (match_says (entry_of kind s d m.index) type sub l.here))

    pub not_held : (number : ℕ) (carried : Carried) → find_in kind s d type sub ≡ refused number carried → false ≡ holds_in kind s d type sub
    not_held number carried q = sym (some_false (λ j. matches (entry_of kind s d j) type sub) d.total (λ j l. by j (matches (entry_of kind s d j) type sub) refl ((find_none number carried q).0 j l)))
      where
        by : (j : ℕ) (b : Bool) → matches (entry_of kind s d j) type sub ≡ b → (Matches kind s d type sub j → ⊥) → b ≡ false
        by j true e n = absurd (n (match_holds (entry_of kind s d j) type sub e))
        by j false e n = refl

    -- so an answer that is given tells that some entry matches
    pub held_told : (q : Result Match (Missed Fault)) → told_search q ≡ find_in kind s d type sub → is_ok q ≡ holds_in kind s d type sub
    held_told (Ok m) e = held m (sym e)
    held_told (Err (missed.Absent n)) e = not_held 8 (tested n) (sym e)
    held_told (Err (missed.Refused fault)) e = not_held (refusal_number fault.refusal) (carried_of fault.met) (sym e)

pub lowest_lead : LowestLead
lowest_lead = record {
  found = λ kind s d. lowest_found (Leads kind s d) (leads_test kind s d) (λ i. given (lead_of kind s d i)) (λ _. refused 8 alone) d.total;
  absent = λ kind s d. none_found (Leads kind s d) (leads_test kind s d) (λ i. given (lead_of kind s d i)) (λ _. refused 8 alone) d.total;
  found_only = lead_only;
  absent_only = lead_none;
}

pub lowest_match : LowestMatch
lowest_match = record {
  found = λ kind s d type sub. lowest_found (Matches kind s d type sub) (match_test kind s d type sub) found_at nowhere d.total;
  absent = λ kind s d type sub. none_found (Matches kind s d type sub) (match_test kind s d type sub) found_at nowhere d.total;
  found_only = find_only;
  absent_only = find_none;
}

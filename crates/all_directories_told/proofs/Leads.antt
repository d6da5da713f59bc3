-- The walk of level one comes to the lowest lead at fault, or to the end with what each lead leads to. Assumes nothing.
use mathlib.Core.Path.{◌≡◌, refl, ap, subst}
use mathlib.Core.Logic.{inl}
use mathlib.Core.List.{List, [], ◌∷◌, ◌++◌}
use mathlib.Core.Bool.{Bool, true, false}
use Prim.Native.Nat.{ℕ, zero, suc, ◌+◌, ◌<◌, ◌≤◌}
use native.Mathlib.Omega.{arith}
use borrow.Author.Tests.{eqb-true, eqb-false}
use lib.Dec.{eqb}
use Rattle.reply.specs.Reply.{Reply, Carried, given, refused}
use Rattle.reply.specs.Scan.{All}
use Rattle.directory.specs.declared.Directory.{Directory}
use Rattle.entries.specs.Entry.{entry_of}
use Rattle.efs.specs.declared.Rules.{Rules}
use Rattle.walk.specs.Walk.{entries_from, walk_from}
use Rattle.walk_places.specs.Places.{led_to, Enters, FaultAt, total_below, totals_below}
use Rattle.walk_places.proofs.Order.{Compared, less, equal, more, compared, one_given, no_fault}
use Rattle.walk_places.proofs.Answer.{more_below}
use Rattle.all_directories.specs.AllDirectories.{Entered, entered_in}
use Rattle.all_directories.specs.Gathered.{led_by}
use Rattle.all_directories.proofs.Entry.{added_by, joined, entry_first}
use Rattle.all_directories_told.specs.Told.{In, Rising, totals_of}
use Rattle.all_directories_told.proofs.Lists.{all_from, all_append, in_front, in_back, rising_append, totals_append}

module _ (r : Rules) (s : List ℕ) (d : Directory) where
  -- what the leads from entry i on lead to, none of them at fault
  pub record From (i : ℕ) (behind : List Entered) : Type 0 where
    pub only : All (λ e. (i ≤ e.lead) × Enters r s d e.lead e.directory) behind
    pub every : (k : ℕ) (n : Directory) → i ≤ k → Enters r s d k n → In (record { directory = n; lead = k }) behind
    pub rising : Rising behind
    pub sound : (k number : ℕ) (carried : Carried) → i ≤ k → FaultAt r s d k number carried → ⊥
    pub sum : totals_below r s d d.total ≡ totals_below r s d i + totals_of behind

  -- how the walk from entry i on is answered
  pub data Came (i : ℕ) (answer : Reply (List Entered)) : Type 0 where
    ended : (behind : List Entered) → From i behind → answer ≡ given behind → Came i answer
    stopped : (k number : ℕ) (carried : Carried) → FaultAt r s d k number carried → ((l other : ℕ) (with : Carried) → i ≤ l → l < k → FaultAt r s d l other with → ⊥) → answer ≡ refused number carried → Came i answer

  -- ---- an entry of level one before the rest
  -- what holds at i, and from i + 1 on, holds from i on
  from_here : (P : ℕ → Type 0) (i k : ℕ) → P i → (i + 1 ≤ k → P k) → i ≤ k → P k
  from_here P i k here later h = by (compared i k)
    where
      by : Compared i k → P k
      by (less l) = later (omega arith)
      by (equal e) = subst P e here
      by (more l) = absurd (let z : ⊥ = omega arith in z)

  module _ (i : ℕ) (rest : Reply (List Entered)) where
    -- what entry i adds is what it enters, and it is not at fault
    added : (here : List Entered) → All (λ e. (i ≡ e.lead) × Enters r s d e.lead e.directory) here → Rising here → ((n : Directory) → Enters r s d i n → In (record { directory = n; lead = i }) here) →
        ((number : ℕ) (carried : Carried) → FaultAt r s d i number carried → ⊥) → total_below r s d i ≡ totals_of here → Came (i + 1) rest → Came i (joined (given here) rest)
    added here only up every sound t (ended behind w e) = ended (here ++ behind)
        (record {
          only = all_append (λ e. (i ≤ e.lead) × Enters r s d e.lead e.directory) here behind (all_from (λ e a. let h = a.0 in (omega arith, a.1)) here only) (all_from (λ e a. let h = a.0 in (omega arith, a.1)) behind w.only);
          every = λ k n. from_here (λ k. Enters r s d k n → In (record { directory = n; lead = k }) (here ++ behind)) i k (λ q. in_front here behind _ (every n q)) (λ h q. in_back here behind _ (w.every k n h q));
          rising = rising_append here behind (i + 1) (all_from (λ e a. let h = a.0 in omega arith) here only) (all_from (λ e a. a.0) behind w.only) up w.rising;
          sound = λ k number carried. from_here (λ k. FaultAt r s d k number carried → ⊥) i k (sound number carried) (w.sound k number carried);
          sum = omega (arith, w.sum, more_below r s d 0 0 i, totals_append here behind);
        }) (ap (joined (given here)) e)
    added here only up every sound t (stopped k number carried f w e) = stopped k number carried f
        (λ l other with. from_here (λ l. l < k → FaultAt r s d l other with → ⊥) i l (λ h. sound other with) (w l other with)) (ap (joined (given here)) e)

  -- ---- the last m entries of level one
  pub came : (m i : ℕ) → i + m ≡ d.total → Came i (entered_in (walk_from 1 r s d m i) 0)
  unfolding entered_in entries_from totals_of led_by added_by
  came zero i e =
      let z : d.total ≡ i = omega arith in
      let y : totals_below r s d d.total ≡ totals_below r s d i = ap (totals_below r s d) z in
      ended []
      (record {
        only = tt;
        every = λ k n h q. let o = q.inside in absurd (let f : ⊥ = omega arith in f);
        rising = tt;
        sound = λ k number carried h q. let o = q.inside in omega arith;
        sum = omega arith;
      }) refl
  came (suc m) i e = rw (entry_first r s d m i 0) (by (eqb (entry_of r.kind s d i).class r.kind.lead) refl (led_to r s d i) refl (came m (i + 1) (omega arith)))
    where
      rest : Reply (List Entered)
      rest = entered_in (walk_from 1 r s d m (i + 1)) 0

      by : (b : Bool) → eqb (entry_of r.kind s d i).class r.kind.lead ≡ b → (x : Reply Directory) → led_to r s d i ≡ x → Came (i + 1) rest → Came i (joined (added_by r s d i) rest)
      by true q (given n) l w =
          let here : Enters r s d i n = record { inside = omega arith; lead = eqb-true _ _ q; directory = l } in
          let t : total_below r s d i ≡ n.total = rw (q, l) in
          rw (q, l) (added i rest (record { directory = n; lead = i } ∷ []) ((refl, here), tt) (tt, tt) (λ m h. inl (let f : n ≡ m = one_given l h.directory in λ j. record { directory = f j; lead = i }))
          (λ number carried. no_fault r s d i number carried n here) (omega arith) w)
      by true q (refused number carried) l w =
          rw (q, l) (stopped i number carried (record { inside = omega arith; lead = eqb-true _ _ q; fault = l }) (λ k other with h g. absurd (let f : ⊥ = omega arith in f)) refl)
      by false q x l w =
          let t : total_below r s d i ≡ 0 = rw q in
          rw q (added i rest [] tt tt (λ n h. absurd (eqb-false _ _ q h.lead)) (λ number carried f. eqb-false _ _ q f.lead) (omega arith) w)

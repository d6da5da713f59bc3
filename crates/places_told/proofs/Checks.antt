-- A directory is refused exactly by what is wrong in it. Assumes nothing.
use mathlib.Core.Path.{◌≡◌, refl, sym, subst, ◌∙◌}
use mathlib.Core.Logic.{◌⊎◌}
use mathlib.Core.List.{List}
use mathlib.Core.Bool.{Bool, true, false}
use Prim.Native.Nat.{ℕ, zero, suc, ◌+◌, ◌-◌, ◌<◌, ◌≤◌}
use native.Mathlib.Omega.{arith}
use borrow.Author.Tests.{leb-true, eqb-true, eqb-false, le-leb, eq-eqb, ne_eqb}
use lib.ListN.{length}
use lib.Dec.{leb, eqb}
use Rattle.le.specs.Le.{le_at}
use Rattle.reply.specs.Reply.{Reply, Carried, given, refused, in_header, in_entry}
use Rattle.reply.specs.Scan.{scan}
use Rattle.reply.proofs.ReplyLaws.{clash, apart, passed, failed}
use Rattle.reply.proofs.ScanLaws.{scan_start, scan_stop, scan_pass}
use Rattle.directory.specs.Directory.{cookie_of, total_at, entry_place, checksum_at, class_at, reserved_zero, may_stand, may_repeat, entry_step, directory_of, entries_at, directory_checks, directory_at}
use Rattle.directory.specs.Good.{GoodEntry, First}
use Rattle.directory.proofs.Accept.{stand_fact, stand_test, there_passed}
use Rattle.directory.proofs.Heads.{first_fact, first_test}
use Rattle.directory.specs.declared.Kind.{Kind}
use Rattle.directory.specs.declared.Directory.{Directory}
use Rattle.places_told.proofs.Refused.{stopped, denied_le, le_denied, untrue}
use Rattle.places_told.specs.Where.{GoodHeader, HeaderFault, header_cut, other_cookie, too_many, entries_cut, other_sum, word_set, EntryFault, flags_set, misplaced, repeats, CheckFault, in_its_header, in_its_entry}

-- what holds of all below i and of i holds of all below i + 1
below_next : (P : ℕ → Type 0) (i h : ℕ) → ((h : ℕ) → h < i → P h) → P i → h < i + 1 → P h
below_next P i h before here l = by (eqb i h) refl
  where
    by : (b : Bool) → eqb i h ≡ b → P h
    by true e = subst P (eqb-true i h e) here
    by false e = before h (let n = eqb-false i h e in omega arith)

module _ (kind : Kind) (level : ℕ) (s : List ℕ) (o : ℕ) where
  abbrev Good : ℕ → Type 0
  Good h = GoodEntry kind level s o h × First kind s o h

  -- the tests made at entry i, where they or what comes behind is refused
  step_stopped : {C : Type 0} {n : ℕ} {c : Carried} (i : ℕ) (rest : Reply Directory) → entry_step kind level s o i rest ≡ refused n c →
      (EntryFault kind level s o i n → in_entry level i o ≡ c → C) → (Good i → rest ≡ refused n c → C) → C
  step_stopped i rest e f g =
      stopped (reserved_zero kind s o i) 5 _ _ e (λ a m k. f (subst (EntryFault kind level s o i) m (flags_set (eqb-false _ _ a))) k)
      (λ a e. stopped (may_stand kind level (class_at kind s o i)) 14 _ _ e (λ b m k. f (subst (EntryFault kind level s o i) m (misplaced (eqb-true _ _ a) (λ h. apart (stand_test kind level (le_at 1 s (entry_place kind o i + 0)) h) b))) k)
      (λ b e. stopped (may_repeat kind s o i) 18 _ _ e (λ r m k. f (subst (EntryFault kind level s o i) m (repeats (eqb-true _ _ a) (stand_fact kind level (le_at 1 s (entry_place kind o i + 0)) b) (λ h. apart (first_test kind s o i h) r))) k)
      (λ r e. g (record { reserved = eqb-true _ _ a; may_stand_lem = stand_fact kind level (le_at 1 s (entry_place kind o i + 0)) b }, first_fact kind s o i r) e)))

  -- where the entry is good they are passed, where it is at fault they refuse
  step_passed : (i : ℕ) (rest : Reply Directory) → Good i → entry_step kind level s o i rest ≡ rest
  step_passed i rest g =
      passed _ _ _ _ (eq-eqb _ _ g.0.reserved) ∙ passed _ _ _ _ (stand_test kind level (le_at 1 s (entry_place kind o i + 0)) g.0.may_stand_lem) ∙ passed _ _ _ _ (first_test kind s o i g.1)

  step_failed : {number : ℕ} (i : ℕ) (rest : Reply Directory) → EntryFault kind level s o i number → entry_step kind level s o i rest ≡ refused number (in_entry level i o)
  step_failed i rest (flags_set n) = failed _ _ _ _ (ne_eqb _ _ n)
  step_failed i rest (misplaced a n) = passed _ _ _ _ (eq-eqb _ _ a) ∙ failed _ _ _ _ (untrue _ (λ h. n (stand_fact kind level (le_at 1 s (entry_place kind o i + 0)) h)))
  step_failed i rest (repeats a b n) =
      passed _ _ _ _ (eq-eqb _ _ a) ∙ passed _ _ _ _ (stand_test kind level (le_at 1 s (entry_place kind o i + 0)) b) ∙ failed _ _ _ _ (untrue _ (λ h. n (first_fact kind s o i h)))

  module _ (limit : ℕ) where
    abbrev last : Reply Directory
    last = given (directory_of o level (total_at s o))

    -- the m entries from i on, where those before are good, and the header
    entries_only : {n : ℕ} {c : Carried} → GoodHeader kind limit level s o → (m i : ℕ) → total_at s o ≡ i + m → ((h : ℕ) → h < i → Good h) →
        scan (entry_step kind level s o) (λ _. last) m i ≡ refused n c → CheckFault kind limit level s o n c
    unfolding scan
    entries_only head zero i t before e = clash (sym e)
    entries_only {n = n} head (suc m) i t before e =
        step_stopped i _ e (λ f k. subst (CheckFault kind limit level s o n) k (in_its_entry i head (omega arith) before f))
        (λ g e. entries_only head m (i + 1) (omega arith) (λ h l. below_next Good i h before g l) e)

    -- up to entry i, where those before it are good
    entries_to : (i : ℕ) → i ≤ total_at s o → ((h : ℕ) → h < i → Good h) → entries_at kind level s o (total_at s o) ≡ scan (entry_step kind level s o) (λ _. last) (total_at s o - i) i
    entries_to zero l before = sym (scan_start (entry_step kind level s o) (λ _. last) (total_at s o))
    entries_to (suc i) l before =
        let one : i + 1 ≡ suc i = omega arith in
        entries_to i (omega arith) (λ h q. before h (omega arith))
        ∙ rw (← one) (scan_pass (entry_step kind level s o) (λ _. last) (total_at s o) i (omega arith) (λ rest. step_passed i rest (before i (omega arith))))

    checks_only : {n : ℕ} {c : Carried} → directory_checks kind limit level s o ≡ refused n c → CheckFault kind limit level s o n c
    unfolding directory_checks
    checks_only {n = n} {c = c} e =
        stopped (leb (o + 16) (length s)) 1 _ _ e (λ b. here (header_cut (denied_le _ _ b)))
        (λ b1 e. stopped (eqb (le_at 4 s (o + 0)) (cookie_of kind level)) 2 _ _ e (λ b. here (other_cookie (leb-true _ _ b1) (eqb-false _ _ b)))
        (λ b2 e. stopped (leb (total_at s o) limit) 3 _ _ e (λ b. here (too_many (leb-true _ _ b1) (eqb-true _ _ b2) (denied_le _ _ b)))
        (λ b3 e. stopped (leb (entry_place kind o (total_at s o)) (length s)) 1 _ _ e (λ b. here (entries_cut (leb-true _ _ b1) (eqb-true _ _ b2) (leb-true _ _ b3) (denied_le _ _ b)))
        (λ b4 e. stopped (eqb (le_at 4 s (o + 4)) (checksum_at kind s o (total_at s o))) 4 _ _ e (λ b. here (other_sum (leb-true _ _ b1) (eqb-true _ _ b2) (leb-true _ _ b3) (leb-true _ _ b4) (eqb-false _ _ b)))
        (λ b5 e. stopped (eqb (le_at 4 s (o + 12)) 0) 5 _ _ e (λ b. here (word_set (leb-true _ _ b1) (eqb-true _ _ b2) (leb-true _ _ b3) (leb-true _ _ b4) (eqb-true _ _ b5) (eqb-false _ _ b)))
        (λ b6 e. entries_only (record { there = leb-true _ _ b1; cookie = eqb-true _ _ b2; total = leb-true _ _ b3; entries = leb-true _ _ b4; checksum = eqb-true _ _ b5; word = eqb-true _ _ b6 })
        (total_at s o) 0 (omega arith) (λ h l. absurd (let z : ⊥ = omega arith in z)) e))))))
      where
        here : {number : ℕ} → HeaderFault kind limit level s o number → number ≡ n → in_header level o ≡ c → CheckFault kind limit level s o n c
        here f m k = subst (CheckFault kind limit level s o n) k (in_its_header (subst (HeaderFault kind limit level s o) m f))

    -- the checks of the header, passed
    header_passed : GoodHeader kind limit level s o → directory_checks kind limit level s o ≡ entries_at kind level s o (total_at s o)
    unfolding directory_checks
    header_passed g = simp (le-leb _ _ g.there, eq-eqb _ _ g.cookie, le-leb _ _ g.total, le-leb _ _ g.entries, eq-eqb _ _ g.checksum, eq-eqb _ _ g.word)

    header_failed : {number : ℕ} → HeaderFault kind limit level s o number → directory_checks kind limit level s o ≡ refused number (in_header level o)
    unfolding directory_checks
    header_failed (header_cut n) = failed _ _ _ _ (le_denied _ _ n)
    header_failed (other_cookie a n) = simp (le-leb _ _ a, ne_eqb _ _ n)
    header_failed (too_many a b n) = simp (le-leb _ _ a, eq-eqb _ _ b, le_denied _ _ n)
    header_failed (entries_cut a b c n) = simp (le-leb _ _ a, eq-eqb _ _ b, le-leb _ _ c, le_denied _ _ n)
    header_failed (other_sum a b c d n) = simp (le-leb _ _ a, eq-eqb _ _ b, le-leb _ _ c, le-leb _ _ d, ne_eqb _ _ n)
    header_failed (word_set a b c d e n) = simp (le-leb _ _ a, eq-eqb _ _ b, le-leb _ _ c, le-leb _ _ d, eq-eqb _ _ e, ne_eqb _ _ n)

    checks_all : {n : ℕ} {c : Carried} → CheckFault kind limit level s o n c → directory_checks kind limit level s o ≡ refused n c
    checks_all (in_its_header f) = header_failed f
    checks_all (in_its_entry i head l before f) =
        header_passed head ∙ entries_to i (omega arith) before ∙ scan_stop (entry_step kind level s o) (λ _. last) (total_at s o) i _ l (λ rest. step_failed i rest f)

module _ (kind : Kind) (limit level : ℕ) (s : List ℕ) (o n : ℕ) (c : Carried) (there : (level ≡ 1) ⊎ (level ≡ 2)) where
  pub directory_only : directory_at kind limit level s o ≡ refused n c → CheckFault kind limit level s o n c
  directory_only e = checks_only kind level s o limit (sym (there_passed kind limit level s o there) ∙ e)

  pub directory_all : CheckFault kind limit level s o n c → directory_at kind limit level s o ≡ refused n c
  directory_all f = there_passed kind limit level s o there ∙ checks_all kind level s o limit f

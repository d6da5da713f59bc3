-- The first match, the entry at a position, and the least total. Assumes nothing.
use mathlib.Core.Path.{◌≡◌, refl, sym, ap, ◌∙◌}
use mathlib.Core.List.{List}
use mathlib.Core.Bool.{true, and-eq-true_iff}
use Prim.Native.Nat.{ℕ, ◌-◌, ◌<◌, ◌≤◌}
use native.Mathlib.Omega.{arith}
use borrow.Author.Tests.{eqb-true, eq-eqb, le-leb, lt-leb, le-ltb, lt-ltb}
use lib.ListN.{length, get_or}
use lib.Dec.{eqb}
use Rattle.reply.specs.Reply.{Reply, Carried, given, refused, alone, tested}
use Rattle.reply.proofs.ReplyLaws.{clash, passed, failed}
use Rattle.reply.specs.Scan.{Lowest, None}
use Rattle.reply.proofs.Lowest.{Searched, lowest, none, Decided, lowest_found, none_found, searched}
use Rattle.guids.specs.declared.Guid.{Guid}
use Rattle.guids.specs.declared.GuidEntry.{GuidEntry}
use Rattle.guids.specs.declared.GuidMatch.{GuidMatch}
use Rattle.guids.specs.Table.{guid_at, same_guid, footer, footer_at, total_at, header_of, table_of, no_entry, match_at, nowhere, find_in}
use Rattle.guids.specs.Found.{Has, FirstMatchFound, EntryGiven, LeastTotal}
use Rattle.guids.proofs.Walk.{walk_end}

-- two GUIDs are the same exactly where the test says so
pub same_true : (g h : Guid) → same_guid g h ≡ true → g ≡ h
same_true g h e =
    let both = (and-eq-true_iff (eqb g.low h.low) _).0 e in
    let low = eqb-true _ _ both.0 in
    let high = eqb-true _ _ both.1 in
    λ j. record { low = low j; high = high j }

pub true_same : (g h : Guid) → g ≡ h → same_guid g h ≡ true
true_same g h e = simp (eq-eqb _ _ (ap (λ (x : Guid). x.low) e), eq-eqb _ _ (ap (λ (x : Guid). x.high) e))

-- the search in a list of entries comes to the lowest match, or there is none
module _ (g : Guid) (entries : List GuidEntry) where
  abbrev by_test : Decided (Has g entries)
  by_test = record { test = λ i. same_guid (get_or entries i no_entry).guid g; says = λ i. true_same _ _; holds = λ i. same_true _ _ }

  abbrev matched_at : ℕ → Reply GuidMatch
  matched_at i = given (match_at entries i)

  in_found : (i : ℕ) → Lowest (Has g entries) (length entries) i → find_in g entries ≡ matched_at i
  in_found = lowest_found (Has g entries) by_test matched_at nowhere (length entries)

  in_absent : None (Has g entries) (length entries) → find_in g entries ≡ refused 8 (tested (length entries))
  in_absent = none_found (Has g entries) by_test matched_at nowhere (length entries)

  abbrev Search : Type 0
  Search = Searched (Has g entries) matched_at nowhere (length entries) (find_in g entries)

  search : Search
  search = searched (Has g entries) by_test matched_at nowhere (length entries)

  in_found_only : (m : GuidMatch) → find_in g entries ≡ given m → (i : ℕ) × Lowest (Has g entries) (length entries) i × (m ≡ match_at entries i)
  in_found_only m e = by search
    where
      by : Search → (i : ℕ) × Lowest (Has g entries) (length entries) i × (m ≡ match_at entries i)
      by (lowest i f q) = (i, f, cc)
      by (none n q) = clash (sym q ∙ e)

  in_absent_only : (w : ℕ) (c : Carried) → find_in g entries ≡ refused w c → None (Has g entries) (length entries) × (w ≡ 8) × (c ≡ tested (length entries))
  in_absent_only w c e = by search
    where
      by : Search → None (Has g entries) (length entries) × (w ≡ 8) × (c ≡ tested (length entries))
      by (lowest i f q) = clash (sym e ∙ q)
      by (none n q) = (n, cc, cc)

pub first_match : FirstMatchFound
first_match = record {
  found = λ s entries g i e m. rw e (in_found g entries i m);
  absent = λ s entries g e m. rw e (in_absent g entries m);
  found_only = λ s entries g m e f. in_found_only g entries m (rw e at f);
  absent_only = λ s entries g w c e f. in_absent_only g entries w c (rw e at f);
  checked = λ s g w c e. rw e;
}

pub entry_given : EntryGiven
entry_given = record {
  inside = λ s entries i e h. rw e (passed _ _ _ _ (lt-ltb i (length entries) h));
  behind = λ s entries i e h. rw e (failed _ _ _ _ (le-ltb i (length entries) h));
  checked = λ s i w c e. rw e;
}

module _ (s : List ℕ) (long : 50 ≤ length s) (foot : guid_at s (footer_at s) ≡ footer) where
  total_18 : total_at s ≡ 18 → table_of s ≡ given (record { total = 18; entries = 0 })
  unfolding header_of
  total_18 e =
      let h : header_of s ≡ given 18 = simp (le-leb 50 (length s) long, true_same _ _ foot, e, le-leb 18 (length s - 32) (omega arith)) in
      rw (h, walk_end s (footer_at s) (18 - 18) refl, e)

  total_below : total_at s < 18 → table_of s ≡ refused 3 alone
  unfolding header_of
  total_below l =
      let h : header_of s ≡ refused 3 alone = simp (le-leb 50 (length s) long, true_same _ _ foot, lt-leb 18 (total_at s) l) in
      rw h

pub least_total : LeastTotal
least_total = record { none = total_18; fewer = total_below }

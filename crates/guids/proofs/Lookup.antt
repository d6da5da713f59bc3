-- The lookup in the part of an image that a table's entries are, one step of the walk at a time. Assumes nothing.
use mathlib.Core.Path.{◌≡◌, refl, sym, ap, ◌∙◌}
use mathlib.Core.List.{List}
use mathlib.Core.Bool.{true, false}
use Prim.Native.Nat.{ℕ, ◌+◌, ◌-◌, ◌<◌, ◌≤◌}
use native.Mathlib.Omega.{arith}
use lib.ListN.{length, take, drop}
use Rattle.std.specs.Prelude.{Err}
use Rattle.reply.specs.Reply.{Reply, given, then, told_search_alone}
use Rattle.reply.specs.declared.Refusal.{Refusal}
use Rattle.reply.specs.declared.Missed.{Missed}
use Rattle.reply.specs.declared.Missed.TheVariants as missed
use Rattle.guids.specs.declared.Guid.{Guid}
use Rattle.guids.specs.declared.GuidEntry.{GuidEntry}
use Rattle.guids.specs.declared.GuidMatch.{GuidMatch}
use Rattle.guids.specs.Table.{guid_at, same_guid, length_before, entry_before, entries_before, entries_under, entries_part, find_in}
use Rattle.guids.proofs.Walk.{Header, length_facts, seen_all, seen_refused, seen_one, given_too, refused_too, find_from, find_start, find_end, find_here, find_behind}
use Rattle.guids.proofs.Part.{guid_part, length_part, count_part, front_lies, part_under}

-- before any entry is tested
pub find_begin : (s part : List ℕ) (total o : ℕ) (g : Guid) → Header s total → part ≡ entries_part s total → o ≡ length s - 32 - total →
    then (entries_before s (o + length part) (length part)) (find_from g 0) ≡ then (entries_under s total) (find_in g)
find_begin s part total o g header is at = find_start g _ ∙ ap (λ (r : Reply (List GuidEntry)). then r (find_in g)) (part_under s total o part header is at)

-- once all are
pub find_none : (s : List ℕ) (o e before : ℕ) (g : Guid) (r : Reply GuidMatch) → then (entries_before s (o + e) e) (find_from g before) ≡ r → e ≡ 0 → told_search_alone (Err (missed.Absent before)) ≡ r
find_none s o e before g r inv none = find_end g before ∙ seen_all s (o + e) e (find_from g before) r inv none

module _ (s part : List ℕ) (o : ℕ) (lies : part ≡ take (length part) (drop o s)) (g : Guid) (e before : ℕ) (r : Reply GuidMatch) (within : e ≤ length part) (some : 0 < e)
    (inv : then (entries_before s (o + e) e) (find_from g before) ≡ r) where
  -- a length that is refused
  pub find_stop : (m : Missed Refusal) → told_search_alone {A = ℕ} (Err m) ≡ length_before part e e → told_search_alone (Err m) ≡ r
  find_stop (missed.Absent n) h = seen_refused s (o + e) e (find_from g before) r inv some _ _ (sym (h ∙ length_part s part o lies e e (omega arith) within))
  find_stop (missed.Refused x) h = seen_refused s (o + e) e (find_from g before) r inv some _ _ (sym (h ∙ length_part s part o lies e e (omega arith) within))

  module _ (n : ℕ) (here : length_before part e e ≡ given n) where
    there : length_before s (o + e) e ≡ given n
    there = sym (length_part s part o lies e e (omega arith) within) ∙ here

    same : same_guid (guid_at part (e - 18)) g ≡ same_guid (entry_before s (o + e) n).guid g
    same = let f = length_facts part e e n here in ap (λ (x : Guid). same_guid x g) (guid_part s part o lies e (omega arith) within)

    -- an entry of another GUID
    pub find_pass : same_guid (guid_at part (e - 18)) g ≡ false → then (entries_before s (o + (e - n)) (e - n)) (find_from g (before + 1)) ≡ r
    find_pass other =
        let f = length_facts part e e n here in
        let place : o + (e - n) ≡ o + e - n = omega arith in
        ap (λ (k : ℕ). then (entries_before s k (e - n)) (find_from g (before + 1))) place
        ∙ seen_one s (o + e) e (find_from g before) r inv some n there (find_from g (before + 1)) (λ es. find_behind g before (entry_before s (o + e) n) es (sym same ∙ other))

    -- an entry of this one: the match, where those behind it are good
    abbrev found : GuidMatch
    found = record { place = o + e - n; length = n - 18; tested = before + 1 }

    hit : same_guid (guid_at part (e - 18)) g ≡ true → then (entries_before s (o + (e - n)) (e - n)) (λ es. given found) ≡ r
    hit this =
        let f = length_facts part e e n here in
        let place : o + (e - n) ≡ o + e - n = omega arith in
        ap (λ (k : ℕ). then (entries_before s k (e - n)) (λ es. given found)) place
        ∙ seen_one s (o + e) e (find_from g before) r inv some n there (λ es. given found) (λ es. find_here g before (entry_before s (o + e) n) es (sym same ∙ this))

    abbrev front : List ℕ
    front = take (e - n) part

    counts : then (entries_before front (length front) (length front)) (λ es. given (length es)) ≡ then (entries_before s (o + (e - n)) (e - n)) (λ es. given (length es))
    counts =
        let f = front_lies s part o lies (e - n) (omega arith) in
        count_part s front o f.1 (length front) (omega arith)
        ∙ ap (λ (k : ℕ). then (entries_before s (o + k) k) (λ es. given (length es))) f.0

    pub find_hit : same_guid (guid_at part (e - 18)) g ≡ true → (k : ℕ) → given k ≡ then (entries_before front (length front) (length front)) (λ es. given (length es)) → given found ≡ r
    find_hit this k good = given_too (entries_before s (o + (e - n)) (e - n)) length (λ es. given found) k found (sym (good ∙ counts)) (λ es q. refl) ∙ hit this

    pub find_bad : same_guid (guid_at part (e - 18)) g ≡ true → (m : Missed Refusal) → told_search_alone {A = ℕ} (Err m) ≡ then (entries_before front (length front) (length front)) (λ es. given (length es)) →
        told_search_alone (Err m) ≡ r
    find_bad this (missed.Absent k) bad = refused_too (entries_before s (o + (e - n)) (e - n)) length (λ es. given found) _ _ (sym (bad ∙ counts)) ∙ hit this
    find_bad this (missed.Refused x) bad = refused_too (entries_before s (o + (e - n)) (e - n)) length (λ es. given found) _ _ (sym (bad ∙ counts)) ∙ hit this

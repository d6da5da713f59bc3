-- The part of an entry is given exactly where it is good. Assumes nothing.
use mathlib.Core.Path.{◌≡◌, refl, ap, ◌∙◌}
use mathlib.Core.List.{List}
use mathlib.Core.Bool.{not}
use Prim.Native.Nat.{ℕ, ◌+◌, ◌<◌, ◌≤◌}
use native.Mathlib.Omega.{arith}
use borrow.Author.Tests.{leb-true, eqb-true, eqb-false, not-true, le-leb, ne_eqb}
use lib.ListN.{length}
use lib.Dec.{leb, eqb}
use Rattle.reply.specs.Reply.{Reply, given, in_entry, then, met}
use Rattle.reply.proofs.ReplyLaws.{past, passed, then_given, either, met_given}
use Rattle.window.specs.Window.{four_gib, offset_in}
use Rattle.window.proofs.Inside.{offset_shown, shown_offset}
use Rattle.window.specs.declared.Offset.{Offset}
use Rattle.directory.specs.Directory.{entry_place}
use Rattle.entries.specs.Entry.{fields_at, entry_of, entry_in}
use Rattle.entries.specs.Part.{place_in, leads_to, part_within, part_of, part_in}
use Rattle.entries.specs.Good.{BeginsAt, physical, flash, counted, GoodPart, PartsAccepted}
use Rattle.entries.proofs.Accept.{only_entry, all_entry}
use Rattle.entries.proofs.Parts.{within_fact}
use Rattle.directory.specs.declared.Kind.{Kind}
use Rattle.directory.specs.declared.Directory.{Directory}
use Rattle.entries.specs.declared.Entry.{Entry}
use Rattle.entries.specs.declared.Part.{Part}

-- an offset that lies within the image is given
within_given : (s : List ℕ) (x : ℕ) (p : Offset) → x ≡ p.0 → p.0 ≤ length s → place_in s x ≡ given p
within_given s x p q h = passed _ _ _ _ (le-leb x (length s) (omega arith)) ∙ ap (λ (n : ℕ). given (record { 0 = n })) q

module _ (window : ℕ) (fits : window ≤ four_gib) (s : List ℕ) (o : ℕ) (e : Entry) (p : Offset) where
  pub lead_fact : e.mode ≤ 3 → leads_to window s o e ≡ given p → BeginsAt window o e p.0 × (p.0 ≤ length s)
  unfolding leads_to
  lead_fact m h =
      let g = past (not (eqb e.mode 3)) _ _ _ h in
      let three : e.mode ≡ 3 → ⊥ = eqb-false e.mode 3 (not-true _ g.0) in
      either (eqb e.mode 0) _ _ g.1
      (λ b x.
      let t = then_given (offset_in window e.location) (λ a. place_in s a.0) x in
      let w = within_fact s t.0.0 p t.2 in
      (physical (eqb-true _ _ b) (rw (← w.0) (offset_shown window fits e.location t.0 t.1)), w.1))
      (λ b y. let zero : e.mode ≡ 0 → ⊥ = eqb-false _ _ b in
      either (eqb e.mode 1) _ _ y
      (λ d x. let w = within_fact s e.location p x in (flash (eqb-true _ _ d) w.0, w.1))
      (λ d x. let one : e.mode ≡ 1 → ⊥ = eqb-false _ _ d in let w = within_fact s (o + e.location) p x in (counted (omega arith) w.0, w.1)))

  pub lead_given : BeginsAt window o e p.0 → p.0 ≤ length s → leads_to window s o e ≡ given p
  unfolding leads_to
  lead_given (physical m shown) b = simp (m, shown_offset window fits e.location p shown) (within_given s p.0 p refl b)
  lead_given (flash m l) b = simp m (within_given s _ p l b)
  lead_given (counted m l) b = simp m (within_given s _ p l b)

-- an entry that was read has a mode of two bits
pub two_bits : (s : List ℕ) (e : ℕ) → (fields_at s e).mode ≤ 3
two_bits s e = omega arith

module _ (kind : Kind) (window : ℕ) (fits : window ≤ four_gib) (s : List ℕ) where
  part_fact : (o : ℕ) (e : Entry) (p : Part) → e.mode ≤ 3 → part_of kind window s o e ≡ given p → GoodPart kind window s o e p
  unfolding part_of part_within
  part_fact o e p m h =
      let g = past (not (eqb e.class kind.value)) _ _ _ h in
      let t = then_given (leads_to window s o e) (part_within s e.size) g.1 in
      let r = past (leb (t.0.0 + e.size) (length s)) _ _ _ t.2 in
      let b : t.0.0 + e.size ≤ length s = leb-true _ _ r.0 in
      let x : t.0.0 ≡ p.place.0 = cc r.1 in
      let y : e.size ≡ p.length = cc r.1 in
      record {
        no_value = eqb-false _ _ (not-true _ g.0);
        begins = rw (← x) (lead_fact window fits s o e t.0 m t.1).0;
        size = y;
        inside = omega arith;
      }

  part_given : (o : ℕ) (e : Entry) (p : Part) → GoodPart kind window s o e p → part_of kind window s o e ≡ given p
  unfolding part_of part_within
  part_given o e p g =
      let y = g.size in
      let b = g.inside in
      simp (ne_eqb _ _ g.no_value, lead_given window fits s o e p.place g.begins (omega arith), le-leb (p.place.0 + e.size) (length s) (omega arith))
      (ap (λ (l : ℕ). given (record { place = p.place; length = l })) y)

  only_part : (d : Directory) (i : ℕ) (p : Part) → part_in kind window s d i ≡ given p → (i < d.total) × GoodPart kind window s d.place.0 (entry_of kind s d i) p
  only_part d i p h =
      let t = then_given (entry_in kind s d i) _ h in
      let g = only_entry kind s d i t.0 t.1 in
      (g.0, part_fact d.place.0 (entry_of kind s d i) p (two_bits s (entry_place kind d.place.0 i)) (ap (part_of kind window s d.place.0) g.1 ∙ met_given _ (part_of kind window s d.place.0 t.0) t.2))

  all_part : (d : Directory) (i : ℕ) (p : Part) → i < d.total → GoodPart kind window s d.place.0 (entry_of kind s d i) p → part_in kind window s d i ≡ given p
  all_part d i p h g =
      ap (λ (r : Reply Entry). then r (λ e. met (in_entry d.level i d.place.0) (part_of kind window s d.place.0 e))) (all_entry kind s d i h)
      ∙ ap (met (in_entry d.level i d.place.0)) (part_given d.place.0 (entry_of kind s d i) p g)

pub parts_accepted : PartsAccepted
parts_accepted kind window s d i p fits = record { only = only_part kind window fits s d i p; all = all_part kind window fits s d i p }

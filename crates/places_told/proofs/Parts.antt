-- The bytes of an entry are refused exactly by what is wrong in its location, and so is what it leads to. Assumes nothing.
use mathlib.Core.Path.{◌≡◌, refl, sym, ap, subst, ◌∙◌}
use mathlib.Core.Logic.{inr}
use mathlib.Core.List.{List, []}
use mathlib.Core.Bool.{not}
use Prim.Native.Nat.{ℕ, ◌+◌, ◌<◌, ◌≤◌}
use native.Mathlib.Omega.{arith}
use borrow.Author.Tests.{eqb-true, eqb-false, not-true, not-false, eq-eqb, ne_eqb}
use lib.ListN.{length}
use lib.Dec.{leb, eqb}
use Rattle.reply.specs.Reply.{Reply, Carried, given, refused, alone, in_entry, then, met}
use Rattle.reply.proofs.ReplyLaws.{clash}
use Rattle.window.specs.Window.{four_gib}
use Rattle.window.specs.declared.Offset.{Offset}
use Rattle.directory.specs.Directory.{directory_at, entry_place}
use Rattle.directory.specs.declared.Kind.{Kind}
use Rattle.directory.specs.declared.Directory.{Directory}
use Rattle.entries.specs.Entry.{entry_of, entry_in}
use Rattle.entries.specs.Part.{leads_to, part_within, part_of, part_in}
use Rattle.entries.specs.Good.{BeginsAt}
use Rattle.entries.specs.declared.Entry.{Entry}
use Rattle.entries.proofs.Accept.{entry_acceptance}
use Rattle.entries.proofs.Parts as parts
use Rattle.entries.proofs.PartAccept.{two_bits, lead_fact, lead_given}
use Rattle.efs.specs.declared.Rules.{Rules}
use Rattle.walk_places.specs.Places.{led_to}
use Rattle.walk_places.specs.Leads.{WhyFault, no_mode, outside, bad_directory}
use Rattle.walk_places.proofs.Leads.{leads_told}
use Rattle.places_told.specs.Where.{LeadFault, lead_mode, leads_outside, PartFault, value, part_mode, part_outside}
use Rattle.places_told.specs.Told.{LedFault, in_lead, in_two}
use Rattle.places_told.proofs.Refused.{stopped, then_stopped, met_stopped, denied_le, le_denied}
use Rattle.places_told.proofs.Alone.{entry_alone}
use Rattle.places_told.proofs.Checks.{directory_only, directory_all}

abbrev pub here : Directory → (i : ℕ) → Carried
here d i = in_entry d.level i d.place.0

-- what entry i of a directory leads to is refused exactly by its location, or by the directory there
module _ (r : Rules) (fits : r.window ≤ four_gib) (s : List ℕ) (d : Directory) (i n : ℕ) where
  pub led_only : (c : Carried) → led_to r s d i ≡ refused n c → LedFault r s d i n c
  led_only c e = by ((leads_told r s d i fits).refused_only n c e)
    where
      mine : {m : ℕ} → m ≡ n → here d i ≡ c → LeadFault r.kind r.window s d i m → LedFault r s d i n c
      mine k w f = subst (LedFault r s d i n) w (in_lead (subst (LeadFault r.kind r.window s d i) k f))

      by : WhyFault r s d i n c → LedFault r s d i n c
      by (no_mode m k w) = mine (sym k) (sym w) (lead_mode m)
      by (outside m b k w) = mine (sym k) (sym w) (leads_outside m (λ place q h. let l = b place q in omega arith))
      by (bad_directory place b h q) = in_two place b h (directory_only r.kind r.limit 2 s place n c (inr refl) q)

  pub led_all : (c : Carried) → LedFault r s d i n c → led_to r s d i ≡ refused n c
  led_all c f = (leads_told r s d i fits).refused_all n c (by f)
    where
      why : {m : ℕ} → LeadFault r.kind r.window s d i m → WhyFault r s d i m (here d i)
      why (lead_mode m) = no_mode m refl refl
      why (leads_outside m b) = outside m (λ place q. let l = b place q in omega arith) refl refl

      by : {c : Carried} → LedFault r s d i n c → WhyFault r s d i n c
      by (in_lead f) = why f
      by {c = c} (in_two place b h f) = bad_directory place b h (directory_all r.kind r.limit 2 s place n c (inr refl) f)

module _ (kind : Kind) (window : ℕ) (fits : window ≤ four_gib) (s : List ℕ) (d : Directory) (i : ℕ) where
  abbrev o : ℕ
  o = d.place.0

  abbrev e : Entry
  e = entry_of kind s d i

  -- where a location leads is refused
  lead_only : (n : ℕ) (w : Carried) → leads_to window s o e ≡ refused n w → LeadFault kind window s d i n
  lead_only n w q = by (led_only rules fits s d i n (here d i) (ap (λ (x : Reply Offset). then (met (here d i) x) (λ p. directory_at kind 0 2 s p.0)) q))
    where
      rules : Rules
      rules = record { kind = kind; limit = 0; window = window; candidates = [] }

      by : {c : Carried} → LedFault rules s d i n c → LeadFault kind window s d i n
      by (in_lead f) = f
      by (in_two place b h x) = clash (sym q ∙ lead_given window fits s o e (record { 0 = place }) b h)

  -- it begins at one place
  one_place : (p : Offset) (place : ℕ) → leads_to window s o e ≡ given p → BeginsAt window o e place → place ≤ length s → p.0 ≡ place
  one_place p place q b h = let x = sym q ∙ lead_given window fits s o e (record { 0 = place }) b h in cc x

  no_three : (p : Offset) → leads_to window s o e ≡ given p → e.mode ≡ 3 → ⊥
  no_three p q m = clash (parts.lead_mode window s o e m ∙ q)

  pub lead_part : {n : ℕ} → (e.class ≡ kind.value → ⊥) → LeadFault kind window s d i n → PartFault kind window s d i n
  lead_part v (lead_mode m) = part_mode v m
  lead_part v (leads_outside m f) = part_outside v m (λ place b h. f place b (omega arith))

  of_only : (n : ℕ) (w : Carried) → part_of kind window s o e ≡ refused n w → PartFault kind window s d i n
  unfolding part_of part_within
  of_only n w q =
      stopped (not (eqb e.class kind.value)) 17 _ _ q (λ b m k. subst (PartFault kind window s d i) m (value (eqb-true _ _ (not-false _ b))))
      (λ b q. let v = eqb-false _ _ (not-true _ b) in
      then_stopped (leads_to window s o e) (part_within s e.size) q (λ q. lead_part v (lead_only n w q))
      (λ p g q. stopped (leb (p.0 + e.size) (length s)) 7 _ _ q
      (λ x m k. subst (PartFault kind window s d i) m (part_outside v (no_three p g) (λ place b h. let y = one_place p place g b (omega arith) in denied_le (p.0 + e.size) (length s) x (omega arith))))
      (λ x q. clash (sym q))))

  of_all : {n : ℕ} → PartFault kind window s d i n → (w : Carried) × (part_of kind window s o e ≡ refused n w)
  unfolding part_of part_within
  of_all (value v) = (alone, simp (eq-eqb _ _ v))
  of_all (part_mode v m) = (alone, simp (ne_eqb _ _ v, sym (parts.lead_mode window s o e m)))
  of_all (part_outside v m f) = by (leads_to window s o e) refl
    where
      seven : {n : ℕ} → LeadFault kind window s d i n → n ≡ 7
      seven (lead_mode x) = absurd (m x)
      seven (leads_outside x y) = refl

      by : (x : Reply Offset) → leads_to window s o e ≡ x → (w : Carried) × (part_of kind window s o e ≡ refused 7 w)
      by (given p) q =
          let b = lead_fact window fits s o e p (two_bits s (entry_place kind o i)) q in
          (alone, simp (ne_eqb _ _ v, q, le_denied (p.0 + e.size) (length s) (f p.0 b.0)))
      by (refused n w) q = (w, simp (ne_eqb _ _ v, q) (ap (λ (n : ℕ). refused n w) (seven (lead_only n w q))))

  module _ (inside : i < d.total) where
    part_is : part_in kind window s d i ≡ met (here d i) (part_of kind window s o e)
    part_is = ap (λ (r : Reply Entry). then r (λ e. met (here d i) (part_of kind window s o e))) (entry_acceptance.all kind s d i inside)

    pub part_only : (n : ℕ) (c : Carried) → part_in kind window s d i ≡ refused n c → PartFault kind window s d i n × (c ≡ here d i)
    part_only n c q = met_stopped (here d i) (part_of kind window s o e) (sym part_is ∙ q) (λ w q k. (of_only n w q, sym k))

    pub part_all : (n : ℕ) → PartFault kind window s d i n → part_in kind window s d i ≡ refused n (here d i)
    part_all n f = let w = of_all f in part_is ∙ ap (met (here d i)) w.1

  -- a part that is refused: no such entry, or its location
  pub part_stopped : {C : Type 0} (n : ℕ) (c : Carried) → part_in kind window s d i ≡ refused n c → (c ≡ alone → C) → (i < d.total → PartFault kind window s d i n → here d i ≡ c → C) → C
  part_stopped n c q f g =
      then_stopped (entry_in kind s d i) _ q (λ x. f (entry_alone kind s d i n c x))
      (λ x y z. let inside = (entry_acceptance.only kind s d i x y).0 in let w = part_only inside n c q in g inside w.0 (sym w.1))

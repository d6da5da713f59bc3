-- Where a lead leads, told by the bytes. Assumes nothing.
use mathlib.Core.Path.{◌≡◌, refl, sym, ap, ap₂, subst, ◌∙◌}
use mathlib.Core.List.{List}
use mathlib.Core.Bool.{Bool, true, false, cond}
use Prim.Native.Nat.{ℕ, ◌+◌, ◌<◌, ◌≤◌}
use native.Mathlib.Omega.{arith}
use borrow.Author.Tests.{eqb-true, eqb-false, ne_eqb}
use lib.ListN.{length}
use lib.Dec.{leb, eqb}
use Rattle.reply.specs.Reply.{Reply, Carried, given, refused, alone, in_entry, guard, then, met}
use Rattle.reply.proofs.ReplyLaws.{clash, then_given, then_same, met_given}
use Rattle.window.specs.Window.{four_gib, window_start, offset_in}
use Rattle.directory.specs.declared.Directory.{Directory}
use Rattle.directory.specs.Directory.{directory_at}
use Rattle.directory.specs.Good.{GoodDirectory}
use Rattle.directory.proofs.Accept.{acceptance}
use Rattle.entries.specs.declared.Entry.{Entry}
use Rattle.entries.specs.Entry.{entry_of}
use Rattle.window.specs.declared.Offset.{Offset}
use Rattle.entries.specs.Part.{place_in, leads_to}
use Rattle.entries.specs.Good.{BeginsAt}
use Rattle.entries.proofs.Parts.{lead_mode}
use Rattle.entries.proofs.Independent.{leads_same}
use Rattle.entries.proofs.PartAccept.{two_bits, lead_fact, lead_given}
use Rattle.efs.specs.declared.Rules.{Rules}
use Rattle.flash.specs.Flash.{level_two_at}
use Rattle.walk_places.specs.Places.{led_to}
use Rattle.walk_places.specs.Leads.{WhyFault, no_mode, outside, bad_directory, LeadsTold}
use Rattle.walk_places.proofs.Order.{Compared, less, equal, more, compared}

-- ---- if refused, then with 7
Seven : {A : Type 0} → Reply A → Type 0
Seven x = (number : ℕ) (carried : Carried) → x ≡ refused number carried → number ≡ 7

given_seven : {A : Type 0} (a : A) → Seven (given a)
unfolding Seven
given_seven a number carried e = clash (sym e)

guard_seven : {A : Type 0} (b : Bool) (rest : Reply A) → Seven rest → Seven (guard b 7 rest)
unfolding Seven
guard_seven true rest h = h
guard_seven false rest h = λ number carried e. cc

cond_seven : {A : Type 0} (b : Bool) (x y : Reply A) → Seven x → Seven y → Seven (cond b x y)
cond_seven true x y f g = f
cond_seven false x y f g = g

then_seven : {A B : Type 0} (x : Reply A) (next : A → Reply B) → Seven x → ((a : A) → Seven (next a)) → Seven (then x next)
unfolding Seven
then_seven (given a) next f g = g a
then_seven (refused n c) next f g = λ number carried e. let q : n ≡ 7 = f n c refl in cc

-- without mode 3 a place is refused with 7
lead_seven : (window : ℕ) (s : List ℕ) (o : ℕ) (e : Entry) → (e.mode ≡ 3 → ⊥) → Seven (leads_to window s o e)
unfolding leads_to offset_in
lead_seven window s o e three =
    rw (ne_eqb _ _ three)
    (cond_seven (eqb e.mode 0) _ _
    (then_seven (offset_in window e.location) (λ a. place_in s a.0)
    (guard_seven (leb (window_start window) e.location) _ (guard_seven (leb e.location 0xFFFF_FFFF) _ (given_seven _)))
    (λ a. within a.0))
    (cond_seven (eqb e.mode 1) _ _ (within e.location) (within (o + e.location))))
  where
    within : (x : ℕ) → Seven (place_in s x)
    within x = guard_seven (leb x (length s)) _ (given_seven _)

-- ---- where entry i of a directory leads, and the checks of the directory there
-- its place, and what a refusal of it carries
abbrev leads : Rules → (image : List ℕ) → Directory → (i : ℕ) → Reply Offset
leads r image d i = leads_to r.window image d.place.0 (entry_of r.kind image d i)

abbrev here : Directory → (i : ℕ) → Carried
here d i = in_entry d.level i d.place.0

abbrev Begins : Rules → (image : List ℕ) → Directory → (i place : ℕ) → Type 0
Begins r image d i = BeginsAt r.window d.place.0 (entry_of r.kind image d i)

module _ (r : Rules) (s : List ℕ) (d : Directory) (i : ℕ) where
  -- a directory is given at some place
  somewhere : (n : Directory) → led_to r s d i ≡ given n → (place : Offset) × (leads r s d i ≡ given place) × (directory_at r.kind r.limit 2 s place.0 ≡ given n)
  somewhere n q = let t = then_given (met (here d i) (leads r s d i)) (λ p. directory_at r.kind r.limit 2 s p.0) q in (t.0, met_given (here d i) (leads r s d i) t.1, t.2)

  led : (x : Reply Offset) → leads r s d i ≡ x → led_to r s d i ≡ then (met (here d i) x) (λ p. directory_at r.kind r.limit 2 s p.0)
  led x q = ap (λ (x : Reply Offset). then (met (here d i) x) (λ p. directory_at r.kind r.limit 2 s p.0)) q

  -- mode 3
  by_mode : (entry_of r.kind s d i).mode ≡ 3 → led_to r s d i ≡ refused 16 (here d i)
  by_mode m = led (refused 16 alone) (sym (lead_mode r.window s d.place.0 (entry_of r.kind s d i) m))

  module _ (fits : r.window ≤ four_gib) where
    lead_at : (place : ℕ) → Begins r s d i place → place ≤ length s → leads r s d i ≡ given (record { 0 = place })
    lead_at place = lead_given r.window fits s d.place.0 (entry_of r.kind s d i) (record { 0 = place })

    place_of : (place : Offset) → leads r s d i ≡ given place → Begins r s d i place.0 × (place.0 ≤ length s)
    place_of place = lead_fact r.window fits s d.place.0 (entry_of r.kind s d i) place (two_bits s _)

    -- at a place in the image the directory's checks decide
    by_directory : (place : ℕ) → Begins r s d i place → place ≤ length s → led_to r s d i ≡ directory_at r.kind r.limit 2 s place
    by_directory place b h = led (given (record { 0 = place })) (lead_at place b h)

    -- how what an entry leads to is refused
    refused_for : (number : ℕ) (carried : Carried) → led_to r s d i ≡ refused number carried → WhyFault r s d i number carried
    unfolding Seven
    refused_for number carried q = by (leads r s d i) refl (eqb (entry_of r.kind s d i).mode 3) refl
      where
        beyond : (n : ℕ) (c : Carried) → leads r s d i ≡ refused n c → (place : ℕ) → Begins r s d i place → Compared (length s) place → length s < place
        beyond n c p place b (less h) = h
        beyond n c p place b (equal h) = clash (sym p ∙ lead_at place b (omega arith))
        beyond n c p place b (more h) = clash (sym p ∙ lead_at place b (omega arith))

        by : (x : Reply Offset) → leads r s d i ≡ x → (b : Bool) → eqb (entry_of r.kind s d i).mode 3 ≡ b → WhyFault r s d i number carried
        by (given place) p b c = let f = place_of place p in bad_directory place.0 f.0 f.1 (sym (led (given place) p) ∙ q)
        by (refused n w) p true c = let f = sym (by_mode (eqb-true _ _ c)) ∙ q in no_mode (eqb-true _ _ c) (cc f) (cc f)
        by (refused n w) p false c =
            let three : (entry_of r.kind s d i).mode ≡ 3 → ⊥ = eqb-false _ _ c in
            let f : ◌≡◌ {A = Reply Directory} (refused n (here d i)) (refused number carried) = sym (led (refused n w) p) ∙ q in
            let v : n ≡ 7 = lead_seven r.window s d.place.0 (entry_of r.kind s d i) three n w p in
            let u : n ≡ number = cc f in
            outside three (λ place b. beyond n w p place b (compared (length s) place)) (omega arith) (cc f)

    outside_refused : ((entry_of r.kind s d i).mode ≡ 3 → ⊥) → ((place : ℕ) → Begins r s d i place → length s < place) → led_to r s d i ≡ refused 7 (here d i)
    unfolding Seven
    outside_refused three f = by (leads r s d i) refl
      where
        by : (x : Reply Offset) → leads r s d i ≡ x → led_to r s d i ≡ refused 7 (here d i)
        by (given place) p =
            let g = place_of place p in
            let h : place.0 ≤ length s = g.1 in
            let k = f place.0 g.0 in
            absurd (let z : ⊥ = omega arith in z)
        by (refused n w) p = led (refused n w) p ∙ ap (λ (n : ℕ). refused n (here d i)) (lead_seven r.window s d.place.0 (entry_of r.kind s d i) three n w p)

    refused_by : (number : ℕ) (carried : Carried) → WhyFault r s d i number carried → led_to r s d i ≡ refused number carried
    refused_by number carried (no_mode h n c) = by_mode h ∙ sym (ap₂ (λ (n : ℕ) (c : Carried). refused n c) n c)
    refused_by number carried (outside three f n c) = outside_refused three f ∙ sym (ap₂ (λ (n : ℕ) (c : Carried). refused n c) n c)
    refused_by number carried (bad_directory place b h q) = by_directory place b h ∙ q

    given_at : (n : Directory) → led_to r s d i ≡ given n → Begins r s d i n.place.0 × GoodDirectory r.kind r.limit s n × (n.level ≡ 2)
    given_at n q =
        let t = somewhere n q in
        let g = acceptance.only r.kind r.limit 2 s t.0.0 n t.2 in
        (subst (Begins r s d i) (sym g.1) (place_of t.0 t.1).0, g.0, g.2)

    given_by : (n : Directory) → Begins r s d i n.place.0 → GoodDirectory r.kind r.limit s n → n.level ≡ 2 → led_to r s d i ≡ given n
    given_by n b g l =
        let p = g.present in
        by_directory n.place.0 b (omega arith) ∙ ap (λ (level : ℕ). directory_at r.kind r.limit level s n.place.0) (sym l) ∙ acceptance.all r.kind r.limit s n g

  pub level_two_lem : (n : Directory) → led_to r s d i ≡ given n → n.level ≡ 2
  level_two_lem n q = let t = somewhere n q in (acceptance.only r.kind r.limit 2 s t.0.0 n t.2).2

-- two images of one length lead to one place, and the directory there decides
pub two_same : (r : Rules) → r.window ≤ four_gib → (s t : List ℕ) → length s ≡ length t → (d : Directory) (i : ℕ) →
    ((place : ℕ) → Begins r s d i place → place ≤ length s → directory_at r.kind r.limit 2 s place ≡ directory_at r.kind r.limit 2 t place) →
    led_to r s d i ≡ level_two_at r t d i (entry_of r.kind s d i)
two_same r fits s t long d i f =
    then_same (met (here d i) (leads r s d i)) (λ p. directory_at r.kind r.limit 2 s p.0) (λ p. directory_at r.kind r.limit 2 t p.0)
    (λ place q. let g = place_of r s d i fits place (met_given (here d i) (leads r s d i) q) in f place.0 g.0 g.1)
    ∙ ap (λ (x : Reply Offset). then (met (here d i) x) (λ p. directory_at r.kind r.limit 2 t p.0)) (leads_same r.window s t long d.place.0 (entry_of r.kind s d i))

pub leads_told : LeadsTold
leads_told r s d i fits = record {
  given_only = given_at r s d i fits;
  given_all = given_by r s d i fits;
  refused_only = refused_for r s d i fits;
  refused_all = refused_by r s d i fits;
}

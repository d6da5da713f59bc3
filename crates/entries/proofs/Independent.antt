-- Two images that agree on a directory's bytes have the same replies of its entries. Assumes nothing.
use mathlib.Core.Path.{◌≡◌, ap, ◌∙◌}
use mathlib.Core.List.{List}
use Prim.Native.Nat.{ℕ, ◌<◌, ◌≤◌}
use native.Mathlib.Omega.{arith}
use borrow.Author.Tests.{ltb-true}
use lib.ListN.{length}
use lib.Dec.{ltb, eqb}
use mathlib.Core.Bool.{not, cond}
use Rattle.reply.specs.Reply.{Reply, given, refused, alone, in_entry, check, then, met}
use Rattle.reply.proofs.ReplyLaws.{check_same, then_same}
use Rattle.reply.proofs.ScanLaws.{scan_same}
use Rattle.directory.specs.Directory.{entry_place}
use Rattle.entries.specs.Entry.{fields_at, entry_of, entry_in, lead_step, lead_in, find_step, find_in, matches, found_at, nowhere}
use Rattle.entries.specs.Part.{place_in, leads_to, part_within, part_of, part_in}
use Rattle.directory.specs.Independent.{Agree, end_of}
use Rattle.entries.specs.Independent.{EntriesIndependence}
use Rattle.directory.specs.declared.Kind.{Kind}
use Rattle.directory.specs.declared.Directory.{Directory}
use Rattle.entries.specs.declared.Entry.{Entry}
use Rattle.entries.specs.declared.Part.{Part}
use Rattle.directory.proofs.Independent.{first, second, number}

module _ (kind : Kind) (s t : List ℕ) (o n : ℕ) (wide : 16 ≤ kind.entry) (agree : Agree s t o (entry_place kind o n)) where
  fields_same : (i : ℕ) → i < n → fields_at s (entry_place kind o i) ≡ fields_at t (entry_place kind o i)
  fields_same i h =
      rw (first kind s t o n wide agree i h, second kind s t o n wide agree i h, number kind s t o n wide agree i h 4 4 (omega arith), number kind s t o n wide agree i h 8 8 (omega arith))

-- of what a location leads to only the image's length matters
module _ (window : ℕ) (s t : List ℕ) (long : length s ≡ length t) where
  within_same : (x : ℕ) → place_in s x ≡ place_in t x
  within_same x = rw long

  pub leads_same : (o : ℕ) (e : Entry) → leads_to window s o e ≡ leads_to window t o e
  unfolding leads_to
  leads_same o e = simp within_same

part_of_same : (kind : Kind) (window : ℕ) (s t : List ℕ) → length s ≡ length t → (o : ℕ) (e : Entry) → part_of kind window s o e ≡ part_of kind window t o e
unfolding part_of part_within
part_of_same kind window s t long o e =
    rw (leads_same window s t long o e) (ap (λ (r : Reply Part). check (not (eqb e.class kind.value)) 17 alone r) (then_same (leads_to window t o e) (part_within s e.size) (part_within t e.size) (λ p q. rw long)))

module _ (kind : Kind) (s t : List ℕ) (d : Directory) (wide : 16 ≤ kind.entry) (agree : Agree s t d.place.0 (end_of kind d)) where
  entry_of_same : (i : ℕ) → i < d.total → entry_of kind s d i ≡ entry_of kind t d i
  entry_of_same = fields_same kind s t d.place.0 d.total wide agree

  pub entry_same : (i : ℕ) → entry_in kind s d i ≡ entry_in kind t d i
  entry_same i = check_same (ltb i d.total) _ _ _ _ (λ b. ap given (entry_of_same i (ltb-true _ _ b)))

  pub lead_same : lead_in kind s d ≡ lead_in kind t d
  lead_same = scan_same (lead_step kind s d) (lead_step kind t d) (λ _. refused 8 alone) d.total 0 (λ j a b rest. ap (λ (e : Entry). cond (eqb e.class kind.lead) (given (record { index = j; entry = e })) rest) (entry_of_same j (omega arith)))

  pub lookup_same : (class sub : ℕ) → find_in kind s d class sub ≡ find_in kind t d class sub
  lookup_same class sub = scan_same (find_step kind s d class sub) (find_step kind t d class sub) nowhere d.total 0 (λ j a b rest. ap (λ (e : Entry). cond (matches e class sub) (found_at j) rest) (entry_of_same j (omega arith)))

  pub part_in_same : (window i : ℕ) → part_in kind window s d i ≡ part_in kind window t d i
  part_in_same window i =
      then_same (entry_in kind s d i) (here s) (here t) (λ e q. ap (met (in_entry d.level i d.place.0)) (part_of_same kind window s t agree.long d.place.0 e))
      ∙ ap (λ (r : Reply Entry). then r (here t)) (entry_same i)
    where
      -- the step after the entry, in either image
      here : List ℕ → Entry → Reply Part
      here s e = met (in_entry d.level i d.place.0) (part_of kind window s d.place.0 e)

pub entries_independence : EntriesIndependence
entries_independence kind s t d wide agree = record {
  entry = entry_same kind s t d wide agree;
  lead = lead_same kind s t d wide agree;
  lookup = lookup_same kind s t d wide agree;
  part = part_in_same kind s t d wide agree;
}

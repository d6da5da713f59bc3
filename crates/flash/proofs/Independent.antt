-- Two images with the same way to a directory and the same bytes of it have the same replies of it. Assumes nothing.
use mathlib.Core.Path.{◌≡◌, refl, sym, ap, ◌∙◌}
use mathlib.Core.List.{List}
use Prim.Native.Nat.{ℕ, ◌≤◌}
use native.Mathlib.Omega.{arith}
use lib.ListN.{length}
use Rattle.reply.specs.Reply.{Reply, given, in_entry, then, met}
use Rattle.reply.proofs.ReplyLaws.{then_given, then_same}
use Rattle.window.specs.Window.{offset_in, within}
use Rattle.window.specs.declared.Offset.{Offset}
use Rattle.directory.specs.Directory.{directory_at, entry_place, total_at}
use Rattle.entries.specs.Entry.{entry_in, find_in}
use Rattle.entries.specs.Part.{part_in}
use Rattle.directory.specs.Independent.{Agree, end_of}
use Rattle.directory.specs.declared.Directory.{Directory}
use Rattle.entries.specs.declared.Lead.{Lead}
use Rattle.directory.proofs.Accept.{acceptance}
use Rattle.entries.proofs.Accept.{entry_acceptance}
use Rattle.directory.proofs.Independent.{independence}
use Rattle.entries.proofs.Independent.{leads_same, entries_independence}
use Rattle.efs.specs.Efs.{efs_place, efs_at, efs_in, pointer_to, pointer_of, pointer_in}
use Rattle.efs.specs.declared.Efs.{Efs}
use Rattle.efs.specs.declared.Pointer.{Pointer}
use Rattle.efs.specs.declared.Rules.{Rules}
use Rattle.flash.specs.Flash.{level_one, level_two_at, flash_directory, from_lookup, flash_find}
use Rattle.window.specs.Inside.{GoodLength}
use Rattle.flash.specs.Independent.{SameWay, FlashIndependence}
use Rattle.flash.proofs.Ways.{Opened, one, two, opened, open_one, open_two, led_given}

-- a directory that is given is given by every image that agrees on it
given_same : (r : Rules) (level : ℕ) (s t : List ℕ) (o : ℕ) (d : Directory) → 16 ≤ r.kind.entry → Agree s t d.place.0 (end_of r.kind d) →
    directory_at r.kind r.limit level s o ≡ given d → directory_at r.kind r.limit level t o ≡ given d
given_same r level s t o d wide agree e =
    let g = acceptance.only r.kind r.limit level s o d e in
    let place : d.place.0 ≡ o = g.1 in
    let total : total_at s o ≡ d.total = rw (← place) g.0.total in
    let same : Agree s t o (entry_place r.kind o (total_at s o)) = rw (total, ← place) agree in
    sym (independence.directory r.kind r.limit level s t o wide same) ∙ e

module _ (r : Rules) (s t : List ℕ) (long : length s ≡ length t) where
  pointer_same : (p : ℕ) → pointer_to r.window s p ≡ pointer_to r.window t p
  unfolding pointer_to
  pointer_same p = rw (then_same (offset_in r.window p) (λ o. within s o.0 (given o)) (λ o. within t o.0 (given o)) (λ o q. rw long), long)

  pointers_same : (e : Efs) → pointer_of r.window s e ≡ pointer_of r.window t e
  unfolding pointer_of
  pointers_same e = simp pointer_same

module _ (r : Rules) (level : ℕ) (s t : List ℕ) (wide : 16 ≤ r.kind.entry) (way : SameWay r level s t) where
  same_efs : efs_in r s ≡ efs_in r t
  same_efs =
      then_same (efs_place r.window r.candidates s) (λ o. given (efs_at s o)) (λ o. given (efs_at t o)) (λ o q. rw (way.late o q, way.early o q))
      ∙ ap (λ (x : Reply Offset). then x (λ o. given (efs_at t o))) way.place

  same_pointer : pointer_in r s ≡ pointer_in r t
  same_pointer =
      then_same (efs_in r s) (pointer_of r.window s) (pointer_of r.window t) (λ e q. pointers_same r s t way.long e)
      ∙ ap (λ (x : Reply Efs). then x (pointer_of r.window t)) same_efs

  same_one : GoodLength s → (d : Directory) → 1 ≤ level → level_one r s ≡ given d → level_one r t ≡ given d
  same_one z d h e =
      let q = then_given (pointer_in r s) (λ p. directory_at r.kind r.limit 1 s p.place.0) e in
      ap (λ (x : Reply Pointer). then x (λ p. directory_at r.kind r.limit 1 t p.place.0)) (sym same_pointer ∙ q.1)
      ∙ given_same r 1 s t q.0.place.0 d wide (way.directories 1 h d (open_one r s d z e)) q.2

  pub same_directory : (d : Directory) → flash_directory r level s ≡ given d → flash_directory r level t ≡ given d
  same_directory d e = let o = opened r s d level e in by level refl o.0 o.1
    where
      long : GoodLength s → GoodLength t
      long z = record { from = rw (← way.long) z.from; to = rw (← way.long) z.to }

      by : (l : ℕ) → l ≡ level → GoodLength s → Opened r s d l → flash_directory r l t ≡ given d
      by l q z (one e) = open_one r t d (long z) (same_one z d (omega arith) e)
      by l q z (two above a e) =
          let k = led_given r s above d e in
          let lead = sym (entries_independence r.kind s t above wide (way.directories 1 (omega arith) above (open_one r s above z a))).lead ∙ k.1 in
          let place = sym (leads_same r.window s t way.long above.place.0 k.0.entry) ∙ k.3 in
          open_two r t d (long z) above (same_one z above (omega arith) a)
          (ap (λ (x : Reply Lead). then x (λ l. level_two_at r t above l.index l.entry)) lead
          ∙ ap (λ (x : Reply Offset). then (met (in_entry above.level k.0.index above.place.0) x) (λ p. directory_at r.kind r.limit 2 t p.0)) place
          ∙ given_same r 2 s t k.2.0 d wide (way.directories 2 (omega arith) d (open_two r s d z above a e)) k.4)

  -- whatever is asked of the directory
  same_after : {B : Type 0} (f : List ℕ → Directory → Reply B) (d : Directory) → flash_directory r level s ≡ given d → (Agree s t d.place.0 (end_of r.kind d) → f s d ≡ f t d) →
      then (flash_directory r level t) (f t) ≡ then (flash_directory r level s) (f s)
  same_after f d e h =
      ap (λ (x : Reply Directory). then x (f t)) (same_directory d e) ∙ sym (h (way.directories level (omega arith) d e)) ∙ ap (λ (x : Reply Directory). then x (f s)) (sym e)

  same_find : (d : Directory) (class sub : ℕ) → flash_directory r level s ≡ given d → flash_find r level t class sub ≡ flash_find r level s class sub
  same_find d class sub e =
      ap (λ (x : Reply Directory). then (from_lookup x) (λ d. find_in r.kind t d class sub)) (same_directory d e)
      ∙ sym ((entries_independence r.kind s t d wide (way.directories level (omega arith) d e)).lookup class sub)
      ∙ ap (λ (x : Reply Directory). then (from_lookup x) (λ d. find_in r.kind s d class sub)) (sym e)

pub flash_independence : FlashIndependence
flash_independence = record {
  same = λ r level s t d wide way e. record {
    directory = same_directory r level s t wide way d e;
    entry = λ i. same_after r level s t wide way (λ s d. entry_in r.kind s d i) d e (λ agree. (entries_independence r.kind s t d wide agree).entry i);
    part = λ i. same_after r level s t wide way (λ s d. part_in r.kind r.window s d i) d e (λ agree. (entries_independence r.kind s t d wide agree).part r.window i);
    lookup = λ class sub. same_find r level s t wide way d class sub e;
  };
  behind = λ r level s d i e h. ap (λ (x : Reply Directory). then x (λ d. entry_in r.kind s d i)) e ∙ entry_acceptance.behind r.kind s d i h;
}

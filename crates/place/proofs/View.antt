-- The directory at a place is given exactly where it is good, a view of a level answers as the calls on that level do, and bytes are a part of the image. Assumes nothing.
use mathlib.Core.Path.{◌≡◌, refl, sym, ap, ◌∙◌}
use mathlib.Core.List.{List}
use mathlib.Core.Bool.{Bool, true, false, not, cond}
use Prim.Native.Nat.{ℕ, ◌+◌, ◌<◌, ◌≤◌}
use native.Mathlib.Omega.{arith}
use borrow.Author.Tests.{le-leb, lt-leb, leb-false}
use lib.ListN.{length}
use lib.Dec.{leb, eqb}
use Rattle.reply.specs.Reply.{Reply, Carried, given, refused, alone, in_entry, guard, then, met}
use Rattle.reply.proofs.ReplyLaws.{past, passed, failed, then_given, met_given}
use Rattle.directory.specs.Directory.{directory_at, directory_by_cookie}
use Rattle.entries.specs.Entry.{entry_in}
use Rattle.entries.specs.Part.{leads_to, part_within, part_of, part_in, bytes_of, begin_of}
use Rattle.directory.specs.declared.Directory.{Directory}
use Rattle.entries.specs.declared.Entry.{Entry}
use Rattle.entries.specs.declared.Part.{Part}
use Rattle.directory.proofs.Accept.{only_good, cookie_acceptance}
use Rattle.entries.proofs.Parts.{part_inside}
use Rattle.efs.specs.Efs.{pointer_in}
use Rattle.window.specs.Inside.{GoodLength}
use Rattle.efs.specs.Rules.{rules_of}
use Rattle.efs.specs.declared.Rules.{Rules}
use Rattle.flash.specs.Flash.{flash_directory, flash_part}
use Rattle.window.specs.declared.Offset.{Offset}
use Rattle.window.specs.Window.{nearest_to, within}
use Rattle.window.specs.Length.{sized, longest, length_allowed}
use Rattle.window.proofs.Length.{allowed_fact, sized_passed, sized_past}
use Rattle.flash.proofs.Ways.{Opened, one, two, opened, led_given}
use Rattle.place.specs.Place.{check_at, entry_at, part_at, held_bytes, held_place, view_image, view_place, part_through}
use Rattle.place.specs.View.{GoodPlace, PlaceAcceptance, NearestPlace, SameThroughView, ViewOfLevel, PartOfImage}

module _ (r : Rules) (s : List ℕ) where
  only_place : (place : ℕ) (d : Directory) → check_at r s place ≡ given d → GoodPlace r s place d
  unfolding check_at
  only_place place d e =
      let z = sized_past s _ e in
      let g = past (leb place (length s)) _ _ _ z.1 in
      let h = cookie_acceptance.only r.kind r.limit s place d g.1 in
      record { long = z.0; good = h.0; here = h.1 }

  -- where a directory is given, the image has a length that is allowed
  pub checked_long : (place : ℕ) (d : Directory) → check_at r s place ≡ given d → GoodLength s
  checked_long place d e = (only_place place d e).long

  all_place : (place : ℕ) (d : Directory) → (r.kind.one ≡ r.kind.two → ⊥) → GoodPlace r s place d → check_at r s place ≡ given d
  unfolding check_at
  all_place place d apart g =
      let p = g.good.present in
      let h = g.here in
      let within : place ≤ length s = omega arith in
      sized_passed s _ g.long
      ∙ (passed _ _ _ _ (le-leb _ _ within)
      ∙ (ap (directory_by_cookie r.kind r.limit s) (sym h) ∙ cookie_acceptance.all r.kind r.limit s d apart g.good))

  -- a directory that a level leads to is good, at its own place
  good_opened : (level : ℕ) (d : Directory) → flash_directory r level s ≡ given d → GoodPlace r s d.place.0 d
  good_opened level d e = let w = opened r s d level e in by w.0 w.1
    where
      at : (l o : ℕ) → GoodLength s → directory_at r.kind r.limit l s o ≡ given d → GoodPlace r s d.place.0 d
      at l o z e = record { long = z; good = (only_good r.kind r.limit l s o d e).0; here = refl }

      by : {level : ℕ} → GoodLength s → Opened r s d level → GoodPlace r s d.place.0 d
      by z (one e) = let t = then_given (pointer_in r s) _ e in at 1 t.0.place.0 z t.2
      by z (two above e h) = let t = led_given r s above d h in at 2 t.2.0 z t.4

-- what is asked of a directory next: its entry i, and where the bytes of that lie
abbrev entry_next : (i : ℕ) → Rules → List ℕ → Directory → Reply Entry
entry_next i r s d = entry_in r.kind s d i

abbrev part_next : (i : ℕ) → Rules → List ℕ → Directory → Reply Part
part_next i r s d = part_in r.kind r.window s d i

pub place_acceptance : PlaceAcceptance
place_acceptance = record { only = only_place; all = all_place }

module _ (rules : List ℕ → Rules) (apart : (image : List ℕ) → (rules image).kind.one ≡ (rules image).kind.two → ⊥) (level : ℕ) (s : List ℕ) where
  -- the rules of the image, what the view holds, and the place that it keeps
  abbrev r : Rules
  r = rules s

  abbrev held : List ℕ
  held = view_image r level s

  abbrev at_kept : ℕ
  at_kept = (view_place r level s).0

  -- a directory of the level, asked for again at its place
  kept : (d : Directory) → flash_directory r level s ≡ given d → check_at r s d.place.0 ≡ given d
  kept d e = all_place r s d.place.0 d (apart s) (good_opened r s level d e)

  -- the directory of a view that holds and keeps what such a reply leaves
  abbrev checked_by : Reply Directory → Reply Directory
  checked_by q = check_at (rules (held_bytes s q)) (held_bytes s q) (held_place q).0

  same : (d : Directory) → flash_directory r level s ≡ given d → check_at (rules held) held at_kept ≡ given d
  same d e = ap checked_by e ∙ kept d e

  -- whatever is asked of it next
  same_next : {B : Type 0} (next : Rules → List ℕ → Directory → Reply B) (d : Directory) → flash_directory r level s ≡ given d →
      then (check_at (rules held) held at_kept) (next (rules held) held) ≡ then (flash_directory r level s) (next r s)
  same_next next d e =
      ap (λ (q : Reply Directory). then (checked_by q) (next (rules (held_bytes s q)) (held_bytes s q))) e
      ∙ ap (λ (x : Reply Directory). then x (next r s)) (kept d e)
      ∙ sym (ap (λ (q : Reply Directory). then q (next r s)) e)

  none_15 : (number : ℕ) (carried : Carried) → flash_directory r level s ≡ refused number carried → check_at (rules held) held at_kept ≡ refused 15 alone
  unfolding check_at
  none_15 number carried e = rw e

  next_15 : {B : Type 0} (next : Rules → List ℕ → Directory → Reply B) (number : ℕ) (carried : Carried) → flash_directory r level s ≡ refused number carried →
      then (check_at (rules held) held at_kept) (next (rules held) held) ≡ refused 15 alone
  next_15 next number carried e = ap (λ (x : Reply Directory). then x (next (rules held) held)) (none_15 number carried e)

  -- of an entry's bytes nothing is left where they are refused, by the one number or the other
  module _ (i : ℕ) where
    same_bytes : (q : Reply Directory) → flash_directory r level s ≡ q → bytes_of held (part_through rules level s i) ≡ bytes_of s (flash_part r level s i)
    unfolding check_at
    same_bytes (given d) e = ap (λ (x : Reply Part). bytes_of held x) (same_next (part_next i) d e) ∙ rw e
    same_bytes (refused number carried) e = rw e

    same_begin : (at : ℕ × ℕ) (q : Reply Directory) → flash_directory r level s ≡ q → begin_of at (part_through rules level s i) ≡ begin_of at (flash_part r level s i)
    unfolding check_at
    same_begin at (given d) e = ap (begin_of at) (same_next (part_next i) d e)
    same_begin at (refused number carried) e = rw e

through_view : (rules : List ℕ → Rules) → ((image : List ℕ) → (rules image).kind.one ≡ (rules image).kind.two → ⊥) → SameThroughView rules
through_view rules apart = record {
  directory = same rules apart;
  entry = λ level s d i. same_next rules apart level s (entry_next i) d;
  part = λ level s d i. same_next rules apart level s (part_next i) d;
  bytes = λ level s i. same_bytes rules apart level s i (flash_directory (rules s) level s) refl;
  begin = λ level s i at. same_begin rules apart level s i at (flash_directory (rules s) level s) refl;
  none = λ level s number carried e. (ap (held_bytes s) e, ap (λ (x : Reply Directory). (held_place x).0) e);
  directory_15 = none_15 rules apart;
  entry_15 = λ level s i. next_15 rules apart level s (entry_next i);
  part_15 = λ level s i. next_15 rules apart level s (part_next i);
}

pub view_of_level : ViewOfLevel
view_of_level = record { every = through_view; document = through_view rules_of (λ image e. omega arith) }

-- what comes after the length
abbrev checked_at : Rules → (s : List ℕ) → (place : ℕ) → Reply Directory
checked_at r s place = within s place (directory_by_cookie r.kind r.limit s place)

-- the offset nearest to a place that no offset can tell lies beyond the image, as the place does
nearest_check : (r : Rules) (s : List ℕ) (place : ℕ) → check_at r s (nearest_to place).0 ≡ check_at r s place
unfolding check_at
nearest_check r s place = by (leb place 0xFFFF_FFFF) refl (length_allowed s) refl
  where
    by : (b : Bool) → leb place 0xFFFF_FFFF ≡ b → (l : Bool) → length_allowed s ≡ l → guard l 15 (checked_at r s (cond b place 0xFFFF_FFFF)) ≡ guard l 15 (checked_at r s place)
    by true q l k = refl
    by false q false k = refl
    by false q true k =
        let far : 0xFFFF_FFFF < place = leb-false _ _ q in
        let long : length s ≤ longest = (allowed_fact s k).to in
        failed _ _ _ _ (lt-leb 0xFFFF_FFFF (length s) (omega arith)) ∙ sym (failed _ _ _ _ (lt-leb place (length s) (omega arith)))

pub nearest_place : NearestPlace
nearest_place = record {
  check = nearest_check;
  entry = λ r s place i. ap (λ (x : Reply Directory). then x (λ d. entry_in r.kind s d i)) (nearest_check r s place);
  part = λ r s place i. ap (λ (x : Reply Directory). then x (λ d. part_in r.kind r.window s d i)) (nearest_check r s place);
}

-- the same of an offset that is known to be the nearest
module _ (r : Rules) (s : List ℕ) (o : Offset) (place : ℕ) (near : o ≡ nearest_to place) where
  pub nearest_directory : check_at r s o.0 ≡ check_at r s place
  nearest_directory = ap (λ (o : Offset). check_at r s o.0) near ∙ nearest_place.check r s place

  pub nearest_entry : (i : ℕ) → entry_at r s o.0 i ≡ entry_at r s place i
  nearest_entry i = ap (λ (o : Offset). entry_at r s o.0 i) near ∙ nearest_place.entry r s place i

  pub nearest_part : (i : ℕ) → part_at r s o.0 i ≡ part_at r s place i
  nearest_part i = ap (λ (o : Offset). part_at r s o.0 i) near ∙ nearest_place.part r s place i

module _ (r : Rules) (s : List ℕ) (place i : ℕ) where
  inside : (p : Part) → part_at r s place i ≡ given p → p.place.0 + p.length ≤ length s
  inside p e = let t = then_given (check_at r s place) _ e in part_inside r.kind r.window s t.0 i p t.2

  size : (e : Entry) (p : Part) → entry_at r s place i ≡ given e → part_at r s place i ≡ given p → p.length ≡ e.size
  unfolding part_of part_within
  size e p a b =
      let t = then_given (check_at r s place) _ a in
      let d = t.0 in
      let h : part_in r.kind r.window s d i ≡ given p = ap (λ (x : Reply Directory). then x (λ d. part_in r.kind r.window s d i)) (sym t.1) ∙ b in
      let g = ap (λ (x : Reply Entry). then x (λ e. met (in_entry d.level i d.place.0) (part_of r.kind r.window s d.place.0 e))) (sym t.2) ∙ h in
      let v = past (not (eqb e.class r.kind.value)) _ _ _ (met_given _ (part_of r.kind r.window s d.place.0 e) g) in
      let u = then_given (leads_to r.window s d.place.0 e) (part_within s e.size) v.1 in
      let w = past (leb (u.0.0 + e.size) (length s)) _ _ _ u.2 in
      cc w.1

pub part_of_image : PartOfImage
part_of_image = record {
  inside = inside;
  size = size;
  bytes = λ r s place i p e. ap (bytes_of s) e;
  begin = λ r s place i p at e. ap (begin_of at) e;
  none = λ r s place i number carried e. ap (bytes_of s) e;
}

-- the part of an entry of a directory that is given, by the rules of the image
pub part_kept : (s : List ℕ) (place i : ℕ) (r : Rules) (d : Directory) → r ≡ rules_of s → given d ≡ check_at r s place → sized s (part_in r.kind r.window s d i) ≡ part_at (rules_of s) s place i
part_kept s place i r d e g =
    sized_passed s _ (checked_long r s place d (sym g))
    ∙ ap (λ (x : Reply Directory). then x (λ d. part_in r.kind r.window s d i)) g
    ∙ ap (λ (r : Rules). part_at r s place i) e

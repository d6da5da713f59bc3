-- What the calls at a place of an image pass on is right by the bytes. Assumes nothing.
use mathlib.Core.Path.{◌≡◌, sym, ap, subst, ◌∙◌}
use mathlib.Core.List.{List}
use mathlib.Core.Bool.{true}
use Prim.Native.Nat.{ℕ, ◌≤◌}
use borrow.Author.Tests.{leb-true, le-leb}
use lib.ListN.{length}
use lib.Dec.{leb}
use Rattle.reply.specs.Reply.{Carried, refused, alone, in_entry}
use Rattle.reply.proofs.ReplyLaws.{passed}
use Rattle.window.specs.Window.{four_gib}
use Rattle.window.specs.Length.{length_allowed}
use Rattle.efs.specs.declared.Rules.{Rules}
use Rattle.place.specs.Place.{check_at, entry_at, part_at}
use Rattle.place.proofs.View.{place_acceptance}
use Rattle.places_told.specs.Where.{CookieFault}
use Rattle.places_told.specs.Told.{PlaceFault, nowhere_told, by_cookie, PlacePartFault, of_place, in_its_part}
use Rattle.places_told.proofs.Refused.{stopped, then_stopped}
use Rattle.places_told.proofs.Alone.{entry_alone}
use Rattle.places_told.proofs.Cookie.{cookie_only, cookie_all}
use Rattle.places_told.proofs.Parts.{part_stopped}

module _ (r : Rules) (s : List ℕ) (n : ℕ) (c : Carried) (place : ℕ) where
  told_alone : c ≡ alone → PlaceFault r s place n c
  told_alone e = subst (PlaceFault r s place n) (sym e) nowhere_told

  pub place_fault : check_at r s place ≡ refused n c → PlaceFault r s place n c
  unfolding check_at
  place_fault e =
      stopped (length_allowed s) 15 _ _ e (λ b m k. told_alone (sym k))
      (λ b e. stopped (leb place (length s)) 7 _ _ e (λ b m k. told_alone (sym k)) (λ b e. by_cookie (leb-true _ _ b) (cookie_only r.kind r.limit s place n c e)))

  pub place_back : (r.kind.one ≡ r.kind.two → ⊥) → length_allowed s ≡ true → place ≤ length s → CookieFault r.kind r.limit s place n c → check_at r s place ≡ refused n c
  unfolding check_at
  place_back apart long h f = passed _ _ _ _ long ∙ passed _ _ _ _ (le-leb _ _ h) ∙ cookie_all r.kind r.limit s place n c apart f

  pub place_entry_fault : (i : ℕ) → entry_at r s place i ≡ refused n c → PlaceFault r s place n c
  place_entry_fault i e = then_stopped (check_at r s place) _ e place_fault (λ d q e. told_alone (entry_alone r.kind s d i n c e))

  pub place_part_fault : r.window ≤ four_gib → (i : ℕ) → part_at r s place i ≡ refused n c → PlacePartFault r s place i n c
  place_part_fault fits i e =
      then_stopped (check_at r s place) _ e (λ q. of_place (place_fault q))
      (λ d q e. part_stopped r.kind r.window fits s d i n c e (λ k. of_place (told_alone k))
      (λ inside f k. subst (PlacePartFault r s place i n) (ap (in_entry d.level i) (sym (place_acceptance.only r s place d q).here) ∙ k) (in_its_part d q inside f)))

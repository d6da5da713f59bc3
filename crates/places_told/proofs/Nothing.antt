-- What carries nothing. Assumes nothing.
use mathlib.Core.Path.{◌≡◌, refl, sym, ap, ◌∙◌}
use mathlib.Core.Logic.{◌⊎◌, inl, inr}
use mathlib.Core.List.{List}
use mathlib.Core.Bool.{Bool, true, false}
use Prim.Native.Nat.{ℕ, ◌<◌, ◌≤◌}
use native.Mathlib.Omega.{arith}
use borrow.Author.Tests.{leb-true, le-leb, lt-leb}
use lib.ListN.{length}
use lib.Dec.{leb}
use Rattle.reply.specs.Reply.{Reply, Carried, given, refused, alone, then, met}
use Rattle.reply.specs.Scan.{None}
use Rattle.reply.proofs.ReplyLaws.{passed, failed}
use Rattle.window.specs.Length.{length_allowed}
use Rattle.window.proofs.Length.{sized_passed, sized_past}
use Rattle.directory.specs.Directory.{psp_kind, directory_by_cookie}
use Rattle.directory.specs.declared.Directory.{Directory}
use Rattle.directory.proofs.Accept.{there_from, there_to}
use Rattle.entries.specs.Entry.{entry_in}
use Rattle.entries.specs.Part.{part_of, part_in}
use Rattle.entries.specs.Good.{Leads}
use Rattle.entries.specs.declared.Entry.{Entry}
use Rattle.entries.specs.declared.Lead.{Lead}
use Rattle.entries.proofs.Accept.{entry_acceptance}
use Rattle.entries.proofs.Lowest.{lowest_lead}
use Rattle.efs.specs.declared.Rules.{Rules}
use Rattle.flash.specs.Flash.{level_one, level_two, level_two_at, flash_directory, flash_entry, flash_part}
use Rattle.place.specs.Place.{check_at}
use Rattle.build.specs.Write.{room_for, extend_of}
use Rattle.build.specs.declared.Fields.{Fields}
use Rattle.places_told.specs.Told.{NothingCarried}
use Rattle.places_told.proofs.Refused.{le_denied}
use Rattle.places_told.proofs.Alone.{pointer_alone, start_alone, room_alone}
use Rattle.places_told.proofs.Parts.{here}

-- a level that there is not
other_level : (r : Rules) (level : ℕ) (s : List ℕ) → ((level ≡ 1) ⊎ (level ≡ 2) → ⊥) → flash_directory r level s ≡ refused 9 alone
unfolding flash_directory
other_level r level s n = by (leb 1 level) refl
  where
    low : 1 ≤ level → level ≤ 2 → ⊥
    low a b = let x : level ≡ 1 → ⊥ = λ e. n (inl e) in let y : level ≡ 2 → ⊥ = λ e. n (inr e) in omega arith

    by : (b : Bool) → leb 1 level ≡ b → flash_directory r level s ≡ refused 9 alone
    by false q = failed _ _ _ _ q
    by true q = passed _ _ _ _ q ∙ failed _ _ _ _ (le_denied _ _ (low (leb-true _ _ q)))

other_length : (r : Rules) (level : ℕ) (s : List ℕ) → (level ≡ 1) ⊎ (level ≡ 2) → length_allowed s ≡ false → flash_directory r level s ≡ refused 15 alone
unfolding flash_directory
other_length r level s l long = passed _ _ _ _ (le-leb _ _ (there_from level l)) ∙ passed _ _ _ _ (le-leb _ _ (there_to level l)) ∙ failed _ _ _ _ long

-- level one without a lead
no_lead_at : (r : Rules) (s : List ℕ) (d : Directory) → flash_directory r 1 s ≡ given d → None (Leads r.kind s d) d.total → flash_directory r 2 s ≡ refused 8 alone
unfolding flash_directory
no_lead_at r s d e none =
    let o = sized_past s (level_one r s) e in
    sized_passed s _ o.0 ∙ ap (λ (x : Reply Directory). then x (level_two r s)) o.1
    ∙ ap (λ (x : Reply Lead). then x (λ l. level_two_at r s d l.index l.entry)) (lowest_lead.absent r.kind s d none)

-- an index at or above the total
behind : (r : Rules) (level : ℕ) (s : List ℕ) (d : Directory) (i : ℕ) → flash_directory r level s ≡ given d → d.total ≤ i →
    (flash_entry r level s i ≡ refused 8 alone) × (flash_part r level s i ≡ refused 8 alone)
behind r level s d i e h =
    let no-entry = entry_acceptance.behind r.kind s d i h in (
      ap (λ (x : Reply Directory). then x (λ d. entry_in r.kind s d i)) e ∙ no-entry,
      ap (λ (x : Reply Directory). then x (λ d. part_in r.kind r.window s d i)) e ∙ ap (λ (x : Reply Entry). then x (λ e. met (here d i) (part_of r.kind r.window s d.place.0 e))) no-entry,
    )

-- a view's image and place
view_long : (r : Rules) (s : List ℕ) (place : ℕ) → length_allowed s ≡ false → check_at r s place ≡ refused 15 alone
unfolding check_at
view_long r s place e = failed _ _ _ _ e

view_beyond : (r : Rules) (s : List ℕ) (place : ℕ) → length_allowed s ≡ true → length s < place → check_at r s place ≡ refused 7 alone
unfolding check_at
view_beyond r s place e h = passed _ _ _ _ e ∙ failed _ _ _ _ (lt-leb _ _ h)

-- an extend's new entry
new_alone : (f : Fields) (s : List ℕ) (d : Directory) (n : ℕ) (c : Carried) → directory_by_cookie psp_kind 512 s 0 ≡ given d → extend_of f s ≡ refused n c → c ≡ alone
new_alone f s d n c q e = room_alone f s d n c (sym (ap (λ (x : Reply Directory). then x (room_for f s)) q) ∙ e)

pub nothing_carried : NothingCarried
nothing_carried = record {
  level = other_level;
  length_of = other_length;
  pointer = pointer_alone;
  no_lead = no_lead_at;
  index = behind;
  view_length = view_long;
  view_place_lem = view_beyond;
  start = start_alone;
  new_entry = new_alone;
}

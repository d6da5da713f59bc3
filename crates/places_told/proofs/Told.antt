-- A place that a refusal carries is right by the bytes, and nothing else carries one. Assumes nothing.
use mathlib.Core.Path.{◌≡◌, sym, subst}
use mathlib.Core.Logic.{◌⊎◌, inl, inr}
use mathlib.Core.List.{List}
use Prim.Native.Nat.{ℕ, ◌≤◌}
use Rattle.reply.specs.Reply.{Carried, refused, alone}
use Rattle.window.specs.Window.{four_gib}
use Rattle.directory.specs.Directory.{psp_kind, directory_by_cookie}
use Rattle.entries.specs.Entry.{entry_in}
use Rattle.efs.specs.declared.Rules.{Rules}
use Rattle.flash.specs.Flash.{flash_part}
use Rattle.place.specs.Place.{part_at}
use Rattle.build.specs.Write.{room_for, extend_of}
use Rattle.build.specs.declared.Fields.{Fields}
use Rattle.places_told.specs.Where.{CookieFault}
use Rattle.places_told.specs.Told.{ChecksTold, BytesFault, on_the_way, nowhere, PlacePartFault, of_place, nowhere_told, CallsTold, PlacesTold}
use Rattle.places_told.proofs.Refused.{then_stopped}
use Rattle.places_told.proofs.Alone.{entry_alone, room_alone, version_alone}
use Rattle.places_told.proofs.Checks.{directory_only, directory_all}
use Rattle.places_told.proofs.Cookie.{cookie_only, cookie_all}
use Rattle.places_told.proofs.Parts.{part_only, part_all}
use Rattle.places_told.proofs.Flash.{directory_fault, next_fault, part_fault, find_fault, directory_back_lem}
use Rattle.places_told.proofs.Repeats.{repeats_fault}
use Rattle.places_told.proofs.Walk.{image_fault, directories_fault}
use Rattle.places_told.proofs.Place.{place_fault, place_back, place_entry_fault, place_part_fault}
use Rattle.places_told.proofs.Nothing.{nothing_carried}

pub checks_told : ChecksTold
checks_told = record {
  directory_only = directory_only;
  directory_all = directory_all;
  cookie_only = cookie_only;
  cookie_all = cookie_all;
  part_only = λ kind window s d i n c fits inside. part_only kind window fits s d i inside n c;
  part_all = λ kind window s d i n fits inside. part_all kind window fits s d i inside n;
}

pub calls_told : (r : Rules) (s : List ℕ) → r.window ≤ four_gib → CallsTold r s
calls_told r s fits = record {
  directory = λ level n c. directory_fault r level s n c fits;
  entry = λ level i n c. next_fault r level s n c fits (λ d. entry_in r.kind s d i) (λ d. entry_alone r.kind s d i);
  part = λ level i n c. part_fault r level s n c fits i;
  repeats = λ level n c. repeats_fault r level s n c fits;
  lookup = λ level class sub n c. find_fault r level s n c fits class sub;
  image_lookup = λ class sub n c. image_fault r s n c fits class sub;
  directories = λ n c. directories_fault r s n c fits;
  at_place = λ place n c. place_fault r s n c place;
  entry_at_lem = λ place i n c. place_entry_fault r s n c place i;
  part_at_lem = λ place i n c. place_part_fault r s n c place fits i;
  version = λ level i n c e. then_stopped (flash_part r level s i) _ e (part_fault r level s n c fits i) (λ p q e. subst (BytesFault r level s i n) (sym (version_alone _ n c e)) (on_the_way nowhere));
  version_at = λ place i n c e.
      then_stopped (part_at r s place i) _ e (place_part_fault r s n c place fits i) (λ p q e. subst (PlacePartFault r s place i n) (sym (version_alone _ n c e)) (of_place nowhere_told));
  directory_all = λ level n c there long. directory_back_lem r level s n there fits long c;
  at_place_all = λ place n c. place_back r s n c place;
}

-- an extend refuses by the directory that is there, or by its new entry
pub extend_told : (f : Fields) (s : List ℕ) (n : ℕ) (c : Carried) → extend_of f s ≡ refused n c → (c ≡ alone) ⊎ CookieFault psp_kind 512 s 0 n c
extend_told f s n c e = then_stopped (directory_by_cookie psp_kind 512 s 0) (room_for f s) e (λ q. inr (cookie_only psp_kind 512 s 0 n c q)) (λ d q e. inl (room_alone f s d n c e))

pub places_told_lem : PlacesTold
places_told_lem = record { checks = checks_told; calls = calls_told; extend = extend_told; nothing = nothing_carried }

-- A place that a refusal carries is right by the bytes, and nothing else carries one. Assumes nothing: these are statements.
use Rattle.std.specs.Prelude.{ℕ, ◌<◌, ◌≤◌, ◌≡◌, ◌⊎◌, List, true, false, length}
use Rattle.reply.specs.Reply.{Carried, given, refused, alone, tested, in_entry}
use Rattle.reply.specs.Scan.{Lowest, None}
use Rattle.window.specs.Length.{length_allowed}
use Rattle.window.specs.Window.{four_gib}
use Rattle.directory.specs.Directory.{psp_kind, directory_at, directory_by_cookie}
use Rattle.directory.specs.declared.Kind.{Kind}
use Rattle.directory.specs.declared.Directory.{Directory}
use Rattle.entries.specs.Entry.{entry_of}
use Rattle.entries.specs.Part.{part_in}
use Rattle.entries.specs.Good.{Leads, BeginsAt}
use Rattle.efs.specs.Efs.{pointer_in}
use Rattle.efs.specs.declared.Pointer.{Pointer}
use Rattle.efs.specs.declared.Rules.{Rules}
use Rattle.flash.specs.Flash.{flash_directory, flash_entry, flash_part, flash_find}
use Rattle.repeats.specs.Repeats.{flash_repeats}
use Rattle.walk.specs.Walk.{find_image}
use Rattle.all_directories.specs.AllDirectories.{flash_directories}
use Rattle.place.specs.Place.{check_at, entry_at, part_at}
use Rattle.version_words.specs.Versions.{version_in}
use Rattle.build.specs.declared.Fields.{Fields}
use Rattle.build.specs.Write.{start_of, extend_of}
use Rattle.places_told.specs.Where.{CheckFault, CookieFault, LeadFault, PartFault}

-- ---- the checks: a directory, and the bytes of an entry, are refused exactly so
pub record ChecksTold : Type 0 where
  pub directory_only : (kind : Kind) (limit level : ℕ) (image : List ℕ) (o number : ℕ) (carried : Carried) → (level ≡ 1) ⊎ (level ≡ 2) →
      directory_at kind limit level image o ≡ refused number carried → CheckFault kind limit level image o number carried
  pub directory_all : (kind : Kind) (limit level : ℕ) (image : List ℕ) (o number : ℕ) (carried : Carried) → (level ≡ 1) ⊎ (level ≡ 2) →
      CheckFault kind limit level image o number carried → directory_at kind limit level image o ≡ refused number carried
  pub cookie_only : (kind : Kind) (limit : ℕ) (image : List ℕ) (o number : ℕ) (carried : Carried) →
      directory_by_cookie kind limit image o ≡ refused number carried → CookieFault kind limit image o number carried
  -- of a kind whose cookies differ
  pub cookie_all : (kind : Kind) (limit : ℕ) (image : List ℕ) (o number : ℕ) (carried : Carried) → (kind.one ≡ kind.two → ⊥) →
      CookieFault kind limit image o number carried → directory_by_cookie kind limit image o ≡ refused number carried
  -- through a window that fits below 4 GiB
  pub part_only : (kind : Kind) (window : ℕ) (image : List ℕ) (d : Directory) (i number : ℕ) (carried : Carried) → window ≤ four_gib → i < d.total →
      part_in kind window image d i ≡ refused number carried → PartFault kind window image d i number × (carried ≡ in_entry d.level i d.place.0)
  pub part_all : (kind : Kind) (window : ℕ) (image : List ℕ) (d : Directory) (i number : ℕ) → window ≤ four_gib → i < d.total →
      PartFault kind window image d i number → part_in kind window image d i ≡ refused number (in_entry d.level i d.place.0)

-- ---- the calls: what each passes on, of a directory of level one or two of an image
-- of what entry i of level one, d, leads to: in that entry, or in the directory of level two at the place where it leads
pub data LedFault (r : Rules) (image : List ℕ) (d : Directory) (i number : ℕ) : Carried → Type 0 where
  in_lead : LeadFault r.kind r.window image d i number → LedFault r image d i number (in_entry d.level i d.place.0)
  in_two : {carried : Carried} (place : ℕ) → BeginsAt r.window d.place.0 (entry_of r.kind image d i) place → place ≤ length image → CheckFault r.kind r.limit 2 image place number carried →
      LedFault r image d i number carried

-- of the directory of a level: nowhere; in level one, where the pointer leads; or, for level two, of what the lowest lead of level one leads to
pub data FlashFault (r : Rules) (level : ℕ) (image : List ℕ) (number : ℕ) : Carried → Type 0 where
  nowhere : FlashFault r level image number alone
  in_one : {carried : Carried} (p : Pointer) → pointer_in r image ≡ given p → CheckFault r.kind r.limit 1 image p.place.0 number carried → FlashFault r level image number carried
  below : {carried : Carried} (d : Directory) (i : ℕ) → level ≡ 2 → flash_directory r 1 image ≡ given d → Lowest (Leads r.kind image d) d.total i → LedFault r image d i number carried →
      FlashFault r level image number carried

-- of an entry's bytes the same, or in that entry
pub data BytesFault (r : Rules) (level : ℕ) (image : List ℕ) (i number : ℕ) : Carried → Type 0 where
  on_the_way : {carried : Carried} → FlashFault r level image number carried → BytesFault r level image i number carried
  in_part : (d : Directory) → flash_directory r level image ≡ given d → i < d.total → PartFault r.kind r.window image d i number →
      BytesFault r level image i number (in_entry level i d.place.0)

-- of a whole image: as level one, or of what one of its leads leads to; that it is the first at fault, walk_places tells
pub data WalkFault (r : Rules) (image : List ℕ) (number : ℕ) : Carried → Type 0 where
  of_level_one : {carried : Carried} → FlashFault r 1 image number carried → WalkFault r image number carried
  of_a_lead : {carried : Carried} (d : Directory) (i : ℕ) → flash_directory r 1 image ≡ given d → i < d.total → Leads r.kind image d i → LedFault r image d i number carried →
      WalkFault r image number carried

-- of the directory at a place, and of the bytes of its entry i
pub data PlaceFault (r : Rules) (image : List ℕ) (place number : ℕ) : Carried → Type 0 where
  nowhere_told : PlaceFault r image place number alone
  by_cookie : {carried : Carried} → place ≤ length image → CookieFault r.kind r.limit image place number carried → PlaceFault r image place number carried

pub data PlacePartFault (r : Rules) (image : List ℕ) (place i number : ℕ) : Carried → Type 0 where
  of_place : {carried : Carried} → PlaceFault r image place number carried → PlacePartFault r image place i number carried
  in_its_part : (d : Directory) → check_at r image place ≡ given d → i < d.total → PartFault r.kind r.window image d i number →
      PlacePartFault r image place i number (in_entry d.level i place)

-- a lookup that finds nothing carries its count
abbrev pub Counted : (number : ℕ) → Carried → Type 0
Counted number carried = (number ≡ 8) × ((count : ℕ) × (carried ≡ tested count))

-- by rules with a window that fits below 4 GiB
pub record CallsTold (r : Rules) (image : List ℕ) : Type 0 where
  pub directory : (level number : ℕ) (carried : Carried) → flash_directory r level image ≡ refused number carried → FlashFault r level image number carried
  pub entry : (level i number : ℕ) (carried : Carried) → flash_entry r level image i ≡ refused number carried → FlashFault r level image number carried
  pub part : (level i number : ℕ) (carried : Carried) → flash_part r level image i ≡ refused number carried → BytesFault r level image i number carried
  pub repeats : (level number : ℕ) (carried : Carried) → flash_repeats r level image ≡ refused number carried → FlashFault r level image number carried
  pub lookup : (level class sub number : ℕ) (carried : Carried) → flash_find r level image class sub ≡ refused number carried → Counted number carried ⊎ FlashFault r level image number carried
  pub image_lookup : (class sub number : ℕ) (carried : Carried) → find_image r image class sub ≡ refused number carried → Counted number carried ⊎ WalkFault r image number carried
  pub directories : (number : ℕ) (carried : Carried) → flash_directories r image ≡ refused number carried → WalkFault r image number carried
  pub at_place : (place number : ℕ) (carried : Carried) → check_at r image place ≡ refused number carried → PlaceFault r image place number carried
  pub entry_at_lem : (place i number : ℕ) (carried : Carried) → entry_at r image place i ≡ refused number carried → PlaceFault r image place number carried
  pub part_at_lem : (place i number : ℕ) (carried : Carried) → part_at r image place i ≡ refused number carried → PlacePartFault r image place i number carried
  -- the version that an entry's bytes hold
  pub version : (level i number : ℕ) (carried : Carried) → version_in image (flash_part r level image i) ≡ refused number carried → BytesFault r level image i number carried
  pub version_at : (place i number : ℕ) (carried : Carried) → version_in image (part_at r image place i) ≡ refused number carried → PlacePartFault r image place i number carried
  -- and back: the directory of a level, or at a place, is refused so
  pub directory_all : (level number : ℕ) (carried : Carried) → (level ≡ 1) ⊎ (level ≡ 2) → length_allowed image ≡ true → (carried ≡ alone → ⊥) → FlashFault r level image number carried →
      flash_directory r level image ≡ refused number carried
  -- of a kind whose cookies differ
  pub at_place_all : (place number : ℕ) (carried : Carried) → (r.kind.one ≡ r.kind.two → ⊥) → length_allowed image ≡ true → place ≤ length image →
      CookieFault r.kind r.limit image place number carried → check_at r image place ≡ refused number carried

-- ---- what carries nothing
pub record NothingCarried : Type 0 where
  -- a level that there is not: 9; a length that is not allowed: 15
  pub level : (r : Rules) (level : ℕ) (image : List ℕ) → ((level ≡ 1) ⊎ (level ≡ 2) → ⊥) → flash_directory r level image ≡ refused 9 alone
  pub length_of : (r : Rules) (level : ℕ) (image : List ℕ) → (level ≡ 1) ⊎ (level ≡ 2) → length_allowed image ≡ false → flash_directory r level image ≡ refused 15 alone
  -- the EFS and its pointer: 2, 8 and 7
  pub pointer : (r : Rules) (image : List ℕ) (number : ℕ) (carried : Carried) → pointer_in r image ≡ refused number carried → carried ≡ alone
  -- level one without a lead: 8
  pub no_lead : (r : Rules) (image : List ℕ) (d : Directory) → flash_directory r 1 image ≡ given d → None (Leads r.kind image d) d.total → flash_directory r 2 image ≡ refused 8 alone
  -- an index at or above the total: 8
  pub index : (r : Rules) (level : ℕ) (image : List ℕ) (d : Directory) (i : ℕ) → flash_directory r level image ≡ given d → d.total ≤ i →
      (flash_entry r level image i ≡ refused 8 alone) × (flash_part r level image i ≡ refused 8 alone)
  -- a view's image and place: 15 and 7
  pub view_length : (r : Rules) (image : List ℕ) (place : ℕ) → length_allowed image ≡ false → check_at r image place ≡ refused 15 alone
  pub view_place_lem : (r : Rules) (image : List ℕ) (place : ℕ) → length_allowed image ≡ true → length image < place → check_at r image place ≡ refused 7 alone
  -- a start, and the new entry of an extend
  pub start : (level : ℕ) (s : List ℕ) (number : ℕ) (carried : Carried) → start_of level s ≡ refused number carried → carried ≡ alone
  pub new_entry : (f : Fields) (s : List ℕ) (d : Directory) (number : ℕ) (carried : Carried) → directory_by_cookie psp_kind 512 s 0 ≡ given d → extend_of f s ≡ refused number carried → carried ≡ alone

-- ---- all of it
pub record PlacesTold : Type 0 where
  pub checks : ChecksTold
  pub calls : (r : Rules) (image : List ℕ) → r.window ≤ four_gib → CallsTold r image
  -- an extend refuses by the directory that is there, or by its new entry
  pub extend : (f : Fields) (s : List ℕ) (number : ℕ) (carried : Carried) → extend_of f s ≡ refused number carried → (carried ≡ alone) ⊎ CookieFault psp_kind 512 s 0 number carried
  pub nothing : NothingCarried

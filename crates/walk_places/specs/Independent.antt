-- What lies outside the directories that the lookup in the whole image comes to has no part in its answer. Assumes nothing: these are statements.
use Rattle.std.specs.Prelude.{ℕ, ◌<◌, ◌≤◌, ◌≡◌, List, length}
use Rattle.le.specs.Field.{get}
use Rattle.reply.specs.Reply.{given}
use Rattle.window.specs.Window.{four_gib}
use Rattle.window.specs.declared.Offset.{Offset}
use Rattle.directory.specs.declared.Kind.{Kind}
use Rattle.directory.specs.declared.Directory.{Directory}
use Rattle.directory.specs.Directory.{total_at, entry_place}
use Rattle.directory.specs.Independent.{Agree}
use Rattle.entries.specs.Entry.{entry_of}
use Rattle.entries.specs.Good.{Leads, BeginsAt}
use Rattle.efs.specs.Fields as efs
use Rattle.efs.specs.Efs.{efs_place, pointer_in}
use Rattle.efs.specs.declared.Rules.{Rules}
use Rattle.efs.specs.declared.Pointer.{Pointer}
use Rattle.flash.specs.Flash.{flash_directory}
use Rattle.walk.specs.Walk.{find_image}
use Rattle.walk_places.specs.Places.{below, Reached}
use Rattle.walk_places.specs.Lookup.{Find}

-- two images agree on the directory at o, good or not, up to the end that its total tells
abbrev pub AgreeAt : Kind → (image other : List ℕ) → (o : ℕ) → Type 0
AgreeAt kind image other o = Agree image other o (entry_place kind o (total_at image o))

-- two images of one length with the same EFS and pointers, that agree where level one should be and where each lead leads that the walk comes to
pub record SameWalk (r : Rules) (image other : List ℕ) (class sub : ℕ) : Type 0 where
  pub long : length image ≡ length other
  pub place : efs_place r.window r.candidates image ≡ efs_place r.window r.candidates other
  pub late : (e : Offset) → efs_place r.window r.candidates image ≡ given e → get efs.late image e.0 ≡ get efs.late other e.0
  pub early : (e : Offset) → efs_place r.window r.candidates image ≡ given e → get efs.early image e.0 ≡ get efs.early other e.0
  pub one : (p : Pointer) → pointer_in r image ≡ given p → AgreeAt r.kind image other p.place.0
  pub two : (d : Directory) → flash_directory r 1 image ≡ given d → (i : ℕ) → i < d.total → Leads r.kind image d i → Reached r image d class sub (below i 0) →
      (o : ℕ) → BeginsAt r.window d.place.0 (entry_of r.kind image d i) o → o ≤ length image → AgreeAt r.kind image other o

-- such images have the same answer, given or refused; by rules with a window that fits below 4 GiB, of a kind whose entries have 16 bytes or more
abbrev pub Independent : Find → Type 0
Independent find = (r : Rules) (image other : List ℕ) (class sub : ℕ) → r.window ≤ four_gib → 16 ≤ r.kind.entry → SameWalk r image other class sub →
    find r image class sub ≡ find r other class sub

abbrev pub ImageIndependence : Type 0
ImageIndependence = Independent find_image

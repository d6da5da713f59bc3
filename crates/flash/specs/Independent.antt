-- What lies outside the way to a directory, and outside the directory, has no part in what is answered of it. Assumes nothing: these are statements.
use Rattle.std.specs.Prelude.{ℕ, ◌≤◌, ◌≡◌, List, length}
use Rattle.le.specs.Field.{get}
use Rattle.reply.specs.Reply.{given, refused, alone}
use Rattle.window.specs.declared.Offset.{Offset}
use Rattle.directory.specs.Independent.{Agree, end_of}
use Rattle.directory.specs.declared.Directory.{Directory}
use Rattle.efs.specs.Fields as efs
use Rattle.efs.specs.Efs.{efs_place}
use Rattle.efs.specs.declared.Rules.{Rules}
use Rattle.flash.specs.Flash.{flash_directory, flash_entry, flash_part, flash_find}

-- two images of one length with the same EFS and pointers, that agree from begin to end of the directory of each level up to the one asked for
pub record SameWay (r : Rules) (level : ℕ) (image other : List ℕ) : Type 0 where
  pub long : length image ≡ length other
  pub place : efs_place r.window r.candidates image ≡ efs_place r.window r.candidates other
  pub late : (e : Offset) → efs_place r.window r.candidates image ≡ given e → get efs.late image e.0 ≡ get efs.late other e.0
  pub early : (e : Offset) → efs_place r.window r.candidates image ≡ given e → get efs.early image e.0 ≡ get efs.early other e.0
  pub directories : (l : ℕ) → l ≤ level → (d : Directory) → flash_directory r l image ≡ given d → Agree image other d.place.0 (end_of r.kind d)

-- both images answer the same of the directory d, for each index and each lookup
pub record SameAnswers (r : Rules) (level : ℕ) (image other : List ℕ) (d : Directory) : Type 0 where
  pub directory : flash_directory r level other ≡ given d
  pub entry : (i : ℕ) → flash_entry r level other i ≡ flash_entry r level image i
  pub part : (i : ℕ) → flash_part r level other i ≡ flash_part r level image i
  pub lookup : (class sub : ℕ) → flash_find r level other class sub ≡ flash_find r level image class sub

pub record FlashIndependence : Type 0 where
  -- of a directory that is given, and of a kind whose entries have 16 bytes or more
  pub same : (r : Rules) (level : ℕ) (image other : List ℕ) (d : Directory) → 16 ≤ r.kind.entry → SameWay r level image other → flash_directory r level image ≡ given d →
      SameAnswers r level image other d
  -- at or above the total 8, whatever lies behind
  pub behind : (r : Rules) (level : ℕ) (image : List ℕ) (d : Directory) (i : ℕ) → flash_directory r level image ≡ given d → d.total ≤ i → flash_entry r level image i ≡ refused 8 alone

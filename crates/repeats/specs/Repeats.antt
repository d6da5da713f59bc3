-- Which entries repeat in the directory of a level of a flash image. Assumes nothing: these are definitions.
use Rattle.std.specs.Prelude.{ℕ, List, cond, leb, eqb}
use Rattle.reply.specs.Reply.{Reply, in_entry, guard, then, met}
use Rattle.directory.specs.Repeat.{repeated_at}
use Rattle.directory.specs.declared.Directory.{Directory}
use Rattle.directory.specs.declared.Repeat.{Repeat}
use Rattle.entries.specs.Entry.{lead_in}
use Rattle.entries.specs.Part.{leads_to}
use Rattle.entries.specs.declared.Lead.{Lead}
use Rattle.flash.specs.Flash.{flash_directory}
use Rattle.efs.specs.Efs.{flash_pointer}
use Rattle.efs.specs.declared.Rules.{Rules}

-- in level one: where the directory pointer leads
abbrev pub repeats_one : Rules → (image : List ℕ) → Reply Repeat
repeats_one r image = then (flash_pointer r image) (λ p. repeated_at r.kind r.limit 1 image p.place.0)

-- in the level two that an entry of a directory leads to; what is wrong in the entry's location carries the entry
abbrev pub repeats_led : Rules → (image : List ℕ) → Directory → Lead → Reply Repeat
repeats_led r image d l = then (met (in_entry d.level l.index d.place.0) (leads_to r.window image d.place.0 l.entry)) (λ place. repeated_at r.kind r.limit 2 image place.0)

-- in the level two below a directory of level one: where its lowest entry of type 0x40 leads
abbrev pub repeats_below : Rules → (image : List ℕ) → Directory → Reply Repeat
repeats_below r image d = then (lead_in r.kind image d) (repeats_led r image d)

-- in level two: level one is good, and leads there
abbrev pub repeats_two : Rules → (image : List ℕ) → Reply Repeat
repeats_two r image = then (flash_directory r 1 image) (repeats_below r image)

-- in the directory of a level: the level number (9), then the image as for the directory itself
unfoldable pub flash_repeats : Rules → (level : ℕ) → (image : List ℕ) → Reply Repeat
flash_repeats r level image = guard (leb 1 level) 9 (guard (leb level 2) 9 (cond (eqb level 1) (repeats_one r image) (repeats_two r image)))

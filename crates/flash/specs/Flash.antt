-- The calls on a flash image from its directory pointer on: the directory of a level, its entries, their bytes, and the lookup in it. Assumes nothing: these are definitions.
use Rattle.std.specs.Prelude.{ℕ, List, cond, leb, eqb}
use Rattle.reply.specs.Reply.{Reply, given, refused, tested, in_entry, guard, then, met}
use Rattle.directory.specs.Directory.{directory_at}
use Rattle.entries.specs.Entry.{entry_in, lead_in, find_in}
use Rattle.entries.specs.Part.{leads_to, part_in}
use Rattle.window.specs.Length.{sized}
use Rattle.efs.specs.Efs.{pointer_in}
use Rattle.directory.specs.declared.Directory.{Directory}
use Rattle.efs.specs.declared.Rules.{Rules}
use Rattle.entries.specs.declared.Entry.{Entry}
use Rattle.entries.specs.declared.Match.{Match}
use Rattle.entries.specs.declared.Part.{Part}

-- the directory of level one: where the directory pointer leads
abbrev pub level_one : Rules → (image : List ℕ) → Reply Directory
level_one r image = then (pointer_in r image) (λ p. directory_at r.kind r.limit 1 image p.place.0)

-- the directory of level two that e, entry i of a directory, leads to; what is wrong in the entry's location carries the entry
abbrev pub level_two_at : Rules → (image : List ℕ) → Directory → (i : ℕ) → Entry → Reply Directory
level_two_at r image d i e = then (met (in_entry d.level i d.place.0) (leads_to r.window image d.place.0 e)) (λ place. directory_at r.kind r.limit 2 image place.0)

-- the directory of level two: where level one leads by its lowest entry of type 0x40; none: 8
abbrev pub level_two : Rules → (image : List ℕ) → Directory → Reply Directory
level_two r image d = then (lead_in r.kind image d) (λ l. level_two_at r image d l.index l.entry)

-- the directory of level one or two
abbrev pub level_of : Rules → (level : ℕ) → (image : List ℕ) → Reply Directory
level_of r level image = cond (eqb level 1) (level_one r image) (then (level_one r image) (level_two r image))

-- the directory of a level: the level number (9), the image length (15), then the EFS and on
unfoldable pub flash_directory : Rules → (level : ℕ) → (image : List ℕ) → Reply Directory
flash_directory r level image =
    guard (leb 1 level) 9 (guard (leb level 2) 9  -- the level number (9)
    (sized image  -- the image length (15)
    (level_of r level image)))

-- entry i of the directory of a level
abbrev pub flash_entry : Rules → (level : ℕ) → (image : List ℕ) → (i : ℕ) → Reply Entry
flash_entry r level image i = then (flash_directory r level image) (λ d. entry_in r.kind image d i)

-- where the bytes of entry i of the directory of a level lie
abbrev pub flash_part : Rules → (level : ℕ) → (image : List ℕ) → (i : ℕ) → Reply Part
flash_part r level image i = then (flash_directory r level image) (λ d. part_in r.kind r.window image d i)

-- from a lookup, 8 also carries the count of entries tested: 0 where the directory asked for is absent
abbrev pub from_lookup : {A : Type 0} → Reply A → Reply A
from_lookup (given a) = given a
from_lookup (refused number carried) = refused number (cond (eqb number 8) (tested 0) carried)

-- the lookup by type and subprogram in the directory of a level
abbrev pub flash_find : Rules → (level : ℕ) → (image : List ℕ) → (class sub : ℕ) → Reply Match
flash_find r level image class sub = then (from_lookup (flash_directory r level image)) (λ d. find_in r.kind image d class sub)

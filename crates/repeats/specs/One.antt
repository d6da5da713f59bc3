-- In a flash image no directory has two entries of one type and subprogram, and where one has, both are named. Assumes nothing: these are statements.
use Rattle.std.specs.Prelude.{ℕ, ◌<◌, ◌≡◌, List}
use Rattle.reply.specs.Reply.{Carried, given, refused}
use Rattle.directory.specs.declared.Directory.{Directory}
use Rattle.directory.specs.declared.Repeat.{Repeat}
use Rattle.entries.specs.Good.{Matches}
use Rattle.entries.specs.declared.Match.{Match}
use Rattle.efs.specs.Rules.{rules_of}
use Rattle.flash.specs.Flash.{flash_directory, flash_find}
use Rattle.repeats.specs.Repeats.{flash_repeats}

-- of the directory of a level, by document 01's reading
pub record OneOfEach : Type 0 where
  -- two entries that match are one
  pub once : (level : ℕ) (image : List ℕ) (d : Directory) → flash_directory (rules_of image) level image ≡ given d →
      (class sub i j : ℕ) → i < d.total → j < d.total → Matches (rules_of image).kind image d class sub i → Matches (rules_of image).kind image d class sub j → i ≡ j
  -- the lookup's match is the only one
  pub the_match : (level : ℕ) (image : List ℕ) (d : Directory) → flash_directory (rules_of image) level image ≡ given d →
      (class sub : ℕ) (m : Match) → flash_find (rules_of image) level image class sub ≡ given m → (j : ℕ) → j < d.total → Matches (rules_of image).kind image d class sub j → j ≡ m.index
  -- two entries are named of no directory but one that is refused with 18
  pub named : (level : ℕ) (image : List ℕ) (r : Repeat) → flash_repeats (rules_of image) level image ≡ given r → (carried : Carried) × (flash_directory (rules_of image) level image ≡ refused 18 carried)

-- All directories of a flash image: those that the walk of the whole-image lookup enters where nothing matches. Assumes nothing: these are definitions.
use Rattle.std.specs.Prelude.{ℕ, List, [], ◌∷◌, ◌++◌, length}
use Rattle.reply.specs.Reply.{Reply, given, refused, then}
use Rattle.directory.specs.declared.Directory.{Directory}
use Rattle.efs.specs.declared.Rules.{Rules}
use Rattle.flash.specs.Flash.{flash_directory}
use Rattle.walk.specs.Walk.{Step, enter, test, fault, walk_of}
use Rattle.flash_words.specs.Images.{lay_directory}

-- a directory that a walk enters, and the index of the entry that led there; level one, to which no entry leads, has 0
pub record Entered : Type 0 where
  pub directory : Directory
  pub lead : ℕ

-- the directories that a walk enters, in its order, where entry `last` was tested last; the first fault is the answer
unfoldable pub entered_in : List Step → (last : ℕ) → Reply (List Entered)
entered_in [] last = given []
entered_in (enter d ∷ steps) last = then (entered_in steps last) (λ behind. given (record { directory = d; lead = last } ∷ behind))
entered_in (test d i ∷ steps) last = entered_in steps i
entered_in (fault number carried ∷ steps) last = refused number carried

-- all directories of an image: those of its whole walk
abbrev pub flash_directories : Rules → (image : List ℕ) → Reply (List Entered)
flash_directories r image = then (flash_directory r 1 image) (λ d. entered_in (walk_of 1 r image d) 0)

-- a directory that is entered, laid out: its place, level and total, and the entry that led there
abbrev pub lay_entered : Entered → List ℕ
lay_entered e = lay_directory e.directory ++ (e.lead ∷ [])

-- one after the other
unfoldable pub lay_rows : List Entered → List ℕ
lay_rows [] = []
lay_rows (e ∷ behind) = lay_entered e ++ lay_rows behind

-- all directories laid out: how many they are, then each
abbrev pub lay_directories : List Entered → List ℕ
lay_directories found = length found ∷ lay_rows found

-- The lookup in the whole image: the walk through its directories as a list of steps, and the first match among them. Assumes nothing: these are definitions.
use Rattle.std.specs.Prelude.{ℕ, zero, suc, ◌+◌, List, [], ◌∷◌, ◌++◌, cond, eqb}
use Rattle.reply.specs.Reply.{Reply, Carried, given, refused, tested, then}
use Rattle.entries.specs.Entry.{entry_of, matches}
use Rattle.directory.specs.declared.Kind.{Kind}
use Rattle.directory.specs.declared.Directory.{Directory}
use Rattle.efs.specs.declared.Rules.{Rules}
use Rattle.entries.specs.declared.Entry.{Entry}
use Rattle.flash.specs.Flash.{level_two_at, flash_directory, from_lookup}
use Rattle.walk.specs.declared.ImageMatch.{ImageMatch}

-- a step of a walk: a directory is entered, entry i of a directory is tested, or what an entry leads to is refused
pub data Step : Type 0 where
  enter : Directory → Step
  test : Directory → (i : ℕ) → Step
  fault : (number : ℕ) → Carried → Step

-- the m entries from index i on of a directory: each is tested first, then what it leads to is walked before the next
unfoldable pub entries_from : (below : (i : ℕ) → Entry → List Step) → Kind → (image : List ℕ) → Directory → (m i : ℕ) → List Step
entries_from below kind image d zero i = []
entries_from below kind image d (suc m) i = test d i ∷ (below i (entry_of kind image d i) ++ entries_from below kind image d m (i + 1))

-- a directory that was checked is walked; one that was refused is a fault
abbrev pub walked_by : (walk : Directory → List Step) → Reply Directory → List Step
walked_by walk (given d) = walk d
walked_by walk (refused number carried) = fault number carried ∷ []

-- what e, entry i of a directory, leads to, with so many levels left below: a 0x40 entry to the level-two directory at its location, any other to nothing
unfoldable pub below_of : (depth : ℕ) → Rules → (image : List ℕ) → Directory → (i : ℕ) → Entry → List Step
below_of zero r image d i e = []
below_of (suc depth) r image d i e =
    cond (eqb e.class r.kind.lead)
    (walked_by (λ n. enter n ∷ entries_from (below_of depth r image n) r.kind image n n.total 0) (level_two_at r image d i e))
    []

-- the walk of the m entries from index i on of a directory, with so many levels left below
abbrev pub walk_from : (depth : ℕ) → Rules → (image : List ℕ) → Directory → (m i : ℕ) → List Step
walk_from depth r image d m i = entries_from (below_of depth r image d) r.kind image d m i

-- the walk of a directory
abbrev pub walk_of : (depth : ℕ) → Rules → (image : List ℕ) → Directory → List Step
walk_of depth r image d = enter d ∷ walk_from depth r image d d.total 0

-- the first match or fault in a walk, where t entries were tested before; no match: 8 with the count of entries tested
unfoldable pub first_in : Kind → (image : List ℕ) → (class sub : ℕ) → List Step → (t : ℕ) → Reply ImageMatch
first_in kind image class sub [] t = refused 8 (tested t)
first_in kind image class sub (enter d ∷ steps) t = first_in kind image class sub steps t
first_in kind image class sub (test d i ∷ steps) t =
    cond (matches (entry_of kind image d i) class sub)
    (given (record { place = d.place; level = d.level; index = i; tested = t + 1 }))
    (first_in kind image class sub steps (t + 1))
first_in kind image class sub (fault number carried ∷ steps) t = refused number carried

-- the lookup in the whole image: level one, with one level below it
abbrev pub find_image : Rules → (image : List ℕ) → (class sub : ℕ) → Reply ImageMatch
find_image r image class sub = then (from_lookup (flash_directory r 1 image)) (λ d. first_in r.kind image class sub (walk_of 1 r image d) 0)

-- What the lookup in the whole image answers, as plain facts about the walk. Assumes nothing: these are statements.
use Rattle.std.specs.Prelude.{ℕ, ◌+◌, ◌≤◌, ◌≡◌, List, [], ◌∷◌, ◌++◌}
use Rattle.reply.specs.Reply.{Reply, Carried, given, refused, tested, OneToOne, told_search}
use Rattle.entries.specs.Good.{Matches}
use Rattle.directory.specs.declared.Kind.{Kind}
use Rattle.directory.specs.declared.Directory.{Directory}
use Rattle.efs.specs.declared.Rules.{Rules}
use Rattle.flash.specs.Flash.{flash_directory}
use Rattle.walk.specs.Walk.{Step, enter, test, fault, walk_of, first_in, find_image}
use Rattle.walk.specs.declared.ImageMatch.{ImageMatch}

-- the entries tested in some steps
unfoldable pub tests : List Step → ℕ
tests [] = 0
tests (enter d ∷ steps) = tests steps
tests (test d i ∷ steps) = 1 + tests steps
tests (fault number carried ∷ steps) = tests steps

-- the sum of the totals of the directories entered in some steps, each time entered
unfoldable pub totals : List Step → ℕ
totals [] = 0
totals (enter d ∷ steps) = d.total + totals steps
totals (test d i ∷ steps) = totals steps
totals (fault number carried ∷ steps) = totals steps

-- steps with no fault, in which no entry that is tested matches
unfoldable pub Quiet : Kind → (image : List ℕ) → (class sub : ℕ) → List Step → Type 0
Quiet kind image class sub [] = Unit
Quiet kind image class sub (enter d ∷ steps) = Quiet kind image class sub steps
Quiet kind image class sub (test d i ∷ steps) = (Matches kind image d class sub i → ⊥) × Quiet kind image class sub steps
Quiet kind image class sub (fault number carried ∷ steps) = ⊥

-- a match, with its directory's place and level, its index and the count
abbrev pub match_in : Directory → (i count : ℕ) → ImageMatch
match_in d i count = record { place = d.place; level = d.level; index = i; tested = count }

-- how some steps are answered: by the first match, by a fault before any match, or, where there is neither, by 8 with the count
pub data Answered (kind : Kind) (image : List ℕ) (class sub : ℕ) (steps : List Step) (answer : Reply ImageMatch) : Type 0 where
  matched : (before after : List Step) (d : Directory) (i : ℕ) → steps ≡ before ++ (test d i ∷ after) → Quiet kind image class sub before → Matches kind image d class sub i →
      answer ≡ given (match_in d i (tests before + 1)) → Answered kind image class sub steps answer
  faulty : (before after : List Step) (number : ℕ) (carried : Carried) → steps ≡ before ++ (fault number carried ∷ after) → Quiet kind image class sub before →
      answer ≡ refused number carried → Answered kind image class sub steps answer
  ended : Quiet kind image class sub steps → answer ≡ refused 8 (tested (tests steps)) → Answered kind image class sub steps answer

-- the first match in the order of the walk, everything before it tested and unmatched
pub record FirstMatch : Type 0 where
  -- every walk is answered so
  pub answered : (kind : Kind) (image : List ℕ) (class sub : ℕ) (steps : List Step) → Answered kind image class sub steps (first_in kind image class sub steps 0)
  -- and what is so is the answer
  pub match : (kind : Kind) (image : List ℕ) (class sub : ℕ) (before after : List Step) (d : Directory) (i : ℕ) → Quiet kind image class sub before → Matches kind image d class sub i →
      first_in kind image class sub (before ++ (test d i ∷ after)) 0 ≡ given (match_in d i (tests before + 1))
  pub stop : (kind : Kind) (image : List ℕ) (class sub : ℕ) (before after : List Step) (number : ℕ) (carried : Carried) → Quiet kind image class sub before →
      first_in kind image class sub (before ++ (fault number carried ∷ after)) 0 ≡ refused number carried
  pub absent : (kind : Kind) (image : List ℕ) (class sub : ℕ) (steps : List Step) → Quiet kind image class sub steps →
      first_in kind image class sub steps 0 ≡ refused 8 (tested (tests steps))

-- the count is at most the sum of the totals of the directories entered, each time entered; where the walk is walked to its end it is that sum
pub record CountBound : Type 0 where
  pub within : (depth : ℕ) (r : Rules) (image : List ℕ) (d : Directory) (before after : List Step) → walk_of depth r image d ≡ before ++ after → tests before ≤ totals before
  pub whole : (depth : ℕ) (r : Rules) (image : List ℕ) (d : Directory) → tests (walk_of depth r image d) ≡ totals (walk_of depth r image d)

-- the match that a lookup in the whole image gives: the first in the walk of level one
pub record FirstInImage (r : Rules) (image : List ℕ) (class sub : ℕ) (f : ImageMatch) : Type 0 where
  pub top : Directory
  pub opened : flash_directory r 1 image ≡ given top
  pub before : List Step
  pub after : List Step
  pub d : Directory
  pub walk : walk_of 1 r image top ≡ before ++ (test d f.index ∷ after)
  pub unmatched : Quiet r.kind image class sub before
  pub here : Matches r.kind image d class sub f.index
  pub place : f.place ≡ d.place
  pub level : f.level ≡ d.level
  pub count : f.tested ≡ tests before + 1
  pub bound : f.tested ≤ totals before

pub record ImageLookup : Type 0 where
  -- exactly the first match is given
  pub only : (r : Rules) (image : List ℕ) (class sub : ℕ) (f : ImageMatch) → find_image r image class sub ≡ given f → FirstInImage r image class sub f
  pub all : (r : Rules) (image : List ℕ) (class sub : ℕ) (f : ImageMatch) → FirstInImage r image class sub f → find_image r image class sub ≡ given f
  -- where nothing matches and nothing is at fault, the count is the sum of the totals
  pub absent : (r : Rules) (image : List ℕ) (class sub : ℕ) (top : Directory) → flash_directory r 1 image ≡ given top →
      Quiet r.kind image class sub (walk_of 1 r image top) →
      find_image r image class sub ≡ refused 8 (tested (totals (walk_of 1 r image top)))

-- no two answers of the lookup tell the same
abbrev pub FoundApart : Type 0
FoundApart = OneToOne (told_search {A = ImageMatch})

-- What the lookup in the whole image answers, told by places. Assumes nothing: these are statements.
use Rattle.std.specs.Prelude.{ℕ, ◌≤◌, ◌≡◌, List}
use Rattle.reply.specs.Reply.{Reply, Carried, given, refused, tested}
use Rattle.reply.specs.Scan.{Lowest, None}
use Rattle.directory.specs.declared.Directory.{Directory}
use Rattle.entries.specs.declared.Match.{Match}
use Rattle.entries.specs.Good.{Leads, Matches}
use Rattle.efs.specs.declared.Rules.{Rules}
use Rattle.flash.specs.Flash.{flash_directory, flash_find}
use Rattle.walk.specs.Walk.{find_image}
use Rattle.walk.specs.declared.ImageMatch.{ImageMatch}
use Rattle.walk_places.specs.Places.{Spot, below, inner, level_at, FaultAt, MatchAt, Reached, spots_to, all_spots, totals_to}

-- a lookup in the whole image
abbrev pub Find : Type 0
Find = Rules → (image : List ℕ) → (class sub : ℕ) → Reply ImageMatch

-- ---- the three cases, of an image whose level one is d
-- f is the match at the spot p, the first that matches, with the count of the spots up to it
pub record FirstMatch (r : Rules) (image : List ℕ) (d : Directory) (class sub : ℕ) (p : Spot) (f : ImageMatch) : Type 0 where
  pub reached : Reached r image d class sub p
  pub match : MatchAt r image d class sub p
  pub place : f.place ≡ match.directory.place
  pub level : f.level ≡ level_at p
  pub index : f.index ≡ inner p
  pub count : f.tested ≡ spots_to r image d p

-- entry i of level one is the first lead at fault, and no entry up to it matches
pub record FirstFault (r : Rules) (image : List ℕ) (d : Directory) (class sub i number : ℕ) (carried : Carried) : Type 0 where
  pub reached : Reached r image d class sub (below i 0)
  pub here : FaultAt r image d i number carried

-- nothing matches, and no lead is at fault
pub record Nothing (r : Rules) (image : List ℕ) (d : Directory) (class sub : ℕ) : Type 0 where
  pub unmatched : (p : Spot) → MatchAt r image d class sub p → ⊥
  pub sound : (i number : ℕ) (carried : Carried) → FaultAt r image d i number carried → ⊥

pub data Answered (r : Rules) (image : List ℕ) (d : Directory) (class sub : ℕ) (answer : Reply ImageMatch) : Type 0 where
  matched : (p : Spot) (f : ImageMatch) → FirstMatch r image d class sub p f → answer ≡ given f → Answered r image d class sub answer
  faulty : (i number : ℕ) (carried : Carried) → FirstFault r image d class sub i number carried → answer ≡ refused number carried → Answered r image d class sub answer
  ended : Nothing r image d class sub → answer ≡ refused 8 (tested (all_spots r image d)) → Answered r image d class sub answer

-- a match of a lookup in level one, as one of the lookup in the whole image
abbrev pub in_level_one : Directory → Reply Match → Reply ImageMatch
in_level_one d (given m) = given (record { place = d.place; level = 1; index = m.index; tested = m.tested })
in_level_one d (refused number carried) = refused number carried

-- ---- what a lookup answers of an image whose level one is d
pub record Answers (find : Find) (r : Rules) (image : List ℕ) (class sub : ℕ) (d : Directory) : Type 0 where
  -- a match is given exactly where it is the first
  pub found : (p : Spot) (f : ImageMatch) → FirstMatch r image d class sub p f → find r image class sub ≡ given f
  pub found_only : (f : ImageMatch) → find r image class sub ≡ given f → (p : Spot) × FirstMatch r image d class sub p f
  -- the first fault before a match is the answer
  pub fault : (i number : ℕ) (carried : Carried) → FirstFault r image d class sub i number carried → find r image class sub ≡ refused number carried
  -- where there is neither, 8 with the count of all spots
  pub absent : Nothing r image d class sub → find r image class sub ≡ refused 8 (tested (all_spots r image d))
  -- there is no other case
  pub answered : Answered r image d class sub (find r image class sub)
  -- without a lead in level one it is the lookup in level one
  pub no_leads : None (Leads r.kind image d) d.total → find r image class sub ≡ in_level_one d (flash_find r 1 image class sub)

pub record Lookup (find : Find) : Type 0 where
  -- level one is refused: so is the lookup, and from a lookup 8, both pointers absent, carries the count 0
  pub no_pointer : (r : Rules) (image : List ℕ) (class sub : ℕ) (carried : Carried) → flash_directory r 1 image ≡ refused 8 carried → find r image class sub ≡ refused 8 (tested 0)
  pub no_level_one : (r : Rules) (image : List ℕ) (class sub number : ℕ) (carried : Carried) → (number ≡ 8 → ⊥) → flash_directory r 1 image ≡ refused number carried →
      find r image class sub ≡ refused number carried
  pub answers : (r : Rules) (image : List ℕ) (class sub : ℕ) (d : Directory) → flash_directory r 1 image ≡ given d → Answers find r image class sub d

-- all this holds of the definition, and it leaves no other answer
pub record ImageLookupByPlaces : Type 0 where
  pub holds : Lookup find_image
  pub settles : (find : Find) → Lookup find → (r : Rules) (image : List ℕ) (class sub : ℕ) → find r image class sub ≡ find_image r image class sub
  -- in its own directory the first match is the lowest
  pub lowest : (r : Rules) (image : List ℕ) (d : Directory) (class sub : ℕ) (p : Spot) (f : ImageMatch) (m : FirstMatch r image d class sub p f) →
      Lowest (Matches r.kind image m.match.directory class sub) m.match.directory.total f.index
  -- its count is at most the sum of the totals of the directories entered
  pub bound : (r : Rules) (image : List ℕ) (d : Directory) (class sub : ℕ) (p : Spot) (f : ImageMatch) → FirstMatch r image d class sub p f → f.tested ≤ totals_to r image d p

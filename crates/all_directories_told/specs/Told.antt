-- All directories of an image, told by the leads of level one. Assumes nothing: these are statements.
use Rattle.std.specs.Prelude.{ℕ, ◌+◌, ◌<◌, ◌≡◌, ◌⊎◌, List, [], ◌∷◌}
use Rattle.reply.specs.Reply.{Reply, Carried, given, refused, tested}
use Rattle.reply.specs.Scan.{All}
use Rattle.directory.specs.declared.Directory.{Directory}
use Rattle.efs.specs.declared.Rules.{Rules}
use Rattle.flash.specs.Flash.{flash_directory}
use Rattle.walk.specs.Walk.{find_image}
use Rattle.walk_places.specs.Places.{Enters, FaultAt}
use Rattle.all_directories.specs.AllDirectories.{Entered, flash_directories}

-- a call that lists all directories of an image
abbrev pub ListAll : Type 0
ListAll = Rules → (image : List ℕ) → Reply (List Entered)

-- ---- lists
-- e stands in a list
abbrev pub In : (e : Entered) → List Entered → Type 0
In e [] = ⊥
In e (x ∷ rest) = (x ≡ e) ⊎ In e rest

-- each lead is above those before it, so that none stands there twice
abbrev pub Rising : List Entered → Type 0
Rising [] = Unit {0}
Rising (e ∷ later) = All (λ x. e.lead < x.lead) later × Rising later

-- the sum of the totals
unfoldable pub totals_of : List Entered → ℕ
totals_of [] = 0
totals_of (e ∷ rest) = e.directory.total + totals_of rest

-- ---- of an image whose level one is d
-- no lead is at fault
abbrev pub Sound : Rules → (image : List ℕ) → (d : Directory) → Type 0
Sound r image d = (i number : ℕ) (carried : Carried) → FaultAt r image d i number carried → ⊥

-- entry i is the lowest lead at fault
pub record LowestFault (r : Rules) (image : List ℕ) (d : Directory) (i number : ℕ) (carried : Carried) : Type 0 where
  pub here : FaultAt r image d i number carried
  pub earlier : (k other : ℕ) (with : Carried) → k < i → FaultAt r image d k other with → ⊥

-- what is found is level one, and behind it what each lead leads to, in the order of the leads
pub record Listed (r : Rules) (image : List ℕ) (d : Directory) (found : List Entered) : Type 0 where
  pub behind : List Entered
  pub first : found ≡ record { directory = d; lead = 0 } ∷ behind
  pub only : All (λ e. Enters r image d e.lead e.directory) behind
  pub every : (i : ℕ) (n : Directory) → Enters r image d i n → In (record { directory = n; lead = i }) behind
  pub rising : Rising behind

pub record Answers (list : ListAll) (r : Rules) (image : List ℕ) (d : Directory) : Type 0 where
  -- they are given exactly where no lead is at fault
  pub sound : Sound r image d → (found : List Entered) × (list r image ≡ given found)
  pub sound_only : (found : List Entered) → list r image ≡ given found → Sound r image d
  pub listed : (found : List Entered) → list r image ≡ given found → Listed r image d found
  -- else the lowest lead at fault decides
  pub fault : (i number : ℕ) (carried : Carried) → LowestFault r image d i number carried → list r image ≡ refused number carried
  pub fault_only : (number : ℕ) (carried : Carried) → list r image ≡ refused number carried → (i : ℕ) × LowestFault r image d i number carried

pub record Listing (list : ListAll) : Type 0 where
  -- level one is refused: so is the list, with the same number and what it carries
  pub no_level_one : (r : Rules) (image : List ℕ) (number : ℕ) (carried : Carried) → flash_directory r 1 image ≡ refused number carried → list r image ≡ refused number carried
  pub answers : (r : Rules) (image : List ℕ) (d : Directory) → flash_directory r 1 image ≡ given d → Answers list r image d

-- all this holds of the definition, and it leaves no other answer
pub record AllDirectoriesTold : Type 0 where
  pub holds : Listing flash_directories
  pub settles : (list : ListAll) → Listing list → (r : Rules) (image : List ℕ) → list r image ≡ flash_directories r image
  -- a lookup in the whole image that finds nothing has tested as many entries as they have together
  pub counted : (r : Rules) (image : List ℕ) (class sub count : ℕ) (found : List Entered) → flash_directories r image ≡ given found →
      find_image r image class sub ≡ refused 8 (tested count) → count ≡ totals_of found

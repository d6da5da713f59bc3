-- The places where the lookup in the whole image may find a match, their order, and what holds at each by the image's bytes. Assumes nothing: these are definitions.
use Rattle.std.specs.Prelude.{ℕ, zero, suc, ◌+◌, ◌<◌, ◌≤◌, ◌≡◌, ◌⊎◌, List, cond, eqb}
use Rattle.reply.specs.Reply.{Reply, Carried, given, refused}
use Rattle.directory.specs.declared.Directory.{Directory}
use Rattle.entries.specs.Entry.{entry_of}
use Rattle.entries.specs.Good.{Leads, Matches}
use Rattle.efs.specs.declared.Rules.{Rules}
use Rattle.flash.specs.Flash.{level_two_at}

-- ---- spots
-- entry i of level one, and entry j of the directory that entry i of level one leads to
pub data Spot : Type 0 where
  top : (i : ℕ) → Spot
  below : (i j : ℕ) → Spot

-- the order: an entry of level one, then what it leads to, then the next entry of level one
abbrev pub Earlier : (p q : Spot) → Type 0
Earlier (top i) (top k) = i < k
Earlier (top i) (below k l) = i ≤ k
Earlier (below i j) (top k) = i < k
Earlier (below i j) (below k l) = (i < k) ⊎ ((i ≡ k) × (j < l))

-- the index in level one
abbrev pub outer : Spot → ℕ
outer (top i) = i
outer (below i j) = i

-- the index in the spot's own directory, and that directory's level
abbrev pub inner : Spot → ℕ
inner (top i) = i
inner (below i j) = j

abbrev pub level_at : Spot → ℕ
level_at (top i) = 1
level_at (below i j) = 2

-- ---- what holds at a spot of an image whose level one is d
-- what entry i of level one leads to, once checked
abbrev pub led_to : Rules → (image : List ℕ) → (d : Directory) → (i : ℕ) → Reply Directory
led_to r image d i = level_two_at r image d i (entry_of r.kind image d i)

-- entry i of level one is a lead, and it leads to the good directory n of level two
pub record Enters (r : Rules) (image : List ℕ) (d : Directory) (i : ℕ) (n : Directory) : Type 0 where
  pub inside : i < d.total
  pub lead : Leads r.kind image d i
  pub directory : led_to r image d i ≡ given n

-- entry i of level one is a lead, and what it leads to is refused
pub record FaultAt (r : Rules) (image : List ℕ) (d : Directory) (i number : ℕ) (carried : Carried) : Type 0 where
  pub inside : i < d.total
  pub lead : Leads r.kind image d i
  pub fault : led_to r image d i ≡ refused number carried

-- the spot p is in the directory n
abbrev pub IsIn : Rules → (image : List ℕ) → (d : Directory) → Spot → (n : Directory) → Type 0
IsIn r image d (top i) n = (n ≡ d) × (i < n.total)
IsIn r image d (below i j) n = Enters r image d i n × (j < n.total)

-- the entry at the spot p has this type and subprogram
pub record MatchAt (r : Rules) (image : List ℕ) (d : Directory) (class sub : ℕ) (p : Spot) : Type 0 where
  pub directory : Directory
  pub is_in : IsIn r image d p directory
  pub here : Matches r.kind image directory class sub (inner p)

-- the walk comes to the spot p: no earlier spot matches, and no lead before it is at fault
pub record Reached (r : Rules) (image : List ℕ) (d : Directory) (class sub : ℕ) (p : Spot) : Type 0 where
  pub unmatched : (q : Spot) → Earlier q p → MatchAt r image d class sub q → ⊥
  pub sound : (k number : ℕ) (carried : Carried) → k < outer p → FaultAt r image d k number carried → ⊥

-- ---- how many spots there are
abbrev pub total_of : Reply Directory → ℕ
total_of (given n) = n.total
total_of (refused number carried) = 0

-- the total of the directory that entry i of level one leads to: 0 where it leads to none
abbrev pub total_below : Rules → (image : List ℕ) → (d : Directory) → (i : ℕ) → ℕ
total_below r image d i = cond (eqb (entry_of r.kind image d i).class r.kind.lead) (total_of (led_to r image d i)) 0

-- the sum of these for the first i entries
unfoldable pub totals_below : Rules → (image : List ℕ) → (d : Directory) → (i : ℕ) → ℕ
totals_below r image d zero = 0
totals_below r image d (suc i) = totals_below r image d i + total_below r image d i

-- the spots up to p and with it: entries of level one, the directories entered before, and those of its own directory
abbrev pub spots_to : Rules → (image : List ℕ) → (d : Directory) → Spot → ℕ
spots_to r image d (top i) = i + totals_below r image d i + 1
spots_to r image d (below i j) = i + 1 + totals_below r image d i + (j + 1)

-- all spots: the sum of the totals of all directories, each time that an entry leads to it
abbrev pub all_spots : Rules → (image : List ℕ) → (d : Directory) → ℕ
all_spots r image d = d.total + totals_below r image d d.total

-- the sum of the totals of the directories entered up to the spot p, each time entered
abbrev pub totals_to : Rules → (image : List ℕ) → (d : Directory) → Spot → ℕ
totals_to r image d (top i) = d.total + totals_below r image d i
totals_to r image d (below i j) = d.total + totals_below r image d (i + 1)

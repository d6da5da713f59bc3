-- What the walk's inner functions promise of one entry: cited by private contracts alone, so a reader may skip it. Assumes nothing: these are definitions.
use Rattle.std.specs.Prelude.{ℕ, ◌+◌, ◌-◌, ◌*◌, ◌^◌, ◌<◌, ◌≤◌, ◌≡◌, List, Bool, true, false, cond, eqb}
use Rattle.reply.specs.Reply.{Reply, given, refused, then}
use Rattle.entries.specs.Entry.{entry_in, matches}
use Rattle.directory.specs.declared.Directory.{Directory}
use Rattle.entries.specs.declared.Entry.{Entry}
use Rattle.flash.specs.Flash.{level_two_at}
use Rattle.window.specs.Length.{length_allowed}
use Rattle.walk.specs.Walk.{walk_from, first_in}
use Rattle.walk.specs.declared.ImageMatch.{ImageMatch}
use Rattle.walk.specs.declared.Search.{Search}
use Rattle.walk.specs.declared.Probe.{Probe}
use Rattle.walk.specs.declared.Probe.TheVariants as probe

-- what an entry leads to, once checked
abbrev pub entered : Reply Directory → Reply Probe
entered r = then r (λ n. given (probe.Enter n))

-- an entry that was read, tested: a match, a directory to enter if levels are left, or to be passed over
unfoldable pub probed : Search → (image : List ℕ) → (i : ℕ) → Entry → Reply Probe
probed by image i e =
    cond (matches e by.class by.sub) (given probe.Match)
    (cond (eqb e.class by.rules.kind.lead) (cond (eqb by.depth 0) (given probe.Pass) (entered (level_two_at by.rules image by.directory i e))) (given probe.Pass))

-- entry i of a directory
abbrev pub probe_of : Search → (image : List ℕ) → (i : ℕ) → Reply Probe
probe_of by image i = then (entry_in by.rules.kind image by.directory i) (probed by image i)

-- an entry that is passed by
abbrev pub is_pass : Reply Probe → Bool
is_pass (given probe.Match) = false
is_pass (given probe.Pass) = true
is_pass (given (probe.Enter n)) = false
is_pass (refused number carried) = false

-- what the entries of a directory from index i on answer, where so many entries were tested before
abbrev pub found_from : Search → (image : List ℕ) → (i tested : ℕ) → Reply ImageMatch
found_from by image i tested = first_in by.rules.kind image by.class by.sub (walk_from by.depth by.rules image by.directory (by.directory.total - i) i) tested

-- a directory is entered only with a level left, and has no more entries than the rules allow
abbrev pub Enterable : Search → Probe → Type 0
Enterable by probe.Match = Unit {0}
Enterable by probe.Pass = Unit {0}
Enterable by (probe.Enter n) = (0 < by.depth) × (n.total ≤ by.rules.limit)

-- what keeps the numbers of a walk small: the image's length, two levels, 512 entries in each directory, and so the count
pub record Small (by : Search) (image : List ℕ) (i tested : ℕ) : Type 0 where
  pub sized : length_allowed image ≡ true
  pub most : by.rules.limit ≤ 512
  pub levels : by.depth ≤ 1
  pub few : by.directory.total ≤ 512
  pub entries : i ≤ by.directory.total
  pub count : tested + (by.directory.total - i) * 513 + by.depth * 1_000_000 ≤ 2 ^ 31

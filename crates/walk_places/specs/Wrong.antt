-- Wrong lookups that the statement by places rules out, stated. The proofs stand in proofs/Wrong.antt. Assumes nothing: these are statements.
use Rattle.std.specs.Prelude.{ℕ, zero, suc, ◌+◌, List, [], ◌∷◌, ◌++◌, cond, eqb}
use Rattle.reply.specs.Reply.{given, refused, tested, then}
use Rattle.directory.specs.declared.Kind.{Kind}
use Rattle.directory.specs.declared.Directory.{Directory}
use Rattle.entries.specs.declared.Entry.{Entry}
use Rattle.entries.specs.Entry.{entry_of}
use Rattle.efs.specs.declared.Rules.{Rules}
use Rattle.flash.specs.Flash.{level_two_at, flash_directory, from_lookup}
use Rattle.walk.specs.Walk.{Step, enter, test, fault, walked_by, below_of, walk_of, first_in, find_image}
use Rattle.walk.specs.declared.ImageMatch.{ImageMatch}
use Rattle.walk_places.specs.Lookup.{Find, Lookup}

-- a lookup by another walk of level one
abbrev pub find_by : (Rules → (image : List ℕ) → Directory → List Step) → Find
find_by walk r image class sub = then (from_lookup (flash_directory r 1 image)) (λ d. first_in r.kind image class sub (walk r image d) 0)

-- each directory from its last entry to its first
unfoldable pub entries_back : (below : (i : ℕ) → Entry → List Step) → Kind → (image : List ℕ) → Directory → (m : ℕ) → List Step
entries_back below kind image d zero = []
entries_back below kind image d (suc m) = test d m ∷ (below m (entry_of kind image d m) ++ entries_back below kind image d m)

unfoldable pub below_back : (depth : ℕ) → Rules → (image : List ℕ) → Directory → (i : ℕ) → Entry → List Step
below_back zero r image d i e = []
below_back (suc depth) r image d i e =
    cond (eqb e.class r.kind.lead) (walked_by (λ n. entries_back (below_back depth r image n) r.kind image n n.total) (level_two_at r image d i e)) []

abbrev pub backwards : Find
backwards = find_by (λ r image d. entries_back (below_back 1 r image d) r.kind image d d.total)

-- level one alone
abbrev pub skips_level_two : Find
skips_level_two = find_by (walk_of 0)

-- a fault passed over
unfoldable pub faultless : List Step → List Step
faultless [] = []
faultless (enter d ∷ steps) = enter d ∷ faultless steps
faultless (test d i ∷ steps) = test d i ∷ faultless steps
faultless (fault number carried ∷ steps) = faultless steps

abbrev pub passes_faults : Find
passes_faults = find_by (λ r image d. faultless (walk_of 1 r image d))

-- all of level one, and what it leads to behind that
unfoldable pub below_all : (below : (i : ℕ) → Entry → List Step) → Kind → (image : List ℕ) → Directory → (m i : ℕ) → List Step
below_all below kind image d zero i = []
below_all below kind image d (suc m) i = below i (entry_of kind image d i) ++ below_all below kind image d m (i + 1)

abbrev pub level_one_first : Find
level_one_first = find_by (λ r image d. walk_of 0 r image d ++ below_all (below_of 1 r image d) r.kind image d d.total 0)

-- what an entry leads to before the entry
unfoldable pub entries_late : (below : (i : ℕ) → Entry → List Step) → Kind → (image : List ℕ) → Directory → (m i : ℕ) → List Step
entries_late below kind image d zero i = []
entries_late below kind image d (suc m) i = below i (entry_of kind image d i) ++ (test d i ∷ entries_late below kind image d m (i + 1))

abbrev pub enters_first : Find
enters_first = find_by (λ r image d. entries_late (below_of 1 r image d) r.kind image d d.total 0)

-- the match with a field changed
abbrev pub changed : (ImageMatch → ImageMatch) → Find
changed change r image class sub = then (find_image r image class sub) (λ f. given (change f))

abbrev pub index_zero : Find
index_zero = changed (λ f. record { place = f.place; level = f.level; index = 0; tested = f.tested })

abbrev pub made_up_count : Find
made_up_count = changed (λ f. record { place = f.place; level = f.level; index = f.index; tested = f.tested + 1 })

abbrev pub finds_nothing : Find
finds_nothing r image class sub = refused 8 (tested 0)

pub record RuledOut : Type 0 where
  pub walks_backwards : Lookup backwards → ⊥
  pub skips_level_two_lem : Lookup skips_level_two → ⊥
  pub passes_faults_lem : Lookup passes_faults → ⊥
  pub level_one_first_lem : Lookup level_one_first → ⊥
  pub enters_first_lem : Lookup enters_first → ⊥
  pub index_zero_lem : Lookup index_zero → ⊥
  pub made_up_count_lem : Lookup made_up_count → ⊥
  pub finds_nothing_lem : Lookup finds_nothing → ⊥

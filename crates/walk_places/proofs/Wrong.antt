-- Each wrong lookup answers something else of a small image. Assumes nothing.
use mathlib.Core.Path.{◌≡◌, ap}
use mathlib.Core.List.{List, [], ◌∷◌, ◌++◌}
use Prim.Native.Nat.{ℕ, ◌+◌, ◌*◌, ◌^◌}
use native.Mathlib.Omega.{arith}
use lib.ListN.{replicate}
use Rattle.le.specs.Le.{le_at, le_bytes}
use Rattle.fletcher.specs.Fletcher.{words_at, sum_of, weighted_of, fletcher_of}
use Rattle.reply.specs.Reply.{Reply, given, refused}
use Rattle.reply.specs.Scan.{scan}
use Rattle.reply.specs.Some.{some_below}
use Rattle.window.specs.Window.{base_window, offset_in}
use Rattle.directory.specs.Directory.{psp_kind, directory_checks}
use Rattle.entries.specs.Part.{leads_to}
use Rattle.efs.specs.declared.Rules.{Rules}
use Rattle.efs.specs.Efs.{candidate_at, pointer_to, pointer_of}
use Rattle.flash.specs.Flash.{flash_directory}
use Rattle.walk.specs.Walk.{entries_from, below_of, first_in, find_image}
use Rattle.walk.specs.declared.ImageMatch.{ImageMatch}
use Rattle.walk_places.specs.Lookup.{Find, Lookup}
use Rattle.walk_places.specs.Wrong.{entries_back, below_back, backwards, skips_level_two, faultless, passes_faults, below_all, level_one_first, entries_late, enters_first, index_zero, made_up_count, finds_nothing, RuledOut}
use Rattle.walk_places.proofs.Lookup.{image_lookup_by_places}

-- ---- an image with its EFS at 0, level one at 36 and level two at 84, each of two entries
abbrev rules : Rules
rules = record { kind = psp_kind; limit = 512; window = base_window; candidates = 0xFF00_0000 ∷ [] }

abbrev entry : (class mode location : ℕ) → List ℕ
entry class mode location = class ∷ 0 ∷ 0 ∷ 0 ∷ (le_bytes 4 0 ++ le_bytes 8 (mode * 2 ^ 62 + location))

abbrev directory : (cookie : ℕ) → List ℕ → List ℕ
directory cookie entries = let body = le_bytes 4 2 ++ (le_bytes 4 0 ++ entries) in le_bytes 4 cookie ++ (le_bytes 4 (fletcher_of body) ++ body)

abbrev image_with : (mode : ℕ) → List ℕ
image_with mode =
    0xAA ∷ 0x55 ∷ 0xAA ∷ 0x55 ∷ (replicate 16 0 ++ (le_bytes 4 36 ++ (replicate 12 0
    ++ (directory 0x5053_5024 (entry 0x40 mode 84 ++ entry 1 0 0)
    ++ directory 0x324C_5024 (entry 2 0 0 ++ entry 1 0 0)))))

-- the number of an answer, or a field of its match
abbrev told : (ImageMatch → ℕ) → Reply ImageMatch → ℕ
told field (given f) = field f
told field (refused number carried) = number

-- what a lookup that fits the statement answers of type 1 there
answer : (find : Find) → Lookup find → (mode : ℕ) → find rules (image_with mode) 1 0 ≡ find_image rules (image_with mode) 1 0
answer find w mode = image_lookup_by_places.settles find w rules (image_with mode) 1 0

-- the match in level one's last entry, where the first leads to one
walks_backwards : Lookup backwards → ⊥
unfolding le_at le_bytes words_at sum_of weighted_of fletcher_of scan some_below offset_in directory_checks leads_to candidate_at pointer_to pointer_of flash_directory entries_from below_of first_in entries_back below_back
walks_backwards w = let z : ◌≡◌ {A = ℕ} 1 2 = ap (told (λ f. f.level)) (answer backwards w 1) in omega arith

skips_level_two_lem : Lookup skips_level_two → ⊥
unfolding le_at le_bytes words_at sum_of weighted_of fletcher_of scan some_below offset_in directory_checks leads_to candidate_at pointer_to pointer_of flash_directory entries_from below_of first_in
skips_level_two_lem w = let z : ◌≡◌ {A = ℕ} 1 2 = ap (told (λ f. f.level)) (answer skips_level_two w 1) in omega arith

-- mode 3: 16, and not the match behind it
passes_faults_lem : Lookup passes_faults → ⊥
unfolding le_at le_bytes words_at sum_of weighted_of fletcher_of scan some_below offset_in directory_checks leads_to candidate_at pointer_to pointer_of flash_directory entries_from below_of first_in faultless
passes_faults_lem w = let z : ◌≡◌ {A = ℕ} 1 16 = ap (told (λ f. f.level)) (answer passes_faults w 3) in omega arith

level_one_first_lem : Lookup level_one_first → ⊥
unfolding le_at le_bytes words_at sum_of weighted_of fletcher_of scan some_below offset_in directory_checks leads_to candidate_at pointer_to pointer_of flash_directory entries_from below_of first_in below_all
level_one_first_lem w = let z : ◌≡◌ {A = ℕ} 1 2 = ap (told (λ f. f.level)) (answer level_one_first w 1) in omega arith

-- a count that leaves the lead out
enters_first_lem : Lookup enters_first → ⊥
unfolding le_at le_bytes words_at sum_of weighted_of fletcher_of scan some_below offset_in directory_checks leads_to candidate_at pointer_to pointer_of flash_directory entries_from below_of first_in entries_late
enters_first_lem w = let z : ◌≡◌ {A = ℕ} 2 3 = ap (told (λ f. f.tested)) (answer enters_first w 1) in omega arith

index_zero_lem : Lookup index_zero → ⊥
unfolding le_at le_bytes words_at sum_of weighted_of fletcher_of scan some_below offset_in directory_checks leads_to candidate_at pointer_to pointer_of flash_directory entries_from below_of first_in
index_zero_lem w = let z : ◌≡◌ {A = ℕ} 0 1 = ap (told (λ f. f.index)) (answer index_zero w 1) in omega arith

made_up_count_lem : Lookup made_up_count → ⊥
unfolding le_at le_bytes words_at sum_of weighted_of fletcher_of scan some_below offset_in directory_checks leads_to candidate_at pointer_to pointer_of flash_directory entries_from below_of first_in
made_up_count_lem w = let z : ◌≡◌ {A = ℕ} 4 3 = ap (told (λ f. f.tested)) (answer made_up_count w 1) in omega arith

finds_nothing_lem : Lookup finds_nothing → ⊥
unfolding le_at le_bytes words_at sum_of weighted_of fletcher_of scan some_below offset_in directory_checks leads_to candidate_at pointer_to pointer_of flash_directory entries_from below_of first_in
finds_nothing_lem w = let z : ◌≡◌ {A = ℕ} 8 2 = ap (told (λ f. f.level)) (answer finds_nothing w 1) in omega arith

pub ruled_out : RuledOut
ruled_out = record {
  walks_backwards = walks_backwards;
  skips_level_two_lem = skips_level_two_lem;
  passes_faults_lem = passes_faults_lem;
  level_one_first_lem = level_one_first_lem;
  enters_first_lem = enters_first_lem;
  index_zero_lem = index_zero_lem;
  made_up_count_lem = made_up_count_lem;
  finds_nothing_lem = finds_nothing_lem;
}

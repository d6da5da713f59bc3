-- That all entries at once are, row by row, what the calls on single entries answer. Assumes nothing: these are statements.
use Rattle.std.specs.Prelude.{ℕ, ◌+◌, ◌*◌, ◌<◌, ◌≡◌, List, length, take, drop}
use Rattle.reply.specs.Reply.{given}
use Rattle.directory.specs.declared.Directory.{Directory}
use Rattle.entries.specs.Entry.{entry_of}
use Rattle.entries.specs.declared.Part.{Part}
use Rattle.efs.specs.declared.Rules.{Rules}
use Rattle.place.specs.Place.{check_at, entry_at, part_at}
use Rattle.flash_words.specs.Images.{lay_directory}
use Rattle.all_entries.specs.AllEntries.{lay_part_or, lay_row, lay_entries}

-- the words of the directory d, which is given at a place
pub record RowByRow (r : Rules) (image : List ℕ) (place : ℕ) (d : Directory) : Type 0 where
  -- how many they are, and that the first three are the directory's
  pub words : length (lay_entries r image d) ≡ 3 + 8 * d.total
  pub head : take 3 (lay_entries r image d) ≡ lay_directory d
  -- for each entry, what the call on it gives; and its eight words are that entry and what the call on its part answers
  pub entry : (i : ℕ) → i < d.total → entry_at r image place i ≡ given (entry_of r.kind image d i)
  pub row : (i : ℕ) → i < d.total → take 8 (drop (3 + 8 * i) (lay_entries r image d)) ≡ lay_row (entry_of r.kind image d i) (part_at r image place i)

pub record RowsAsCalls : Type 0 where
  -- so it is by all rules, of every image and place
  pub every : (r : Rules) (image : List ℕ) (place : ℕ) (d : Directory) → check_at r image place ≡ given d → RowByRow r image place d
  -- two parts that are given and laid out alike are equal
  pub apart : (p q : Part) → lay_part_or (given p) ≡ lay_part_or (given q) → p ≡ q

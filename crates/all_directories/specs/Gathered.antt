-- What the inner functions promise of one entry of level one, and of the rows that they gather: cited by private contracts alone, so a reader may skip it. Assumes nothing: these are definitions.
use Rattle.std.specs.Prelude.{ℕ, ◌+◌, ◌*◌, ◌≡◌, List, ◌∷◌, Option, Some, None, cond, length, take, eqb}
use Rattle.reply.specs.Reply.{Reply, given, then}
use Rattle.directory.specs.declared.Directory.{Directory}
use Rattle.efs.specs.declared.Rules.{Rules}
use Rattle.entries.specs.Entry.{entry_of}
use Rattle.flash.specs.Flash.{level_two_at}
use Rattle.all_directories.specs.AllDirectories.{Entered, lay_rows}

-- the directory that entry i of level one leads to, or none where it is no lead
unfoldable pub led_by : Rules → (image : List ℕ) → Directory → (i : ℕ) → Reply (Option Directory)
led_by r image d i = cond (eqb (entry_of r.kind image d i).class r.kind.lead) (then (level_two_at r image d i (entry_of r.kind image d i)) (λ n. given (Some n))) (given None)

-- the words that so many rows take, with the word before them that tells how many they are
abbrev pub words_of : (count : ℕ) → ℕ
words_of count = 1 + 4 * count

-- the rows are those of all directories, behind a word that is still 0
abbrev pub RowsHeld : Reply (List Entered) → (rows : List ℕ) → Type 0
RowsHeld all rows = (found : List Entered) → all ≡ given found → take (words_of (length found)) rows ≡ 0 ∷ lay_rows found

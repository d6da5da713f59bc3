-- All entries of a directory in lent words, each with its part or the number that refuses it. Assumes nothing: these are definitions.
use Rattle.std.specs.Prelude.{ℕ, zero, suc, ◌+◌, List, [], ◌∷◌, ◌++◌}
use Rattle.reply.specs.Reply.{Reply, given, refused}
use Rattle.directory.specs.declared.Directory.{Directory}
use Rattle.entries.specs.Entry.{entry_of}
use Rattle.entries.specs.Part.{part_of}
use Rattle.entries.specs.declared.Entry.{Entry}
use Rattle.entries.specs.declared.Part.{Part}
use Rattle.efs.specs.declared.Rules.{Rules}
use Rattle.flash_words.specs.Images.{lay_directory, lay_entry, lay_part}

-- an entry's part in three words: its number, 0 where it is given, and where it begins and its length, 0 and 0 where it is refused
abbrev pub lay_part_or : Reply Part → List ℕ
lay_part_or (given p) = 0 ∷ lay_part p
lay_part_or (refused number carried) = number ∷ 0 ∷ 0 ∷ []

-- a row: an entry, and its part
abbrev pub lay_row : Entry → Reply Part → List ℕ
lay_row e part = lay_entry e ++ lay_part_or part

-- the row of entry i of a directory
abbrev pub row_at : Rules → (image : List ℕ) → Directory → (i : ℕ) → List ℕ
row_at r image d i = lay_row (entry_of r.kind image d i) (part_of r.kind r.window image d.place.0 (entry_of r.kind image d i))

-- the rows of the m entries from index i on
unfoldable pub rows_from : Rules → (image : List ℕ) → Directory → (m i : ℕ) → List ℕ
rows_from r image d zero i = []
rows_from r image d (suc m) i = row_at r image d i ++ rows_from r image d m (i + 1)

-- the directory, then a row for each of its entries
abbrev pub lay_entries : Rules → (image : List ℕ) → Directory → List ℕ
lay_entries r image d = lay_directory d ++ rows_from r image d d.total 0

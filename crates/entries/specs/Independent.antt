-- What lies outside a directory has no part in what is answered of its entries. Assumes nothing: these are statements.
use Rattle.std.specs.Prelude.{ℕ, ◌≤◌, ◌≡◌, List}
use Rattle.entries.specs.Entry.{entry_in, lead_in, find_in}
use Rattle.entries.specs.Part.{part_in}
use Rattle.directory.specs.declared.Kind.{Kind}
use Rattle.directory.specs.declared.Directory.{Directory}
use Rattle.directory.specs.Independent.{Agree, end_of}

-- images that agree on a directory's bytes have the same replies of its entries, given or refused
pub record SameEntries (kind : Kind) (image other : List ℕ) (d : Directory) : Type 0 where
  pub entry : (i : ℕ) → entry_in kind image d i ≡ entry_in kind other d i
  pub lead : lead_in kind image d ≡ lead_in kind other d
  pub lookup : (class sub : ℕ) → find_in kind image d class sub ≡ find_in kind other d class sub
  pub part : (window i : ℕ) → part_in kind window image d i ≡ part_in kind window other d i

-- of a kind whose entries have 16 bytes or more
abbrev pub EntriesIndependence : Type 0
EntriesIndependence = (kind : Kind) (image other : List ℕ) (d : Directory) → 16 ≤ kind.entry → Agree image other d.place.0 (end_of kind d) → SameEntries kind image other d

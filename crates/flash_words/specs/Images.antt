-- How what the calls on a flash image give is laid out in lent words. Assumes nothing: these are definitions.
use Rattle.std.specs.Prelude.{ℕ, List, [], ◌∷◌}
use Rattle.directory.specs.declared.Directory.{Directory}
use Rattle.directory.specs.declared.Repeat.{Repeat}
use Rattle.entries.specs.declared.Entry.{Entry}
use Rattle.entries.specs.declared.Part.{Part}
use Rattle.efs.specs.declared.Efs.{Efs}
use Rattle.efs.specs.declared.Pointer.{Pointer}

-- an EFS: its place, its early pointer and its late pointer
abbrev pub lay_efs : Efs → List ℕ
lay_efs e = e.place.0 ∷ e.early ∷ e.late ∷ []

-- a directory pointer: its field, its value, and where it leads
abbrev pub lay_pointer : Pointer → List ℕ
lay_pointer p = p.field ∷ p.value ∷ p.place.0 ∷ []

-- a directory: its place, level and total
abbrev pub lay_directory : Directory → List ℕ
lay_directory d = d.place.0 ∷ d.level ∷ d.total ∷ []

-- two entries that repeat: the one that does, the earlier one, and their type and subprogram
abbrev pub lay_repeat : Repeat → List ℕ
lay_repeat r = r.entry ∷ r.earlier ∷ r.class ∷ r.subprogram ∷ []

-- an entry: its type, subprogram, size, location and mode
abbrev pub lay_entry : Entry → List ℕ
lay_entry e = e.class ∷ e.subprogram ∷ e.size ∷ e.location ∷ e.mode ∷ []

-- a part: where it begins, and its length
abbrev pub lay_part : Part → List ℕ
lay_part p = p.place.0 ∷ p.length ∷ []

-- a view of a directory: the place where the directory begins
abbrev pub lay_place : Directory → List ℕ
lay_place d = d.place.0 ∷ []

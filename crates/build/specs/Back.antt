-- Both round trips: what is written reads back as given, and what was accepted, written again, has the same bytes. Assumes nothing: these are statements.
use Rattle.std.specs.Prelude.{ℕ, zero, suc, ◌+◌, ◌*◌, ◌^◌, ◌<◌, ◌≤◌, ◌≡◌, ◌⊎◌, List, [], ◌∷◌, ◌++◌, length, get_or, take, drop}
use Rattle.le.specs.Le.{put_bytes, Bytes}
use Rattle.reply.specs.Reply.{Reply, given, then}
use Rattle.reply.specs.Scan.{All}
use Rattle.directory.specs.Directory.{psp_kind, entry_place, directory_of, directory_by_cookie}
use Rattle.entries.specs.Entry.{entry_of}
use Rattle.directory.specs.declared.Directory.{Directory}
use Rattle.entries.specs.declared.Entry.{Entry}
use Rattle.build.specs.declared.Fields.{Fields}
use Rattle.build.specs.Accept.{Fits}
use Rattle.build.specs.Write.{directory_bytes, start_of, started_by, extend_of, extended_by}

-- the numbers have their widths, as in every value of the code; location and mode are checked
pub record Sized (f : Fields) : Type 0 where
  pub class : f.class < 2 ^ 8
  pub subprogram : f.subprogram < 2 ^ 8
  pub size : f.size < 2 ^ 32

-- no entry: what a place past the end of a list of entries counts as
abbrev pub blank : Fields
blank = record { class = 0; subprogram = 0; size = 0; location = 0; mode = 0 }

-- two entries of one type and subprogram
abbrev pub Same : Fields → Fields → Type 0
Same f g = (f.class ≡ g.class) × (f.subprogram ≡ g.subprogram)

-- no two are that
abbrev pub Apart : List Fields → Type 0
Apart fs = (i j : ℕ) → i < length fs → j < i → Same (get_or fs j blank) (get_or fs i blank) → ⊥

-- an entry that was read, as a writer is given it
abbrev pub fields_of : Entry → Fields
fields_of e = record { class = e.class; subprogram = e.subprogram; size = e.size; location = e.location; mode = e.mode }

-- what the reader tells of the m entries from index i on
unfoldable pub entries_from : (s : List ℕ) → Directory → (m i : ℕ) → List Fields
entries_from s d zero i = []
entries_from s d (suc m) i = fields_of (entry_of psp_kind s d i) ∷ entries_from s d m (i + 1)

-- what the reader tells of all entries of a directory, in order
abbrev pub entries_of : (s : List ℕ) → Directory → List Fields
entries_of s d = entries_from s d d.total 0

-- the reader finds at the start of s a good directory of this level with exactly these entries, in order
pub record Holds (level : ℕ) (fs : List Fields) (s : List ℕ) : Type 0 where
  pub good : directory_by_cookie psp_kind 512 s 0 ≡ given (directory_of 0 level (length fs))
  pub entries : entries_of s (directory_of 0 level (length fs)) ≡ fs

-- an extend for each entry, in order: the buffer after the last; a refusal ends it
unfoldable pub extend_all : List Fields → (s : List ℕ) → Reply (List ℕ)
extend_all [] s = given s
extend_all (f ∷ fs) s = then (extend_of f s) (λ total. extend_all fs (extended_by f s (given total)))

-- a start, then an extend for each entry
abbrev pub build_of : (level : ℕ) → List Fields → (s : List ℕ) → Reply (List ℕ)
build_of level fs s = then (start_of level s) (λ total. extend_all fs (started_by level s (given total)))

-- a directory of this level with these entries can be built in s
pub record Buildable (level : ℕ) (fs : List Fields) (s : List ℕ) : Type 0 where
  pub either : (level ≡ 1) ⊎ (level ≡ 2)
  pub few : length fs ≤ 512
  pub fits : All (Fits level) fs
  pub apart : Apart fs
  pub room : 16 + length fs * 16 ≤ length s

-- a start and its extends are all accepted exactly there; the directory's bytes then stand at the buffer's start, and every other byte is kept
pub record BuildAcceptance : Type 0 where
  pub only : (level : ℕ) (fs : List Fields) (s t : List ℕ) → All Sized fs → build_of level fs s ≡ given t → Buildable level fs s
  pub all : (level : ℕ) (fs : List Fields) (s : List ℕ) → All Sized fs → Buildable level fs s → build_of level fs s ≡ given (put_bytes (directory_bytes level fs) s 0)

-- what is written reads back
pub record ReadBack : Type 0 where
  -- a start: a good directory with no entries
  pub started : (level : ℕ) (s : List ℕ) (total : ℕ) → start_of level s ≡ given total → Holds level [] (started_by level s (given total))
  -- an extend: the entries before it as before, and the new one as given
  pub extended : (f : Fields) (s : List ℕ) (d : Directory) (total : ℕ) → Bytes s → Sized f → directory_by_cookie psp_kind 512 s 0 ≡ given d → extend_of f s ≡ given total →
      Holds d.level (entries_of s d ++ (f ∷ [])) (extended_by f s (given total))
  -- a start and any list of extends: the entries as given, in order
  pub built : (level : ℕ) (fs : List Fields) (s t : List ℕ) → All Sized fs → build_of level fs s ≡ given t → Holds level fs t

-- what was accepted is written again as it was
pub record WrittenAgain : Type 0 where
  -- an accepted directory has the bytes of its level and entries, and no other
  pub bytes : (s : List ℕ) (d : Directory) → Bytes s → directory_by_cookie psp_kind 512 s 0 ≡ given d → take (entry_place psp_kind 0 d.total) s ≡ directory_bytes d.level (entries_of s d)
  -- a start and an extend for each of its entries, in a buffer with room, whatever that holds: accepted, with the same bytes, and every byte behind them kept
  pub again : (s buffer : List ℕ) (d : Directory) → Bytes s → directory_by_cookie psp_kind 512 s 0 ≡ given d → entry_place psp_kind 0 d.total ≤ length buffer →
      build_of d.level (entries_of s d) buffer ≡ given (take (entry_place psp_kind 0 d.total) s ++ drop (entry_place psp_kind 0 d.total) buffer)

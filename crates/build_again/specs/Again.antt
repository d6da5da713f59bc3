-- A directory of an image, wherever it stands, written again: the same bytes, which read back as it did. Assumes nothing: these are statements.
use Rattle.std.specs.Prelude.{ℕ, ◌+◌, ◌*◌, ◌≤◌, ◌≡◌, List, ◌++◌, length, take, drop}
use Rattle.le.specs.Le.{Bytes}
use Rattle.reply.specs.Reply.{Reply, Carried, given, refused, alone, tested, in_header, in_entry}
use Rattle.directory.specs.Directory.{psp_kind, directory_of, directory_at, directory_by_cookie}
use Rattle.directory.specs.declared.Kind.{Kind}
use Rattle.directory.specs.declared.Directory.{Directory}
use Rattle.entries.specs.Entry.{entry_in}
use Rattle.entries.specs.declared.Entry.{Entry}
use Rattle.efs.specs.Rules.{rules_of}
use Rattle.efs.specs.declared.Rules.{Rules}
use Rattle.flash.specs.Flash.{level_two_at, flash_directory}
use Rattle.build.specs.Write.{directory_bytes}
use Rattle.build.specs.Back.{entries_of, build_of}

-- a directory, told as if it began at 0; so is the directory that a refusal was met in, and the rest of a refusal stays
abbrev pub from_start : Directory → Directory
from_start d = directory_of 0 d.level d.total

abbrev pub met_from_start : Carried → Carried
met_from_start alone = alone
met_from_start (tested count) = tested count
met_from_start (in_header level directory) = in_header level 0
met_from_start (in_entry level index directory) = in_entry level index 0

abbrev pub told_from_start : Reply Directory → Reply Directory
told_from_start (given d) = given (from_start d)
told_from_start (refused number carried) = refused number (met_from_start carried)

-- the bytes before a directory have no part in it, nor has their number: what is answered at o is what is answered at the start of the bytes from o on
pub record ReadAlone : Type 0 where
  pub directory : (kind : Kind) (limit level : ℕ) (image : List ℕ) (o : ℕ) → directory_at kind limit level (drop o image) 0 ≡ told_from_start (directory_at kind limit level image o)
  pub by_cookie : (kind : Kind) (limit : ℕ) (image : List ℕ) (o : ℕ) → directory_by_cookie kind limit (drop o image) 0 ≡ told_from_start (directory_by_cookie kind limit image o)
  pub entry : (kind : Kind) (image : List ℕ) (d : Directory) (i : ℕ) → entry_in kind (drop d.place.0 image) (from_start d) i ≡ entry_in kind image d i

-- how many bytes a PSP directory takes: 16, and 16 for each entry
abbrev pub length_of : Directory → ℕ
length_of d = 16 + d.total * 16

-- the bytes of a directory, as they stand in its image
abbrev pub bytes_in : (image : List ℕ) → Directory → List ℕ
bytes_in image d = take (length_of d) (drop d.place.0 image)

-- the directory d of an image, written again
pub record WrittenAgain (image : List ℕ) (d : Directory) : Type 0 where
  -- it has the bytes of its level and entries, and no other
  pub bytes : bytes_in image d ≡ directory_bytes d.level (entries_of image d)
  -- a start and an extend for each of its entries, in order, in a buffer with room, whatever that holds: all accepted, with the same bytes, and every byte behind them kept
  pub again : (buffer : List ℕ) → length_of d ≤ length buffer → build_of d.level (entries_of image d) buffer ≡ given (bytes_in image d ++ drop (length_of d) buffer)
  -- whatever stands behind them, these bytes are read back by their cookie with the same level and total, and with the same fields of each entry
  pub back : (behind : List ℕ) → directory_by_cookie psp_kind 512 (bytes_in image d ++ behind) 0 ≡ given (from_start d)
  pub entries : (behind : List ℕ) → entries_of (bytes_in image d ++ behind) (from_start d) ≡ entries_of image d

-- rules by which PSP directories of at most 512 entries are read
pub record PspRules (r : Rules) : Type 0 where
  pub kind : r.kind ≡ psp_kind
  pub limit : r.limit ≤ 512

-- in an image of bytes, as every lent one is, a PSP directory that is accepted is written again so, whichever way leads to it
pub record AcceptedAgain : Type 0 where
  -- at an offset: of the level asked for, or of the level that its cookie names
  pub at : (level : ℕ) (image : List ℕ) (o : ℕ) (d : Directory) → Bytes image → directory_at psp_kind 512 level image o ≡ given d →
      (d.place.0 ≡ o) × (d.level ≡ level) × WrittenAgain image d
  pub by_cookie : (image : List ℕ) (o : ℕ) (d : Directory) → Bytes image → directory_by_cookie psp_kind 512 image o ≡ given d → (d.place.0 ≡ o) × WrittenAgain image d
  -- of level one by the directory pointer, or of level two by the lowest lead
  pub flash : (r : Rules) (level : ℕ) (image : List ℕ) (d : Directory) → PspRules r → Bytes image → flash_directory r level image ≡ given d → (d.level ≡ level) × WrittenAgain image d
  -- of level two by any lead, as the lookup in the whole image enters it
  pub led : (r : Rules) (image : List ℕ) (above : Directory) (i : ℕ) (e : Entry) (d : Directory) → PspRules r → Bytes image → level_two_at r image above i e ≡ given d → (d.level ≡ 2) × WrittenAgain image d
  -- the rules of every image are such
  pub rules : (image : List ℕ) → PspRules (rules_of image)

-- Of a place that a refusal carries: which field is wrong, what stands there and what should. Assumes nothing: these are definitions.
use Rattle.std.specs.Prelude.{ℕ, ◌+◌, ◌*◌, ◌-◌, List, [], ◌∷◌, cond, length, leb, eqb}
use Rattle.le.specs.Le.{bits_below}
use Rattle.le.specs.Field.{Field, get}
use Rattle.reply.specs.Reply.{Reply, Carried, given, refused, alone, tested, in_header, in_entry, guard}
use Rattle.window.specs.Length.{sized}
use Rattle.window.specs.Window.{within}
use Rattle.directory.specs.Header as header
use Rattle.directory.specs.Entry as entry
use Rattle.directory.specs.Directory.{cookie_of, total_at, entry_place, checksum_at, directory_at, directory_by_cookie}
use Rattle.directory.specs.Repeat.{earlier_of}
use Rattle.directory.specs.declared.Directory.{Directory}
use Rattle.entries.specs.Entry.{fields_at}
use Rattle.entries.specs.Part.{part_in}
use Rattle.efs.specs.declared.Rules.{Rules}
use Rattle.wrong.specs.declared.WrongField.{WrongField}

-- the level whose cookie is asked for: where none was found, level one's
abbrev pub asked : (level : ℕ) → ℕ
asked level = cond (eqb level 0) 1 level

-- too few bytes: how many there are from a place on, and how many there should be
abbrev pub few_bytes : (image : List ℕ) → (place bytes : ℕ) → WrongField
few_bytes image place bytes = record { number = 1; field = place; bytes = bytes; stands = length image - place; should = bytes }

-- a field of a structure that begins at a place: what stands in it, and what should
abbrev pub field_wrong : (number : ℕ) → Field → (image : List ℕ) → (place should : ℕ) → WrongField
field_wrong number f image place should = record { number = number; field = place + f.at; bytes = f.bytes; stands = get f image place; should = should }

-- 1: of the header where it is cut, else of the entries
abbrev pub short_wrong : Rules → (image : List ℕ) → (o : ℕ) → WrongField
short_wrong r image o =
    cond (leb (o + header.bytes) (length image))
    (few_bytes image (o + header.bytes) (total_at image o * r.kind.entry))
    (few_bytes image o header.bytes)

-- what is wrong in the header of the directory at o, by the number that refuses it
abbrev pub header_wrong : Rules → (image : List ℕ) → (number level o : ℕ) → WrongField
header_wrong r image number level o =
    cond (eqb number 1) (short_wrong r image o)
    (cond (eqb number 2) (field_wrong 2 header.cookie image o (cookie_of r.kind (asked level)))
    (cond (eqb number 3) (field_wrong 3 header.total image o r.limit)  -- at most
    (cond (eqb number 4) (field_wrong 4 header.checksum image o (checksum_at r.kind image o (total_at image o)))
    (field_wrong number header.reserved image o 0))))

-- what is wrong in entry i of the directory at o, by the number that refuses it
abbrev pub entry_wrong : Rules → (image : List ℕ) → (number i o : ℕ) → WrongField
entry_wrong r image number i o =
    let place = entry_place r.kind o i in
    cond (eqb number 5) (field_wrong 5 entry.flags image place (bits_below r.kind.used (get entry.flags image place)))
    (cond (eqb number 14) (field_wrong 14 entry.class image place 1)  -- the level where it may stand
    (cond (eqb number 18) (field_wrong 18 entry.class image place (earlier_of r.kind image o i))  -- the entry that it repeats
    (cond (eqb number 17) (field_wrong 17 entry.class image place r.kind.value)  -- the type that is a value
    (cond (eqb number 16) (record { number = 16; field = place + (entry.location).at; bytes = (entry.location).bytes; stands = (fields_at image place).mode; should = 2 })  -- at most
    (record { number = number; field = place + (entry.location).at; bytes = (entry.location).bytes; stands = (fields_at image place).location; should = length image })))))  -- where its bytes end at the latest

-- what is wrong where a refusal was met; one that carries no place is passed on
abbrev pub wrong_by : Rules → (image : List ℕ) → (number : ℕ) → Carried → Reply WrongField
wrong_by r image number alone = refused number alone
wrong_by r image number (tested count) = refused number alone
wrong_by r image number (in_header level o) = given (header_wrong r image number level o)
wrong_by r image number (in_entry level i o) = given (entry_wrong r image number i o)

-- what is wrong by a reply; nothing is: 8
abbrev pub wrong_of : {A : Type 0} → Rules → (image : List ℕ) → Reply A → Reply WrongField
wrong_of r image (given a) = refused 8 alone
wrong_of r image (refused number carried) = wrong_by r image number carried

-- the directory of a level at o, or, for level 0, of the level that its cookie names
abbrev pub at_level : Rules → (level : ℕ) → (image : List ℕ) → (o : ℕ) → Reply Directory
at_level r level image o = cond (eqb level 0) (directory_by_cookie r.kind r.limit image o) (directory_at r.kind r.limit level image o)

-- what is wrong in the directory; where it is given, in the location of its entry i
abbrev pub wrong_in : Rules → (image : List ℕ) → (i : ℕ) → Reply Directory → Reply WrongField
wrong_in r image i (given d) = wrong_of r image (part_in r.kind r.window image d i)
wrong_in r image i (refused number carried) = wrong_by r image number carried

-- what is wrong at a place: the level number (9), the image length (15), a place beyond the image (7); then by the checks of the directory there
unfoldable pub wrong_at : Rules → (image : List ℕ) → (place level i : ℕ) → Reply WrongField
wrong_at r image place level i = guard (leb level 2) 9 (sized image (within image place (wrong_in r image i (at_level r level image place))))

-- as five words
abbrev pub lay_wrong : WrongField → List ℕ
lay_wrong w = w.number ∷ w.field ∷ w.bytes ∷ w.stands ∷ w.should ∷ []

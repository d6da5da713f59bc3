-- Where an entry's location leads, and the bytes of an entry. Assumes nothing: these are definitions.
use Rattle.std.specs.Prelude.{ℕ, ◌+◌, List, [], not, cond, take, drop, eqb}
use Rattle.reply.specs.Reply.{Reply, given, refused, in_entry, guard, then, met}
use Rattle.window.specs.Window.{offset_in, within}
use Rattle.window.specs.declared.Offset.{Offset}
use Rattle.entries.specs.Entry.{entry_in}
use Rattle.directory.specs.declared.Kind.{Kind}
use Rattle.directory.specs.declared.Directory.{Directory}
use Rattle.entries.specs.declared.Entry.{Entry}
use Rattle.entries.specs.declared.Part.{Part}

-- a place in the image: one beyond it is refused (7)
abbrev pub place_in : (image : List ℕ) → (place : ℕ) → Reply Offset
place_in image place = within image place (given (record { 0 = place }))

-- where the location of entry e leads, in a directory at o, through a window of so many bytes
unfoldable pub leads_to : (window : ℕ) → (image : List ℕ) → (o : ℕ) → Entry → Reply Offset
leads_to window image o e =
    guard (not (eqb e.mode 3)) 16  -- mode 3 (16)
    (cond (eqb e.mode 0) (then (offset_in window e.location) (λ a. place_in image a.0))  -- mode 0 is physical
    (cond (eqb e.mode 1) (place_in image e.location)  -- mode 1 a flash offset
    (place_in image (o + e.location))))  -- mode 2 counts from o

-- the part of so many bytes at a place: it must end within the image (7)
unfoldable pub part_within : (image : List ℕ) → (size : ℕ) → (place : Offset) → Reply Part
part_within image size place = within image (place.0 + size) (given (record { place = place; length = size }))

-- where the bytes of entry e lie, in a directory at o
unfoldable pub part_of : Kind → (window : ℕ) → (image : List ℕ) → (o : ℕ) → Entry → Reply Part
part_of kind window image o e =
    guard (not (eqb e.class kind.value)) 17  -- type 0x0B is a value (17)
    (then (leads_to window image o e) (part_within image e.size))  -- its place (16, 7), its part (7)

-- where the bytes of entry i of a directory lie; what is wrong in the entry carries it
abbrev pub part_in : Kind → (window : ℕ) → (image : List ℕ) → Directory → (i : ℕ) → Reply Part
part_in kind window image d i = then (entry_in kind image d i) (λ e. met (in_entry d.level i d.place.0) (part_of kind window image d.place.0 e))

-- the bytes of a part; none where it is refused
abbrev pub bytes_of : (image : List ℕ) → Reply Part → List ℕ
bytes_of image (given p) = take p.length (drop p.place.0 image)
bytes_of image (refused number carried) = []

-- where a part begins in memory, of an image that begins at a block and an offset in it; where it is refused, at the image's begin
abbrev pub begin_of : (begin : ℕ × ℕ) → Reply Part → ℕ × ℕ
begin_of begin (given p) = (begin.0, p.place.0 + begin.1)
begin_of begin (refused number carried) = begin

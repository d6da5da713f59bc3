-- From a flash image to its EFS and its directory pointer, in document 01's words and order. Assumes nothing: these are definitions.
use Rattle.std.specs.Prelude.{ℕ, ◌+◌, List, Bool, not, ◌&&◌, ◌||◌, cond, length, get_or, leb, ltb, eqb}
use Rattle.le.specs.Field.{get}
use Rattle.reply.specs.Reply.{Reply, given, refused, alone, guard, then}
use Rattle.reply.specs.Scan.{scan}
use Rattle.window.specs.Window.{window_start, offset_in, within}
use Rattle.window.specs.declared.Offset.{Offset}
use Rattle.efs.specs.Fields as efs
use Rattle.window.specs.Length.{sized}
use Rattle.efs.specs.declared.Rules.{Rules}
use Rattle.efs.specs.declared.Efs.{Efs}
use Rattle.efs.specs.declared.Pointer.{Pointer}

-- an EFS counts at o if its 0x24 bytes lie in the image and start with aa 55 aa 55
abbrev pub counts : (image : List ℕ) → (o : ℕ) → Bool
counts image o = leb (o + efs.bytes) (length image) && eqb (get efs.signature image o) 0x55AA_55AA

-- a candidate at physical address a
unfoldable pub candidate_at : (window : ℕ) → (image : List ℕ) → (a : ℕ) → Reply Offset
candidate_at window image a = then (offset_in window a) (λ o. guard (counts image o.0) 2 (given o))

-- the first that is given
abbrev pub or_else : {A : Type 0} → Reply A → Reply A → Reply A
or_else (given a) rest = given a
or_else (refused number carried) rest = rest

-- candidate i, or what the candidates behind it answer
abbrev pub efs_step : (window : ℕ) → (candidates image : List ℕ) → (i : ℕ) → (rest : Reply Offset) → Reply Offset
efs_step window candidates image i rest = or_else (candidate_at window image (get_or candidates i 0)) rest

-- where the EFS is: the first candidate that counts; none: 2
abbrev pub efs_place : (window : ℕ) → (candidates image : List ℕ) → Reply Offset
efs_place window candidates image = scan (efs_step window candidates image) (λ _. refused 2 alone) (length candidates) 0

-- the EFS at o: its place, and its two directory pointers as they stand
abbrev pub efs_at : (image : List ℕ) → (o : Offset) → Efs
efs_at image o = record { place = o; early = get efs.early image o.0; late = get efs.late image o.0 }

-- the EFS of an image
abbrev pub efs_in : Rules → (image : List ℕ) → Reply Efs
efs_in r image = then (efs_place r.window r.candidates image) (λ o. given (efs_at image o))

-- a pointer of 0 or 0xFFFFFFFF is absent
abbrev pub absent : (p : ℕ) → Bool
absent p = eqb p 0 || eqb p 0xFFFF_FFFF

-- where pointer p leads
unfoldable pub pointer_to : (window : ℕ) → (image : List ℕ) → (p : ℕ) → Reply Offset
pointer_to window image p =
    cond (leb (window_start window) p) (then (offset_in window p) (λ o. within image o.0 (given o)))  -- at the window's begin or above: physical
    (guard (ltb p window) 7  -- neither that nor below the window's length (7)
    (within image p (given (record { 0 = p }))))  -- below the window's length: a flash offset

-- pointer p, which stands in a field of the EFS: the field, the pointer, and where it leads
abbrev pub pointer_from : (window : ℕ) → (image : List ℕ) → (field p : ℕ) → Reply Pointer
pointer_from window image field p = then (pointer_to window image p) (λ o. given (record { field = field; value = p; place = o }))

-- the directory pointer of EFS e: the one at 0x14, or, absent, the one at 0x10; both absent: 8
unfoldable pub pointer_of : (window : ℕ) → (image : List ℕ) → Efs → Reply Pointer
pointer_of window image e =
    cond (absent e.late)
    (guard (not (absent e.early)) 8 (pointer_from window image (efs.early).at e.early))
    (pointer_from window image (efs.late).at e.late)

-- the directory pointer of an image
abbrev pub pointer_in : Rules → (image : List ℕ) → Reply Pointer
pointer_in r image = then (efs_in r image) (pointer_of r.window image)

-- the two calls: the image length (15), then the EFS and its pointer
abbrev pub flash_efs : Rules → (image : List ℕ) → Reply Efs
flash_efs r image = sized image (efs_in r image)

abbrev pub flash_pointer : Rules → (image : List ℕ) → Reply Pointer
flash_pointer r image = sized image (pointer_in r image)

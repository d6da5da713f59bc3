-- How the checks look at the entries; no promise of a public function cites these. Assumes nothing: these are definitions.
use Rattle.std.specs.Prelude.{ℕ, ◌*◌, ◌/◌, ◌%◌, ◌^◌, List, Bool, not, cond, ◌&&◌, ◌||◌, ltb, eqb}
use Rattle.le.specs.Le.{le_at, bits_from}
use Rattle.reply.specs.Reply.{Reply, given, refused, in_entry}
use Rattle.directory.specs.Directory.{entry_place, reserved_zero, may_stand, repeats_earlier, directory_of}
use Rattle.directory.specs.declared.Kind.{Kind}
use Rattle.directory.specs.declared.Directory.{Directory}

-- the first four bytes of entry i, as a number
abbrev pub head_at : Kind → (image : List ℕ) → (o i : ℕ) → ℕ
head_at kind image o i = le_at 4 image (entry_place kind o i)

-- there are sixteen flags
abbrev pub flags_used : (used : ℕ) → ℕ
flags_used used = cond (ltb used 16) used 16

-- what the first four bytes of an entry are below where its flags from bit `used` up are zero
abbrev pub clear_below : (used : ℕ) → ℕ
clear_below used = 65536 * 2 ^ flags_used used

-- an entry that begins like this is at fault by itself: by 5 or 14
abbrev pub faulty_head : Kind → (level head : ℕ) → Bool
faulty_head kind level head = not (eqb (bits_from kind.used (head / 65536)) 0 && may_stand kind level (head % 256))

-- entry i is
abbrev pub faulty_at : Kind → (level : ℕ) → (image : List ℕ) → (o i : ℕ) → Bool
faulty_at kind level image o i = faulty_head kind level (head_at kind image o i)

-- entry i is at fault, by itself or since it repeats an earlier one
abbrev pub bad_at : Kind → (level : ℕ) → (image : List ℕ) → (o i : ℕ) → Bool
bad_at kind level image o i = faulty_at kind level image o i || repeats_earlier kind image o i

-- the answer of n entries by the first that is at fault by itself; where there is none, the directory
abbrev pub ended_at : Kind → (level : ℕ) → (image : List ℕ) → (o n end : ℕ) → Reply Directory
ended_at kind level image o n end = cond (ltb end n) (refused (cond (reserved_zero kind image o end) 14 5) (in_entry level end o)) (given (directory_of o level n))

-- Which entries of a directory repeat, for a message that names both. Assumes nothing: these are definitions.
use Rattle.std.specs.Prelude.{ℕ, List, cond, eqb}
use Rattle.reply.specs.Reply.{Reply, given, refused, alone}
use Rattle.reply.specs.Some.{first_below}
use Rattle.directory.specs.Directory.{total_at, class_at, subprogram_at, same_entry, repeats_earlier, directory_at}
use Rattle.directory.specs.declared.Kind.{Kind}
use Rattle.directory.specs.declared.Directory.{Directory}
use Rattle.directory.specs.declared.Repeat.{Repeat}

-- the first entry before i that has its type and subprogram, or i
abbrev pub earlier_of : Kind → (image : List ℕ) → (o i : ℕ) → ℕ
earlier_of kind image o i = first_below (same_entry kind image o i) i

-- entry i, the one before it that it repeats, and the type and subprogram that both have
abbrev pub repeat_of : Kind → (image : List ℕ) → (o i : ℕ) → Repeat
repeat_of kind image o i = record {
  entry = i;
  earlier = earlier_of kind image o i;
  class = class_at kind image o i;
  subprogram = subprogram_at kind image o i;
}

-- of n entries, the first that repeats an earlier one
abbrev pub repeat_in : Kind → (image : List ℕ) → (o n : ℕ) → Repeat
repeat_in kind image o n = repeat_of kind image o (first_below (repeats_earlier kind image o) n)

-- of the directory at o: the two entries where it is refused with 18; any other refusal as it is; 8 where it is given
abbrev pub named_by : Kind → (image : List ℕ) → (o : ℕ) → Reply Directory → Reply Repeat
named_by kind image o (given d) = refused 8 alone
named_by kind image o (refused number carried) = cond (eqb number 18) (given (repeat_in kind image o (total_at image o))) (refused number carried)

abbrev pub repeated_at : Kind → (limit level : ℕ) → (image : List ℕ) → (o : ℕ) → Reply Repeat
repeated_at kind limit level image o = named_by kind image o (directory_at kind limit level image o)

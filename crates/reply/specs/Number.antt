-- The numbers of document 01's table. Assumes nothing: these are definitions.
use Rattle.std.specs.Prelude.{ℕ}
use Rattle.reply.specs.declared.Refusal.{Refusal}
use Rattle.reply.specs.declared.Refusal.TheVariants.{Short, Signature, Limits, Checksum, Field, Structure, Outside, Absent, Range, Outstanding, Early, Room, Written, Misplaced, Image, Mode, Value, Repeated}

-- the number of a refusal
abbrev pub refusal_number : Refusal → ℕ
refusal_number Short = 1
refusal_number Signature = 2
refusal_number Limits = 3
refusal_number Checksum = 4
refusal_number Field = 5
refusal_number Structure = 6
refusal_number Outside = 7
refusal_number Absent = 8
refusal_number Range = 9
refusal_number Outstanding = 10
refusal_number Early = 11
refusal_number Room = 12
refusal_number Written = 13
refusal_number Misplaced = 14
refusal_number Image = 15
refusal_number Mode = 16
refusal_number Value = 17
refusal_number Repeated = 18

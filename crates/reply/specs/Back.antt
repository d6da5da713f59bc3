-- A refusal and a fault from what they tell: cited by proofs alone, so a reader may skip it. Assumes nothing: these are definitions.
use Rattle.std.specs.Prelude.{ℕ, cond, eqb}
use Rattle.reply.specs.Reply.{Carried, alone, tested, in_header, in_entry}
use Rattle.reply.specs.declared.Refusal.{Refusal}
use Rattle.reply.specs.declared.Refusal.TheVariants.{Short, Signature, Limits, Checksum, Field, Structure, Outside, Absent, Range, Outstanding, Early, Room, Written, Misplaced, Image, Mode, Value, Repeated}
use Rattle.reply.specs.declared.Met.{Met}
use Rattle.reply.specs.declared.Met.TheVariants as place
use Rattle.reply.specs.declared.Fault.{Fault}

-- the refusal of a number, found by going through them
abbrev pub refusal_by : (number : ℕ) → Refusal
refusal_by number =
    cond (eqb number 1) Short
    (cond (eqb number 2) Signature
    (cond (eqb number 3) Limits
    (cond (eqb number 4) Checksum
    (cond (eqb number 5) Field
    (cond (eqb number 6) Structure
    (cond (eqb number 7) Outside
    (cond (eqb number 8) Absent
    (cond (eqb number 9) Range
    (cond (eqb number 10) Outstanding
    (cond (eqb number 11) Early
    (cond (eqb number 12) Room
    (cond (eqb number 13) Written
    (cond (eqb number 14) Misplaced
    (cond (eqb number 15) Image
    (cond (eqb number 16) Mode
    (cond (eqb number 17) Value
    Repeated))))))))))))))))

-- where a refusal was met, as the code has it
abbrev pub met_by : Carried → Met
met_by alone = place.Alone
met_by (tested count) = place.Alone
met_by (in_header level directory) = place.Header level directory
met_by (in_entry level index directory) = place.Entry level index directory

-- a refusal with what it carries
abbrev pub fault_by : (number : ℕ) → Carried → Fault
fault_by number carried = record { refusal = refusal_by number; met = met_by carried }

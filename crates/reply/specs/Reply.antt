-- What a call answers, for every call of every crate. Assumes nothing: these are definitions.
use Rattle.std.specs.Prelude.{ℕ, ◌≡◌, Bool, true, false, Result, Ok, Err}
use Rattle.reply.specs.Number.{refusal_number}
use Rattle.reply.specs.declared.Refusal.{Refusal}
use Rattle.reply.specs.declared.Met.{Met}
use Rattle.reply.specs.declared.Met.TheVariants as place
use Rattle.reply.specs.declared.Fault.{Fault}
use Rattle.reply.specs.declared.Missed.{Missed}
use Rattle.reply.specs.declared.Missed.TheVariants as missed

-- what a number carries besides itself: nothing, the count of entries tested, or where it was met: in the header of a directory of a level (0 where no
-- cookie told it), or in an entry of one; the directory by the offset where it begins
pub data Carried : Type 0 where
  alone : Carried
  tested : ℕ → Carried
  in_header : (level directory : ℕ) → Carried
  in_entry : (level index directory : ℕ) → Carried

-- what a call answers: what it gives, or document 01's number with what that number carries
pub data Reply (A : Type 0) : Type 0 where
  given : A → Reply A
  refused : (number : ℕ) → Carried → Reply A

-- a check, its number with what it carries, and what comes after it
abbrev pub check : {A : Type 0} → Bool → ℕ → Carried → Reply A → Reply A
check true number carried rest = rest
check false number carried rest = refused number carried

-- a check whose number stands alone
abbrev pub guard : {A : Type 0} → Bool → ℕ → Reply A → Reply A
guard holds number rest = check holds number alone rest

-- a refusal is passed on; what was given goes to the next step
abbrev pub then : {A : Type 0} {B : Type 0} → Reply A → (A → Reply B) → Reply B
then (given a) next = next a
then (refused number carried) next = refused number carried

-- a refusal was met here; what is given stays
abbrev pub met : {A : Type 0} → Carried → Reply A → Reply A
met here (given a) = given a
met here (refused number carried) = refused number here

-- where a fault was met, as its number carries it
abbrev pub carried_of : Met → Carried
carried_of place.Alone = alone
carried_of (place.Header level directory) = in_header level directory
carried_of (place.Entry level index directory) = in_entry level index directory

-- a refusal that was met nowhere
abbrev pub alone_fault : Refusal → Fault
alone_fault refusal = record { refusal = refusal; met = place.Alone }

-- what an answer tells: of a call whose refusals stand alone, of a call on a directory, and of a search
abbrev pub told_alone : {A : Type 0} → Result A Refusal → Reply A
told_alone (Ok a) = given a
told_alone (Err refusal) = refused (refusal_number refusal) alone

abbrev pub told : {A : Type 0} → Result A Fault → Reply A
told (Ok a) = given a
told (Err fault) = refused (refusal_number fault.refusal) (carried_of fault.met)

abbrev pub told_search_alone : {A : Type 0} → Result A (Missed Refusal) → Reply A
told_search_alone (Ok a) = given a
told_search_alone (Err (missed.Absent n)) = refused 8 (tested n)
told_search_alone (Err (missed.Refused refusal)) = refused (refusal_number refusal) alone

abbrev pub told_search : {A : Type 0} → Result A (Missed Fault) → Reply A
told_search (Ok a) = given a
told_search (Err (missed.Absent n)) = refused 8 (tested n)
told_search (Err (missed.Refused fault)) = refused (refusal_number fault.refusal) (carried_of fault.met)

-- no two answers of a call tell the same
abbrev pub OneToOne : {E : Type 0} {A : Type 0} → (E → Reply A) → Type 0
OneToOne {E = E} told = (x y : E) → told x ≡ told y → x ≡ y

-- two results that fit one promise are equal
abbrev pub Settled : {E : Type 0} {A : Type 0} → (E → Reply A) → Type 0
Settled {E = E} {A = A} told = (promised : Reply A) (x y : E) → told x ≡ promised → told y ≡ promised → x ≡ y

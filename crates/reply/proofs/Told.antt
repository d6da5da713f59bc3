-- What an answer tells is one-to-one, whatever it gives, so a promise leaves one result. Assumes nothing.
use mathlib.Core.Path.{◌≡◌, refl, sym, ap, ap₂, ◌∙◌}
use mathlib.Core.Bool.{false}
use lib.Dec.{eqb}
use borrow.Author.Tests.{ne_eqb}
use Prim.Native.Nat.{ℕ}
use native.Mathlib.Omega.{arith}
use Rattle.std.specs.Prelude.{Result, Ok, Err}
use Rattle.reply.specs.Number.{refusal_number}
use Rattle.reply.specs.Reply.{Reply, given, refused, alone, tested, in_header, in_entry, carried_of, alone_fault, told_alone, told, told_search_alone, told_search, OneToOne}
use Rattle.reply.specs.Back.{refusal_by, met_by, fault_by}
use Rattle.reply.specs.declared.Refusal.{Refusal}
use Rattle.reply.specs.declared.Refusal.TheVariants.{Short, Signature, Limits, Checksum, Field, Structure, Outside, Absent, Range, Outstanding, Early, Room, Written, Misplaced, Image, Mode, Value, Repeated}
use Rattle.reply.specs.declared.Met.{Met}
use Rattle.reply.specs.declared.Met.TheVariants as place
use Rattle.reply.specs.declared.Fault.{Fault}
use Rattle.reply.specs.declared.Missed.{Missed}
use Rattle.reply.specs.declared.Missed.TheVariants as missed
use Rattle.reply.proofs.ReplyLaws.{one_by}

-- a refusal and a fault from what they tell, and the way back
pub refusal_back : (refusal : Refusal) → refusal_by (refusal_number refusal) ≡ refusal
refusal_back Short = refl
refusal_back Signature = refl
refusal_back Limits = refl
refusal_back Checksum = refl
refusal_back Field = refl
refusal_back Structure = refl
refusal_back Outside = refl
refusal_back Absent = refl
refusal_back Range = refl
refusal_back Outstanding = refl
refusal_back Early = refl
refusal_back Room = refl
refusal_back Written = refl
refusal_back Misplaced = refl
refusal_back Image = refl
refusal_back Mode = refl
refusal_back Value = refl
refusal_back Repeated = refl

-- two that differ have two numbers
pub numbers_apart : (refusal other : Refusal) → (refusal ≡ other → ⊥) → eqb (refusal_number refusal) (refusal_number other) ≡ false
numbers_apart refusal other f = ne_eqb _ _ (λ e. f (sym (refusal_back refusal) ∙ ap refusal_by e ∙ refusal_back other))

-- no refusal has the number of an acceptance
pub refusal_above : (refusal : Refusal) → refusal_number refusal ≡ 0 → ⊥
refusal_above Short e = omega (arith, e)
refusal_above Signature e = omega (arith, e)
refusal_above Limits e = omega (arith, e)
refusal_above Checksum e = omega (arith, e)
refusal_above Field e = omega (arith, e)
refusal_above Structure e = omega (arith, e)
refusal_above Outside e = omega (arith, e)
refusal_above Absent e = omega (arith, e)
refusal_above Range e = omega (arith, e)
refusal_above Outstanding e = omega (arith, e)
refusal_above Early e = omega (arith, e)
refusal_above Room e = omega (arith, e)
refusal_above Written e = omega (arith, e)
refusal_above Misplaced e = omega (arith, e)
refusal_above Image e = omega (arith, e)
refusal_above Mode e = omega (arith, e)
refusal_above Value e = omega (arith, e)
refusal_above Repeated e = omega (arith, e)

pub met_back : (m : Met) → met_by (carried_of m) ≡ m
met_back place.Alone = refl
met_back (place.Header level directory) = refl
met_back (place.Entry level index directory) = refl

pub fault_back : (fault : Fault) → fault_by (refusal_number fault.refusal) (carried_of fault.met) ≡ fault
fault_back fault = ap₂ {A = Refusal} {B = Met} {C = Fault} (λ r m. record { refusal = r; met = m }) (refusal_back fault.refusal) (met_back fault.met)

module _ {A : Type 0} where
  -- calls whose refusals stand alone
  alone_back : Reply A → Result A Refusal
  alone_back (given a) = Ok a
  alone_back (refused number carried) = Err (refusal_by number)

  alone_back_lem : (x : Result A Refusal) → alone_back (told_alone x) ≡ x
  unfolding alone_back
  alone_back_lem (Ok a) = refl
  alone_back_lem (Err refusal) = ap (λ r. Err r) (refusal_back refusal)

  pub told_alone_one : OneToOne (told_alone {A = A})
  told_alone_one = one_by told_alone alone_back alone_back_lem

  -- calls on a directory
  back : Reply A → Result A Fault
  back (given a) = Ok a
  back (refused number carried) = Err (fault_by number carried)

  back_lem : (x : Result A Fault) → back (told x) ≡ x
  unfolding back
  back_lem (Ok a) = refl
  back_lem (Err fault) = ap (λ f. Err f) (fault_back fault)

  pub told_one : OneToOne (told {A = A})
  told_one = one_by told back back_lem

  -- searches
  search_alone_back : Reply A → Result A (Missed Refusal)
  search_alone_back (given a) = Ok a
  search_alone_back (refused number alone) = Err (missed.Refused (refusal_by number))
  search_alone_back (refused number (tested n)) = Err (missed.Absent n)
  search_alone_back (refused number (in_header level directory)) = Err (missed.Refused (refusal_by number))
  search_alone_back (refused number (in_entry level index directory)) = Err (missed.Refused (refusal_by number))

  search_alone_back_lem : (x : Result A (Missed Refusal)) → search_alone_back (told_search_alone x) ≡ x
  unfolding search_alone_back
  search_alone_back_lem (Ok a) = refl
  search_alone_back_lem (Err (missed.Absent n)) = refl
  search_alone_back_lem (Err (missed.Refused refusal)) = ap (λ r. Err (missed.Refused r)) (refusal_back refusal)

  pub told_search_alone_one : OneToOne (told_search_alone {A = A})
  told_search_alone_one = one_by told_search_alone search_alone_back search_alone_back_lem

  search_back : Reply A → Result A (Missed Fault)
  search_back (given a) = Ok a
  search_back (refused number alone) = Err (missed.Refused (fault_by number alone))
  search_back (refused number (tested n)) = Err (missed.Absent n)
  search_back (refused number (in_header level directory)) = Err (missed.Refused (fault_by number (in_header level directory)))
  search_back (refused number (in_entry level index directory)) = Err (missed.Refused (fault_by number (in_entry level index directory)))

  -- where a fault was met is never a count
  search_met : (number : ℕ) (m : Met) → search_back (refused number (carried_of m)) ≡ Err (missed.Refused (fault_by number (carried_of m)))
  unfolding search_back
  search_met number place.Alone = refl
  search_met number (place.Header level directory) = refl
  search_met number (place.Entry level index directory) = refl

  search_back_lem : (x : Result A (Missed Fault)) → search_back (told_search x) ≡ x
  unfolding search_back
  search_back_lem (Ok a) = refl
  search_back_lem (Err (missed.Absent n)) = refl
  search_back_lem (Err (missed.Refused fault)) = search_met (refusal_number fault.refusal) fault.met ∙ ap (λ f. Err (missed.Refused f)) (fault_back fault)

  pub told_search_one : OneToOne (told_search {A = A})
  told_search_one = one_by told_search search_back search_back_lem

  -- a refusal that `?` or `into` made a fault of
  pub told_from : (fault : Fault) (refusal : Refusal) → fault ≡ alone_fault refusal → told {A = A} (Err fault) ≡ refused (refusal_number refusal) alone
  told_from fault refusal e = ap (λ f. told (Err f)) e

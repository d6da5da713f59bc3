-- What a reply that gives says of the checks before it, and the way back. Assumes nothing.
use mathlib.Core.Path.{◌≡◌, refl, sym, ap, ◌∙◌}
use mathlib.Core.Bool.{Bool, true, false, cond}
use Prim.Native.Nat.{ℕ}
use native.Mathlib.Omega.{arith}
use Rattle.reply.specs.Reply.{Reply, Carried, given, refused, check, then, met, OneToOne, Settled}

-- given is never refused
pub clash : {A : Type 0} {B : Type 0} {n : ℕ} {c : Carried} {a : A} → refused n c ≡ given a → B
clash e = let z : ◌≡◌ {A = ℕ} 0 1 = cc in absurd (let f : ⊥ = omega arith in f)

-- true is not false
pub apart : {A : Type 0} {b : Bool} → b ≡ true → b ≡ false → A
apart t f = absurd (let z : ◌≡◌ {A = ℕ} 0 1 = cc in let n : ⊥ = omega arith in n)

-- one of two replies, by a test
pub either : {A C : Type 0} {a : A} (b : Bool) (x y : Reply A) → cond b x y ≡ given a → (b ≡ true → x ≡ given a → C) → (b ≡ false → y ≡ given a → C) → C
either true x y e f g = f refl e
either false x y e f g = g refl e

module _ {A : Type 0} (b : Bool) (number : ℕ) (carried : Carried) (rest : Reply A) where
  -- a check that is passed changes nothing
  pub passed : b ≡ true → check b number carried rest ≡ rest
  passed e = rw e

  -- a check that fails decides
  pub failed : b ≡ false → check b number carried rest ≡ refused number carried
  failed e = rw e

-- a check before a reply that gives is passed
pub past : {A : Type 0} {a : A} (b : Bool) (number : ℕ) (carried : Carried) (rest : Reply A) → check b number carried rest ≡ given a → (b ≡ true) × (rest ≡ given a)
past true number carried rest e = (refl, e)
past false number carried rest e = clash e

-- both steps of a reply that gives give
pub then_given : {A : Type 0} {B : Type 0} {b : B} (r : Reply A) (next : A → Reply B) → then r next ≡ given b → (a : A) × (r ≡ given a) × (next a ≡ given b)
then_given (given a) next e = (a, refl, e)
then_given (refused number carried) next e = clash e

-- a refusal is passed on as it is, with what its number carries
pub passed_on : {A : Type 0} {B : Type 0} (number : ℕ) (carried : Carried) (next : A → Reply B) → then (refused number carried) next ≡ refused number carried
passed_on number carried next = refl

-- a callee's answer q, taken apart by `match`, and the step after it: what the caller's definition has
pub then_told : {E : Type 0} {A : Type 0} {B : Type 0} (told : E → Reply A) (next : A → Reply B) {r : E} {q : E} {d : Reply A} →
    r ≡ q → told r ≡ d → then (told q) next ≡ then d next
then_told told next e h = ap (λ x. then x next) (ap told (sym e) ∙ h)

-- what is one-to-one leaves one result
pub settled : {E : Type 0} {A : Type 0} (told : E → Reply A) → OneToOne told → Settled told
settled told one promised x y p q = one x y (p ∙ sym q)

-- only the step after what was given matters
pub then_same : {A : Type 0} {B : Type 0} (r : Reply A) (f g : A → Reply B) → ((a : A) → r ≡ given a → f a ≡ g a) → then r f ≡ then r g
then_same (given a) f g h = h a refl
then_same (refused number carried) f g h = refl

-- what has a way back is one-to-one
pub one_by : {E : Type 0} {A : Type 0} (told : E → Reply A) (back : Reply A → E) → ((x : E) → back (told x) ≡ x) → OneToOne told
one_by told back h x y e = sym (h x) ∙ ap back e ∙ h y

-- what comes after a check matters only where it is passed
pub check_same : {A : Type 0} (b : Bool) (number : ℕ) (carried : Carried) (r q : Reply A) → (b ≡ true → r ≡ q) → check b number carried r ≡ check b number carried q
check_same true number carried r q h = h refl
check_same false number carried r q h = refl

-- where a refusal was met matters to no reply that gives
pub met_given : {A : Type 0} {a : A} (here : Carried) (r : Reply A) → met here r ≡ given a → r ≡ given a
met_given here (given a) e = e
met_given here (refused number carried) e = clash e

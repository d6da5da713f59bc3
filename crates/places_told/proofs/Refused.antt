-- What a refused reply says of the steps before it. Assumes nothing.
use mathlib.Core.Path.{◌≡◌, refl, sym}
use mathlib.Core.Bool.{Bool, true, false, cond}
use Prim.Native.Nat.{ℕ, ◌≤◌}
use native.Mathlib.Omega.{arith}
use borrow.Author.Tests.{le-leb, lt-leb}
use lib.Dec.{leb}
use Rattle.reply.specs.Reply.{Reply, Carried, given, refused, check, then, met}
use Rattle.reply.proofs.ReplyLaws.{clash, apart}

-- a refusal is one whatever was asked for
pub refusal : {A B : Type 0} {m n : ℕ} {w c : Carried} → ◌≡◌ {A = Reply A} (refused m w) (refused n c) → ◌≡◌ {A = Reply B} (refused m w) (refused n c)
refusal {m = m} {n = n} {w = w} {c = c} e = let a : m ≡ n = cc e in let b : w ≡ c = cc e in (λ i. refused (a i) (b i))

-- ---- a step, and what comes after it
-- a check fails, or what comes after it is refused
pub stopped : {A C : Type 0} {n : ℕ} {c : Carried} (b : Bool) (number : ℕ) (carried : Carried) (rest : Reply A) → check b number carried rest ≡ refused n c →
    (b ≡ false → number ≡ n → carried ≡ c → C) → (b ≡ true → rest ≡ refused n c → C) → C
stopped true number carried rest e f g = g refl e
stopped false number carried rest e f g = f refl (cc e) (cc e)

-- one of two replies is refused, by a test
pub branched : {A C : Type 0} {n : ℕ} {c : Carried} (b : Bool) (x y : Reply A) → cond b x y ≡ refused n c → (b ≡ true → x ≡ refused n c → C) → (b ≡ false → y ≡ refused n c → C) → C
branched true x y e f g = f refl e
branched false x y e f g = g refl e

-- the first step is refused, or the second by what the first gives
pub then_stopped : {A B C : Type 0} {n : ℕ} {c : Carried} (r : Reply A) (next : A → Reply B) → then r next ≡ refused n c →
    (r ≡ refused n c → C) → ((a : A) → r ≡ given a → next a ≡ refused n c → C) → C
then_stopped (given a) next e f g = g a refl e
then_stopped (refused number carried) next e f g = f (refusal e)

-- what was met here
pub met_stopped : {A C : Type 0} {n : ℕ} {c : Carried} (here : Carried) (r : Reply A) → met here r ≡ refused n c → ((w : Carried) → r ≡ refused n w → here ≡ c → C) → C
met_stopped here (given a) e f = clash (sym e)
met_stopped {n = n} here (refused number carried) e f = let a : number ≡ n = cc e in f carried (λ i. refused (a i) carried) (cc e)

-- ---- tests
-- a test that fails denies its fact, and back
pub denied_le : (a b : ℕ) → leb a b ≡ false → a ≤ b → ⊥
denied_le a b f h = apart (le-leb a b h) f

pub le_denied : (a b : ℕ) → (a ≤ b → ⊥) → leb a b ≡ false
le_denied a b n = lt-leb a b (omega arith)

pub untrue : (b : Bool) → (b ≡ true → ⊥) → b ≡ false
untrue true n = absurd (n refl)
untrue false n = refl

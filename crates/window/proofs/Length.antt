-- What comes after the test of an image's length. Assumes nothing.
use mathlib.Core.Path.{◌≡◌}
use mathlib.Core.List.{List}
use mathlib.Core.Bool.{true, and-eq-true_iff}
use Prim.Native.Nat.{ℕ}
use borrow.Author.Tests.{leb-true, le-leb}
use lib.ListN.{length}
use lib.Dec.{leb}
use Rattle.reply.specs.Reply.{Reply, given}
use Rattle.reply.proofs.ReplyLaws.{past, passed}
use Rattle.window.specs.Length.{longest, length_allowed, sized}
use Rattle.window.specs.Inside.{GoodLength}

-- the test as a fact and back
pub allowed_fact : (s : List ℕ) → length_allowed s ≡ true → GoodLength s
allowed_fact s e = let g = (and-eq-true_iff (leb 1 (length s)) (leb (length s) longest)).0 e in record { from = leb-true _ _ g.0; to = leb-true _ _ g.1 }

pub allowed_test : (s : List ℕ) → GoodLength s → length_allowed s ≡ true
allowed_test s z = rw (le-leb 1 (length s) z.from, le-leb (length s) longest z.to)

pub sized_passed : {A : Type 0} (s : List ℕ) (rest : Reply A) → GoodLength s → sized s rest ≡ rest
sized_passed s rest z = passed _ _ _ _ (allowed_test s z)

pub sized_past : {A : Type 0} {a : A} (s : List ℕ) (rest : Reply A) → sized s rest ≡ given a → GoodLength s × (rest ≡ given a)
sized_past s rest e = let g = past (length_allowed s) _ _ _ e in (allowed_fact s g.0, g.1)

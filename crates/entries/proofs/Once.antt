-- A directory that may not repeat has no two entries of one type and subprogram, and a lookup's match is the only one. Assumes nothing.
use mathlib.Core.Path.{◌≡◌, refl, sym, ◌∙◌}
use mathlib.Core.List.{List}
use mathlib.Core.Bool.{Bool, true, false}
use Prim.Native.Nat.{ℕ, ◌<◌}
use native.Mathlib.Omega.{arith}
use borrow.Author.Tests.{ltb-true, ltb-false}
use lib.Dec.{ltb}
use Rattle.directory.specs.Good.{GoodDirectory}
use Rattle.entries.specs.Good.{Matches, NoRepeats}
use Rattle.directory.specs.declared.Kind.{Kind}
use Rattle.directory.specs.declared.Directory.{Directory}
use Rattle.directory.proofs.Accept.{acceptance}
use Rattle.entries.proofs.Lowest.{lowest_match}

module _ (kind : Kind) (limit : ℕ) (s : List ℕ) (d : Directory) (no : kind.repeats ≡ false) (good : GoodDirectory kind limit s d) (type sub : ℕ) where
  earlier : (i j : ℕ) → i < d.total → j < i → Matches kind s d type sub i → Matches kind s d type sub j → ⊥
  earlier i j h l m n = good.first i h no j l (n.0 ∙ sym m.0, n.1 ∙ sym m.1)

  pub once_good : (i j : ℕ) → i < d.total → j < d.total → Matches kind s d type sub i → Matches kind s d type sub j → i ≡ j
  once_good i j h k m n = by (ltb j i) refl (ltb i j) refl
    where
      by : (x : Bool) → ltb j i ≡ x → (y : Bool) → ltb i j ≡ y → i ≡ j
      by true p y q = absurd (earlier i j h (ltb-true j i p) m n)
      by false p true q = absurd (earlier j i k (ltb-true i j q) n m)
      by false p false q = let a = ltb-false j i p in let b = ltb-false i j q in omega arith

pub no_repeats : NoRepeats
no_repeats = record {
  once = λ kind limit level s o d no e type sub. once_good kind limit s d no (acceptance.only kind limit level s o d e).0 type sub;
  the_match = λ kind limit level s o d no e type sub m f j l x.
      let g = lowest_match.found_only kind s d type sub m f in
      once_good kind limit s d no (acceptance.only kind limit level s o d e).0 type sub j m.index l g.0.inside x g.0.here;
}

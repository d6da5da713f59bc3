-- A version's acceptance, both ways, and its independence. Assumes nothing.
use mathlib.Core.Path.{◌≡◌, ap, ◌∙◌}
use mathlib.Core.List.{List}
use Prim.Native.Nat.{ℕ}
use native.Mathlib.Omega.{arith}
use lib.ListN.{length}
use lib.Dec.{leb, eqb}
use borrow.Author.Tests.{leb-true, le-leb, eqb-true, eq-eqb}
use Rattle.le.specs.Le.{le_at}
use Rattle.le.proofs.Laws.{le_same}
use Rattle.reply.specs.Reply.{given}
use Rattle.reply.proofs.ReplyLaws.{past, passed}
use Rattle.version.specs.Header.{ps1}
use Rattle.version.specs.Version.{version_of}
use Rattle.version.specs.Good.{Holds, VersionAcceptance, VersionIndependence}

only : (s : List ℕ) (version : ℕ) → version_of s ≡ given version → Holds s version
unfolding version_of
only s version e =
    let long = past (leb 256 (length s)) _ _ _ e in
    let marked = past (eqb (le_at 4 s 0x10) ps1) _ _ _ long.1 in
    let g = marked.1 in
    record { present = leb-true _ _ long.0; marked = eqb-true _ _ marked.0; holds = cc }

all : (s : List ℕ) (version : ℕ) → Holds s version → version_of s ≡ given version
unfolding version_of
all s version h = passed _ _ _ _ (le-leb _ _ h.present) ∙ passed _ _ _ _ (eq-eqb _ _ h.marked) ∙ ap given h.holds

pub version_acceptance : VersionAcceptance
version_acceptance = record { only = only; all = all }

pub version_independence : VersionIndependence
unfolding version_of
version_independence s t long also same =
    rw (le-leb _ _ long, le-leb _ _ also, le_same 4 s t 0x10 (λ j a b. same j (omega arith)), le_same 4 s t 0x60 (λ j a b. same j (omega arith)))

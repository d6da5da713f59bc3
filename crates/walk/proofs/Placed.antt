-- The checks of a directory refuse with where they met what is wrong, never with a count. Assumes nothing.
use mathlib.Core.Path.{◌≡◌, refl, sym, subst}
use mathlib.Core.List.{List}
use mathlib.Core.Bool.{Bool, true, false}
use Prim.Native.Nat.{ℕ, zero, suc, ◌+◌}
use lib.ListN.{length}
use lib.Dec.{leb, eqb}
use Rattle.le.specs.Le.{le_at}
use Rattle.reply.specs.Reply.{Reply, Carried, given, refused, alone, tested, in_header, in_entry, check, then, met, carried_of}
use Rattle.reply.specs.Scan.{scan}
use Rattle.reply.specs.declared.Met.{Met}
use Rattle.reply.specs.declared.Met.TheVariants as place
use Rattle.reply.proofs.ReplyLaws.{clash}
use Rattle.window.specs.declared.Offset.{Offset}
use Rattle.directory.specs.Directory.{cookie_of, total_at, entry_place, checksum_at, class_at, reserved_zero, may_stand, may_repeat, entry_step, directory_of, directory_checks, directory_at}
use Rattle.entries.specs.Part.{leads_to}
use Rattle.directory.specs.declared.Kind.{Kind}
use Rattle.directory.specs.declared.Directory.{Directory}
use Rattle.efs.specs.declared.Rules.{Rules}
use Rattle.entries.specs.declared.Entry.{Entry}
use Rattle.flash.specs.Flash.{level_two_at}

-- where a fault was met, or nothing, but no count
abbrev pub Place : Carried → Type 0
Place alone = Unit {0}
Place (tested count) = ⊥
Place (in_header level directory) = Unit {0}
Place (in_entry level index directory) = Unit {0}

pub place_of : (m : Met) → Place (carried_of m)
place_of place.Alone = tt
place_of (place.Header level directory) = tt
place_of (place.Entry level index directory) = tt

pub no_count : (t : ℕ) (carried : Carried) → Place carried → tested t ≡ carried → ⊥
no_count t carried p e = subst Place (sym e) p

-- if refused, then with a place
abbrev Placed : {A : Type 0} → Reply A → Type 0
Placed r = (number : ℕ) (carried : Carried) → r ≡ refused number carried → Place carried

given_placed : {A : Type 0} (a : A) → Placed (given a)
given_placed a number carried e = clash (sym e)

refused_placed : {A : Type 0} (n : ℕ) (here : Carried) → Place here → Placed {A = A} (refused n here)
refused_placed n here p number carried e = let q : here ≡ carried = cc in subst Place q p

check_placed : {A : Type 0} (b : Bool) (n : ℕ) (here : Carried) (rest : Reply A) → Place here → Placed rest → Placed (check b n here rest)
check_placed true n here rest p h = h
check_placed false n here rest p h = refused_placed n here p

met_placed : {A : Type 0} (here : Carried) (r : Reply A) → Place here → Placed (met here r)
met_placed here (given a) p = given_placed a
met_placed here (refused n c) p = refused_placed n here p

then_placed : {A B : Type 0} (r : Reply A) (next : A → Reply B) → Placed r → ((a : A) → Placed (next a)) → Placed (then r next)
then_placed (given a) next f g = g a
then_placed (refused n c) next f g = refused_placed n c (f n c refl)

scan_placed : {A : Type 0} (step : ℕ → Reply A → Reply A) (last : ℕ → Reply A) → ((i : ℕ) (rest : Reply A) → Placed rest → Placed (step i rest)) → ((i : ℕ) → Placed (last i)) → (m i : ℕ) → Placed (scan step last m i)
unfolding scan
scan_placed step last f g zero i = g i
scan_placed step last f g (suc m) i = f i _ (scan_placed step last f g m (i + 1))

module _ (kind : Kind) (limit level : ℕ) (s : List ℕ) (o : ℕ) where
  in_header_lem : (b : Bool) (n : ℕ) (rest : Reply Directory) → Placed rest → Placed (check b n (in_header level o) rest)
  in_header_lem b n rest = check_placed b n (in_header level o) rest tt

  in_entry_lem : (b : Bool) (n i : ℕ) (rest : Reply Directory) → Placed rest → Placed (check b n (in_entry level i o) rest)
  in_entry_lem b n i rest = check_placed b n (in_entry level i o) rest tt

  checks_placed : Placed (directory_checks kind limit level s o)
  unfolding directory_checks
  checks_placed =
      let n = total_at s o in
      in_header_lem (leb (o + 16) (length s)) _ _
      (in_header_lem (eqb (le_at 4 s (o + 0)) (cookie_of kind level)) _ _
      (in_header_lem (leb n limit) _ _
      (in_header_lem (leb (entry_place kind o n) (length s)) _ _
      (in_header_lem (eqb (le_at 4 s (o + 4)) (checksum_at kind s o n)) _ _
      (in_header_lem (eqb (le_at 4 s (o + 12)) 0) _ _
      (scan_placed (entry_step kind level s o) (λ _. given (directory_of o level n))
      (λ i rest h. in_entry_lem (reserved_zero kind s o i) _ i _ (in_entry_lem (may_stand kind level (class_at kind s o i)) _ i _ (in_entry_lem (may_repeat kind s o i) _ i _ h)))
      (λ i. given_placed _) n 0))))))

  directory_placed : Placed (directory_at kind limit level s o)
  directory_placed = check_placed (leb 1 level) _ alone _ tt (check_placed (leb level 2) _ alone _ tt checks_placed)

pub level_placed : (rules : Rules) (s : List ℕ) (d : Directory) (i : ℕ) (e : Entry) → Placed (level_two_at rules s d i e)
level_placed rules s d i e =
    then_placed (met here (leads_to rules.window s d.place.0 e)) (λ (a : Offset). directory_at rules.kind rules.limit 2 s a.0)
    (met_placed here (leads_to rules.window s d.place.0 e) tt) (λ a. directory_placed rules.kind rules.limit 2 s a.0)
  where
    here : Carried
    here = in_entry d.level i d.place.0

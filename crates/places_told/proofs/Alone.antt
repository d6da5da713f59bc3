-- What refuses with a number alone. Assumes nothing.
use mathlib.Core.Path.{◌≡◌, sym, ◌∙◌}
use mathlib.Core.List.{List}
use mathlib.Core.Bool.{Bool, true, false, not, cond}
use Prim.Native.Nat.{ℕ, zero, suc, ◌+◌, ◌^◌}
use lib.ListN.{length, get_or}
use lib.Dec.{leb, ltb, eqb}
use Rattle.le.specs.Le.{le_at}
use Rattle.reply.specs.Reply.{Reply, Carried, given, refused, alone, guard, then}
use Rattle.reply.specs.Scan.{scan}
use Rattle.reply.proofs.ReplyLaws.{clash}
use Rattle.window.specs.Window.{window_start, offset_in}
use Rattle.directory.specs.Directory.{psp_kind, may_stand, entry_place}
use Rattle.directory.specs.declared.Kind.{Kind}
use Rattle.directory.specs.declared.Directory.{Directory}
use Rattle.entries.specs.Entry.{entry_in, lead_in, holds_in}
use Rattle.entries.proofs.Lowest.{lowest_lead}
use Rattle.efs.specs.Efs.{candidate_at, or_else, efs_step, efs_place, efs_in, absent, pointer_to, pointer_from, pointer_of, pointer_in}
use Rattle.efs.specs.declared.Rules.{Rules}
use Rattle.efs.specs.declared.Efs.{Efs}
use Rattle.version.specs.Version.{version_of}
use Rattle.build.specs.Write.{start_of, room_for}
use Rattle.build.specs.declared.Fields.{Fields}
use Rattle.places_told.proofs.Refused.{then_stopped}

-- ---- if refused, then alone
abbrev pub Alone : {A : Type 0} → Reply A → Type 0
Alone r = (number : ℕ) (carried : Carried) → r ≡ refused number carried → carried ≡ alone

given_alone : {A : Type 0} (a : A) → Alone (given a)
given_alone a number carried e = clash (sym e)

refused_alone : {A : Type 0} (n : ℕ) → Alone {A = A} (refused n alone)
refused_alone n number carried e = cc e

guard_alone : {A : Type 0} (b : Bool) (n : ℕ) (rest : Reply A) → Alone rest → Alone (guard b n rest)
guard_alone true n rest h = h
guard_alone false n rest h = refused_alone n

cond_alone : {A : Type 0} (b : Bool) (x y : Reply A) → Alone x → Alone y → Alone (cond b x y)
cond_alone true x y f g = f
cond_alone false x y f g = g

then_alone : {A B : Type 0} (r : Reply A) (next : A → Reply B) → Alone r → ((a : A) → Alone (next a)) → Alone (then r next)
then_alone r next f g number carried e = then_stopped r next e (f number carried) (λ a q. g a number carried)

orelse_alone : {A : Type 0} (r rest : Reply A) → Alone rest → Alone (or_else r rest)
orelse_alone (given a) rest h = given_alone a
orelse_alone (refused n c) rest h = h

scan_alone : {A : Type 0} (step : ℕ → Reply A → Reply A) (last : ℕ → Reply A) → ((i : ℕ) (rest : Reply A) → Alone rest → Alone (step i rest)) → ((i : ℕ) → Alone (last i)) → (m i : ℕ) → Alone (scan step last m i)
unfolding scan
scan_alone step last f g zero i = g i
scan_alone step last f g (suc m) i = f i _ (scan_alone step last f g m (i + 1))

-- ---- the EFS and its pointer
module _ (r : Rules) (s : List ℕ) where
  to_alone : (p : ℕ) → Alone (pointer_to r.window s p)
  unfolding pointer_to offset_in
  to_alone p =
      cond_alone (leb (window_start r.window) p) _ _
      (then_alone (offset_in r.window p) _ (guard_alone (leb (window_start r.window) p) _ _ (guard_alone (leb p 0xFFFF_FFFF) _ _ (given_alone _))) (λ o. guard_alone (leb o.0 (length s)) _ _ (given_alone _)))
      (guard_alone (ltb p r.window) _ _ (guard_alone (leb p (length s)) _ _ (given_alone _)))

  from_alone : (field p : ℕ) → Alone (pointer_from r.window s field p)
  from_alone field p = then_alone (pointer_to r.window s p) _ (to_alone p) (λ o. given_alone _)

  of_alone : (e : Efs) → Alone (pointer_of r.window s e)
  unfolding pointer_of
  of_alone e = cond_alone (absent e.late) _ _ (guard_alone (not (absent e.early)) _ _ (from_alone 0x10 e.early)) (from_alone 0x14 e.late)

  efs_alone : Alone (efs_place r.window r.candidates s)
  efs_alone = scan_alone (efs_step r.window r.candidates s) (λ _. refused 2 alone) (λ i rest. orelse_alone (candidate_at r.window s (get_or r.candidates i 0)) rest) (λ i. refused_alone 2) (length r.candidates) 0

  pub pointer_alone : Alone (pointer_in r s)
  pointer_alone = then_alone (efs_in r s) _ (then_alone (efs_place r.window r.candidates s) _ efs_alone (λ o. given_alone _)) of_alone

-- ---- an index above the total, and no lead
module _ (kind : Kind) (s : List ℕ) (d : Directory) where
  pub entry_alone : (i : ℕ) → Alone (entry_in kind s d i)
  entry_alone i = guard_alone (ltb i d.total) _ _ (given_alone _)

  pub lead_alone : Alone (lead_in kind s d)
  lead_alone n c e = let q = sym (lowest_lead.absent kind s d (lowest_lead.absent_only kind s d n c e)) ∙ e in sym (cc q)

-- ---- a start, and an extend's new entry
pub start_alone : (level : ℕ) (s : List ℕ) → Alone (start_of level s)
unfolding start_of
start_alone level s = guard_alone (leb 1 level) _ _ (guard_alone (leb level 2) _ _ (guard_alone (leb 16 (length s)) _ _ (given_alone _)))

pub room_alone : (f : Fields) (s : List ℕ) (d : Directory) → Alone (room_for f s d)
unfolding room_for
room_alone f s d =
    guard_alone (ltb f.location (2 ^ 62)) _ _ (guard_alone (leb f.mode 3) _ _ (guard_alone (may_stand psp_kind d.level f.class) _ _
    (guard_alone (not (holds_in psp_kind s d f.class f.subprogram)) _ _ (guard_alone (ltb d.total 512) _ _ (guard_alone (leb (entry_place psp_kind 0 d.total + 16) (length s)) _ _ (given_alone _))))))

-- ---- the version of a firmware binary
pub version_alone : (s : List ℕ) → Alone (version_of s)
unfolding version_of
version_alone s = guard_alone (leb 256 (length s)) _ _ (guard_alone (eqb (le_at 4 s (0 + 16)) 0x3153_5024) _ _ (given_alone _))

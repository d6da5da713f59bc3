-- A start and an extend are given exactly where the plain facts hold. Assumes nothing.
use mathlib.Core.Path.{◌≡◌, refl, sym, ap, subst, ◌∙◌}
use mathlib.Core.Logic.{◌⊎◌, inl, inr}
use mathlib.Core.List.{List}
use mathlib.Core.Bool.{Bool, true, false, not}
use Prim.Native.Nat.{ℕ, ◌+◌, ◌*◌, ◌^◌, ◌≤◌}
use native.Mathlib.Omega.{arith}
use borrow.Author.Tests.{leb-true, ltb-true, eqb-true, eqb-false, le-leb, lt-ltb, not-true}
use lib.ListN.{length}
use lib.Dec.{leb, ltb, eqb}
use Rattle.reply.specs.Reply.{Reply, given, then}
use Rattle.reply.proofs.ReplyLaws.{past, passed, then_given, apart}
use Rattle.reply.proofs.Told.{told_one}
use Rattle.directory.specs.Directory.{psp_kind, may_stand, directory_of, directory_by_cookie}
use Rattle.entries.specs.Entry.{entry_of, matches, holds_in}
use Rattle.directory.specs.Good.{GoodDirectory}
use Rattle.entries.specs.Good.{Matches}
use Rattle.directory.specs.declared.Directory.{Directory}
use Rattle.reply.proofs.SomeLaws.{none_below, some_false}
use Rattle.entries.proofs.Lowest.{match_says, match_holds}
use Rattle.directory.proofs.Accept.{stand_fact, stand_test, there_from, there_to, cookie_acceptance}
use Rattle.build.specs.declared.Fields.{Fields}
use Rattle.build.specs.Write.{start_of, room_for, extend_of}
use Rattle.build.specs.Accept.{ToldApart, Startable, Extendable, WriteAcceptance}

pub told_apart : ToldApart
told_apart = record { total = told_one }

-- a level number from 1 to 2 is 1 or 2
one_or_two : (level : ℕ) → 1 ≤ level → level ≤ 2 → (level ≡ 1) ⊎ (level ≡ 2)
one_or_two level a b = by (eqb level 1) refl
  where
    by : (t : Bool) → eqb level 1 ≡ t → (level ≡ 1) ⊎ (level ≡ 2)
    by true e = inl (eqb-true level 1 e)
    by false e = inr (let n = eqb-false level 1 e in omega arith)

pub start_only : (level : ℕ) (s : List ℕ) (total : ℕ) → start_of level s ≡ given total → Startable level s × (total ≡ 0)
unfolding start_of
start_only level s total e =
    let a = past (leb 1 level) _ _ _ e in
    let b = past (leb level 2) _ _ _ a.1 in
    let r = past (leb 16 (length s)) _ _ _ b.1 in
    (record { either = one_or_two level (leb-true _ _ a.0) (leb-true _ _ b.0); room = leb-true _ _ r.0 }, cc r.1)

pub start_all : (level : ℕ) (s : List ℕ) → Startable level s → start_of level s ≡ given 0
unfolding start_of
start_all level s g = rw (le-leb 1 level (there_from level g.either), le-leb level 2 (there_to level g.either), le-leb 16 (length s) g.room)

pub extend_only : (f : Fields) (s : List ℕ) (total : ℕ) → extend_of f s ≡ given total → (level : ℕ) × (n : ℕ) × Extendable f s level n × (total ≡ n + 1)
unfolding room_for
extend_only f s total e =
    let t = then_given (directory_by_cookie psp_kind 512 s 0) (room_for f s) e in
    let d = t.0 in
    let g = cookie_acceptance.only psp_kind 512 s 0 d t.1 in
    let a = past (ltb f.location (2 ^ 62)) _ _ _ t.2 in
    let b = past (leb f.mode 3) _ _ _ a.1 in
    let p = past (may_stand psp_kind d.level f.class) _ _ _ b.1 in
    let q = past (not (holds_in psp_kind s d f.class f.subprogram)) _ _ _ p.1 in
    let n = past (ltb d.total 512) _ _ _ q.1 in
    let r = past (leb (16 + d.total * 16 + 16) (length s)) _ _ _ n.1 in
    let at : d ≡ directory_of 0 d.level d.total = ap (λ (o : ℕ). directory_of o d.level d.total) g.1 in (
      d.level,
      d.total,
      record {
        good = subst (GoodDirectory psp_kind 512 s) at g.0;
        fits = record { location = ltb-true _ _ a.0; mode = leb-true _ _ b.0; may_stand_lem = stand_fact psp_kind d.level f.class p.0 };
        new = λ j l m. apart (match_says (entry_of psp_kind s (directory_of 0 d.level d.total) j) f.class f.subprogram m)
            (none_below (λ j. matches (entry_of psp_kind s (directory_of 0 d.level d.total) j) f.class f.subprogram) d.total
            (ap (λ (d : Directory). holds_in psp_kind s d f.class f.subprogram) (sym at) ∙ not-true _ q.0) j l);
        few = ltb-true _ _ n.0;
        room = leb-true _ _ r.0;
      },
      cc r.1,
    )

pub extend_all_lem : (f : Fields) (s : List ℕ) (level n : ℕ) → Extendable f s level n → extend_of f s ≡ given (n + 1)
unfolding room_for
extend_all_lem f s level n g =
    let fits = g.fits in
    ap (λ (r : Reply Directory). then r (room_for f s)) (cookie_acceptance.all psp_kind 512 s (directory_of 0 level n) (λ e. omega arith) g.good)
    ∙ passed _ _ _ _ (lt-ltb f.location (2 ^ 62) fits.location)
    ∙ passed _ _ _ _ (le-leb f.mode 3 fits.mode)
    ∙ passed _ _ _ _ (stand_test psp_kind level f.class fits.may_stand_lem)
    ∙ passed _ _ _ _ (ap not (some_false (λ j. matches (entry_of psp_kind s (directory_of 0 level n) j) f.class f.subprogram) n (λ j l. differs j (g.new j l))))
    ∙ passed _ _ _ _ (lt-ltb n 512 g.few)
    ∙ passed _ _ _ _ (le-leb (16 + n * 16 + 16) (length s) g.room)
  where
    differs : (j : ℕ) → (Matches psp_kind s (directory_of 0 level n) f.class f.subprogram j → ⊥) → matches (entry_of psp_kind s (directory_of 0 level n) j) f.class f.subprogram ≡ false
    differs j never = by (matches (entry_of psp_kind s (directory_of 0 level n) j) f.class f.subprogram) refl
      where
        by : (b : Bool) → matches (entry_of psp_kind s (directory_of 0 level n) j) f.class f.subprogram ≡ b → b ≡ false
        by true e = absurd (never (match_holds (entry_of psp_kind s (directory_of 0 level n) j) f.class f.subprogram e))
        by false e = refl

pub write_acceptance : WriteAcceptance
write_acceptance = record { start_only = start_only; start_all = start_all; extend_only = extend_only; extend_all_lem = extend_all_lem }

-- A part that is given lies in the image, and so does a place that a location leads to. Assumes nothing.
use mathlib.Core.Path.{◌≡◌, sym}
use mathlib.Core.List.{List}
use mathlib.Core.Bool.{Bool, true, false, not, cond}
use Prim.Native.Nat.{ℕ, ◌+◌, ◌≤◌}
use native.Mathlib.Omega.{arith}
use borrow.Author.Tests.{leb-true}
use lib.ListN.{length}
use lib.Dec.{leb, eqb}
use Rattle.reply.specs.Reply.{given, refused, alone, then}
use Rattle.reply.proofs.ReplyLaws.{past, then_given, met_given}
use Rattle.window.specs.Window.{offset_in}
use Rattle.window.specs.declared.Offset.{Offset}
use Rattle.window.specs.Length.{sized}
use Rattle.window.proofs.Length.{sized_past}
use Rattle.entries.specs.Entry.{entry_in}
use Rattle.entries.specs.Part.{place_in, leads_to, part_within, part_of, part_in}
use Rattle.directory.specs.declared.Kind.{Kind}
use Rattle.directory.specs.declared.Directory.{Directory}
use Rattle.entries.specs.declared.Entry.{Entry}
use Rattle.entries.specs.declared.Part.{Part}

-- mode 3 leads nowhere
pub lead_mode : (window : ℕ) (s : List ℕ) (o : ℕ) (e : Entry) → e.mode ≡ 3 → refused 16 alone ≡ leads_to window s o e
unfolding leads_to
lead_mode window s o e m = rw m

-- an offset that is given is the one asked for, and lies within the image
pub within_fact : (s : List ℕ) (x : ℕ) (p : Offset) → place_in s x ≡ given p → (x ≡ p.0) × (p.0 ≤ length s)
within_fact s x p e =
    let g = past (leb x (length s)) _ _ _ e in
    let b : x ≤ length s = leb-true _ _ g.0 in
    let q : x ≡ p.0 = cc g.1 in
    (q, omega arith)

-- a part given lies in the image
pub part_inside : (kind : Kind) (window : ℕ) (s : List ℕ) (d : Directory) (i : ℕ) (p : Part) → part_in kind window s d i ≡ given p → p.place.0 + p.length ≤ length s
unfolding part_of part_within
part_inside kind window s d i p e =
    let t = then_given (entry_in kind s d i) _ e in
    let f = t.0 in
    let g = past (not (eqb f.class kind.value)) _ _ _ (met_given _ (part_of kind window s d.place.0 f) t.2) in
    let u = then_given (leads_to window s d.place.0 f) (part_within s f.size) g.1 in
    let h = past (leb (u.0.0 + f.size) (length s)) _ _ _ u.2 in
    let b : u.0.0 + f.size ≤ length s = leb-true _ _ h.0 in
    let q : u.0.0 ≡ p.place.0 = cc h.1 in
    let r : f.size ≡ p.length = cc h.1 in
    omega arith

-- the same where the length of the image is asked first
pub sized_inside : (kind : Kind) (window : ℕ) (s : List ℕ) (d : Directory) (i : ℕ) (p : Part) → given p ≡ sized s (part_in kind window s d i) → p.place.0 + p.length ≤ length s
sized_inside kind window s d i p e = part_inside kind window s d i p (sized_past s _ (sym e)).1

-- a place that a location leads to lies in the image too
pub lead_within : (window : ℕ) (s : List ℕ) (o : ℕ) (e : Entry) (p : Offset) → leads_to window s o e ≡ given p → p.0 ≤ length s
unfolding leads_to
lead_within window s o e p h = by (eqb e.mode 0) (eqb e.mode 1) (past (not (eqb e.mode 3)) _ _ _ h).1
  where
    inside : (x : ℕ) → place_in s x ≡ given p → p.0 ≤ length s
    inside x q = (within_fact s x p q).1

    by : (b c : Bool) → cond b (then (offset_in window e.location) (λ a. place_in s a.0)) (cond c (place_in s e.location) (place_in s (o + e.location))) ≡ given p → p.0 ≤ length s
    by true c q = let t = then_given (offset_in window e.location) (λ a. place_in s a.0) q in inside t.0.0 t.2
    by false true q = inside e.location q
    by false false q = inside (o + e.location) q

-- An entry's fields, and a search among the entries, as the code comes to them. Assumes nothing.
use mathlib.Core.Path.{◌≡◌, refl, sym, ap, ◌∙◌}
use mathlib.Core.List.{List}
use mathlib.Core.Bool.{Bool, true, false, cond}
use Prim.Native.Nat.{ℕ, ◌+◌, ◌-◌, ◌/◌, ◌%◌, ◌<◌, ◌≤◌}
use native.Mathlib.Omega.{arith}
use borrow.Author.Tests.{eq-eqb, ne_eqb}
use lib.ListN.{take, drop}
use Rattle.le.specs.Le.{le_at}
use Rattle.le.proofs.Part.{le_part}
use Rattle.reply.specs.Reply.{Reply, given, refused, alone}
use Rattle.reply.specs.Scan.{scan}
use Rattle.reply.proofs.ScanLaws.{scan_start, scan_end, scan_stop, scan_pass}
use Rattle.window.specs.declared.Offset.{Offset}
use Rattle.directory.specs.Directory.{entry_place, class_at}
use Rattle.directory.specs.declared.Kind.{Kind}
use Rattle.directory.specs.declared.Directory.{Directory}
use Rattle.entries.specs.Entry.{fields_at, entry_of, lead_of, lead_step, lead_in, matches, find_step, find_in, found_at, nowhere}
use Rattle.entries.specs.declared.Entry.{Entry}
use Rattle.entries.specs.declared.Lead.{Lead}
use Rattle.entries.specs.declared.Match.{Match}

-- an entry's fields, read at its place e
pub fields_read : (s : List ℕ) (p e class subprogram size word : ℕ) → e ≡ p → word ≡ le_at 8 s (e + 8) → class ≡ le_at 1 s (e + 0) → subprogram ≡ le_at 1 s (e + 1) → size ≡ le_at 4 s (e + 4) →
    ◌≡◌ {A = Entry} (record { class = class; subprogram = subprogram; size = size; location = word % 0x4000_0000_0000_0000; mode = word / 0x4000_0000_0000_0000 % 4 }) (fields_at s p)
fields_read s p e class subprogram size word at w a b z =
    (λ i. record { class = a i; subprogram = b i; size = z i; location = w i % 0x4000_0000_0000_0000; mode = w i / 0x4000_0000_0000_0000 % 4 }) ∙ ap (fields_at s) at

-- an entry's fields, read in its own sixteen bytes, as `&s[o..e]` has them
pub fields_part : (s : List ℕ) (o e : ℕ) → e ≡ o + 16 → fields_at (take (e - o) (drop o s)) 0 ≡ fields_at s o
fields_part s o e h =
    let at : (n p : ℕ) → p + n ≤ 16 → le_at n (take (e - o) (drop o s)) p ≡ le_at n s (o + p) = λ n p l. le_part n (e - o) s o p (omega arith) in
    fields_read s o o _ _ _ _ refl (at 8 8 (omega arith)) (at 1 0 (omega arith)) (at 1 1 (omega arith)) (at 4 4 (omega arith))

-- a search from entry i on, as the code counts n entries and told the place of the directory
module _ (kind : Kind) (s : List ℕ) (d : Directory) where
  abbrev pub lead_from : (n i : ℕ) → Reply Lead
  lead_from n i = scan (lead_step kind s d) (λ _. refused 8 alone) (n - i) i

  pub lead_start : (n : ℕ) → n ≡ d.total → lead_from n 0 ≡ lead_in kind s d
  lead_start n total = scan_start (lead_step kind s d) (λ _. refused 8 alone) n ∙ ap (λ (m : ℕ). scan (lead_step kind s d) (λ _. refused 8 alone) m 0) total

  pub lead_end : (n i : ℕ) → n ≤ i → refused 8 alone ≡ lead_from n i
  lead_end n i h = sym (scan_end (lead_step kind s d) (λ _. refused 8 alone) n i h)

  module _ (at : Offset) (place : at ≡ d.place) (n i class : ℕ) (inside : i < n) (read : class ≡ class_at kind s at.0 i) where
    pub lead_here : (e : Entry) → class ≡ kind.lead → e ≡ fields_at s (entry_place kind at.0 i) → given (record { index = i; entry = e }) ≡ lead_from n i
    lead_here e hit f =
        let entry : e ≡ entry_of kind s d i = f ∙ ap (λ (o : Offset). fields_at s (entry_place kind o.0 i)) place in
        let found = eq-eqb (entry_of kind s d i).class kind.lead (ap (λ (o : Offset). class_at kind s o.0 i) (sym place) ∙ sym read ∙ hit) in
        sym (scan_stop (lead_step kind s d) (λ _. refused 8 alone) n i (given (record { index = i; entry = e })) inside
        (λ rest. ap (λ (b : Bool). cond b (given (lead_of kind s d i)) rest) found ∙ ap (λ (e : Entry). given (record { index = i; entry = e })) (sym entry)))

    pub lead_past : (class ≡ kind.lead → ⊥) → lead_from n (i + 1) ≡ lead_from n i
    lead_past miss =
        let none = ne_eqb (entry_of kind s d i).class kind.lead (λ q. miss (read ∙ ap (λ (o : Offset). class_at kind s o.0 i) place ∙ q)) in
        sym (scan_pass (lead_step kind s d) (λ _. refused 8 alone) n i inside (λ rest. ap (λ (b : Bool). cond b (given (lead_of kind s d i)) rest) none))

  module _ (class sub : ℕ) where
    abbrev pub find_from : (n i : ℕ) → Reply Match
    find_from n i = scan (find_step kind s d class sub) nowhere (n - i) i

    pub find_start : (n : ℕ) → n ≡ d.total → find_from n 0 ≡ find_in kind s d class sub
    find_start n total = scan_start (find_step kind s d class sub) nowhere n ∙ ap (λ (m : ℕ). scan (find_step kind s d class sub) nowhere m 0) total

    pub find_end : (n i : ℕ) → n ≡ i → nowhere n ≡ find_from n i
    find_end n i h = ap nowhere h ∙ sym (scan_end (find_step kind s d class sub) nowhere n i (omega (arith, h)))

    module _ (at : Offset) (place : at ≡ d.place) (n i : ℕ) (b : Bool) (inside : i < n) (test : b ≡ matches (fields_at s (entry_place kind at.0 i)) class sub) where
      tested : b ≡ matches (entry_of kind s d i) class sub
      tested = test ∙ ap (λ (o : Offset). matches (fields_at s (entry_place kind o.0 i)) class sub) place

      pub find_here : b ≡ true → found_at i ≡ find_from n i
      find_here hit = sym (scan_stop (find_step kind s d class sub) nowhere n i (found_at i) inside (λ rest. ap (λ (b : Bool). cond b (found_at i) rest) (sym tested ∙ hit)))

      pub find_past : b ≡ false → find_from n (i + 1) ≡ find_from n i
      find_past miss = sym (scan_pass (find_step kind s d class sub) nowhere n i inside (λ rest. ap (λ (b : Bool). cond b (found_at i) rest) (sym tested ∙ miss)))

-- All entries at once are, row by row, what the calls on single entries answer. Assumes nothing.
use mathlib.Core.Path.{◌≡◌, refl, sym, ap, ◌∙◌}
use mathlib.Core.List.{List, [], ◌∷◌, ◌++◌}
use Prim.Native.Nat.{ℕ, zero, suc, ◌+◌, ◌*◌, ◌<◌}
use native.Mathlib.Omega.{arith}
use lib.ListN.{length, get_or, take, drop}
use lib.Seq.{take_at, drop-append-add}
use Rattle.reply.specs.Reply.{Reply, Carried, given, refused, in_entry, then, met}
use Rattle.directory.specs.declared.Directory.{Directory}
use Rattle.entries.specs.Entry.{entry_of, entry_in}
use Rattle.entries.specs.Part.{part_of, part_in}
use Rattle.entries.specs.declared.Entry.{Entry}
use Rattle.entries.specs.declared.Part.{Part}
use Rattle.entries.proofs.Accept.{entry_acceptance}
use Rattle.efs.specs.declared.Rules.{Rules}
use Rattle.place.specs.Place.{check_at, entry_at, part_at}
use Rattle.flash_words.specs.Images.{lay_directory}
use Rattle.all_entries.specs.AllEntries.{lay_part_or, lay_row, row_at, rows_from, lay_entries}
use Rattle.all_entries.specs.RowByRow.{RowByRow, RowsAsCalls}
use Rattle.all_entries.proofs.Rows.{row_at_long, entries_long}

-- where a part was refused is in no word of its row
row_met : (e : Entry) (here : Carried) (part : Reply Part) → lay_row e part ≡ lay_row e (met here part)
row_met e here (given p) = refl
row_met e here (refused number carried) = refl

module _ (r : Rules) (s : List ℕ) (d : Directory) where
  -- of the rows of m entries from index i on, the eight words from 8 * j are the row of entry k, which is i + j
  row_at_lem : (m i j k : ℕ) → k ≡ i + j → j < m → take 8 (drop (8 * j) (rows_from r s d m i)) ≡ row_at r s d k
  unfolding rows_from
  row_at_lem zero i j k e h = absurd (let f : ⊥ = omega (arith, h) in f)
  row_at_lem (suc m) i zero k e h = let same : i ≡ k = omega (arith, e) in take_at (row_at r s d i) (rows_from r s d m (i + 1)) 8 (row_at_long r s d i) ∙ ap (row_at r s d) same
  row_at_lem (suc m) i (suc j) k e h =
      let row = row_at r s d i in
      let behind : 8 * suc j ≡ length row + 8 * j = omega (arith, row_at_long r s d i) in
      ap (λ (x : ℕ). take 8 (drop x (row ++ rows_from r s d m (i + 1)))) behind
      ∙ (ap (take 8) (drop-append-add row (rows_from r s d m (i + 1)) (8 * j)) ∙ row_at_lem m (i + 1) j k (omega (arith, e)) (omega (arith, h)))

  module _ (place : ℕ) (is : check_at r s place ≡ given d) (i : ℕ) (h : i < d.total) where
    the_entry : entry_at r s place i ≡ given (entry_of r.kind s d i)
    the_entry = ap (λ (x : Reply Directory). then x (λ d. entry_in r.kind s d i)) is ∙ entry_acceptance.all r.kind s d i h

    abbrev here : Carried
    here = in_entry d.level i d.place.0

    the_part : part_at r s place i ≡ met here (part_of r.kind r.window s d.place.0 (entry_of r.kind s d i))
    the_part =
        ap (λ (x : Reply Directory). then x (λ d. part_in r.kind r.window s d i)) is
        ∙ ap (λ (x : Reply Entry). then x (λ e. met here (part_of r.kind r.window s d.place.0 e))) (entry_acceptance.all r.kind s d i h)

    the_row : take 8 (drop (3 + 8 * i) (lay_entries r s d)) ≡ lay_row (entry_of r.kind s d i) (part_at r s place i)
    the_row =
        let e = entry_of r.kind s d i in
        ap (take 8) (drop-append-add (lay_directory d) (rows_from r s d d.total 0) (8 * i))
        ∙ (row_at_lem d.total 0 i i (omega arith) h ∙ (row_met e here (part_of r.kind r.window s d.place.0 e) ∙ ap (lay_row e) (sym the_part)))

-- a part by its two words
part_apart : (p q : Part) → lay_part_or (given p) ≡ lay_part_or (given q) → p ≡ q
part_apart p q e =
    let place : p.place.0 ≡ q.place.0 = ap (λ (l : List ℕ). get_or l 1 0) e in
    let long : p.length ≡ q.length = ap (λ (l : List ℕ). get_or l 2 0) e in
    λ j. record { place = record { 0 = place j }; length = long j }

pub rows_as_calls : RowsAsCalls
rows_as_calls = record {
  every = λ r s place d is. record { words = entries_long r s d; head = refl; entry = the_entry r s d place is; row = the_row r s d place is };
  apart = part_apart;
}

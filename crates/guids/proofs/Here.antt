-- The ends of entries and of the table: read where they were put, and put where they were read. Assumes nothing.
use mathlib.Core.Path.{◌≡◌, refl, sym, ap, ◌∙◌}
use mathlib.Core.List.{List, ◌++◌}
use Prim.Native.Nat.{ℕ, ◌+◌, ◌-◌, ◌^◌, ◌<◌, ◌≤◌}
use native.Mathlib.Omega.{arith}
use lib.ListN.{length, take, drop}
use Rattle.le.specs.Le.{le_at, le_bytes, Bytes, bytes_of}
use Rattle.le.specs.Field.{Field, get}
use Rattle.le.proofs.Part.{le_part}
use Rattle.le.proofs.Numbers.{held, held_again}
use Rattle.guids.specs.declared.Guid.{Guid}
use Rattle.guids.specs.Ending as ending
use Rattle.guids.specs.Table.{length_at, guid_at, end_fields, end_bytes}
use Rattle.guids.specs.Layout.{Sixteen}

-- a field of an end, read in the end's part
in_end : (f : Field) (s : List ℕ) (o : ℕ) → f.at + f.bytes ≤ 18 → le_at f.bytes (take (o + 18 - o) (drop o s)) f.at ≡ get f s o
in_end f s o h = le_part f.bytes (o + 18 - o) s o f.at (omega arith)

module _ (s : List ℕ) (o : ℕ) where
  pub length_in : le_at 2 (take (o + 18 - o) (drop o s)) 0 ≡ length_at s o
  length_in = in_end ending.whole_length s o (omega arith)

  pub low_in : le_at 8 (take (o + 18 - o) (drop o s)) 2 ≡ (guid_at s o).low
  low_in = in_end ending.low s o (omega arith)

  pub high_in : le_at 8 (take (o + 18 - o) (drop o s)) 10 ≡ (guid_at s o).high
  high_in = in_end ending.high s o (omega arith)

-- the places of an end's fields, and where one ends the next begins
module _ (s : List ℕ) (o : ℕ) where
  at_length : le_at 2 s o ≡ length_at s o
  at_length = ap (le_at 2 s) (omega arith)

  at_high : le_at 8 s (o + 2 + 8) ≡ (guid_at s o).high
  at_high = ap (le_at 8 s) (omega arith)

module _ (n : ℕ) (g : Guid) where
  pub length_end : length (end_bytes n g) ≡ 18
  unfolding bytes_of le_bytes
  length_end = refl

  -- the length and the GUID that an end behind xs in s holds
  pub end_here : (s xs ys : List ℕ) (o : ℕ) → length xs ≡ o → s ≡ xs ++ (end_bytes n g ++ ys) → n < 2 ^ 16 → Sixteen g → (length_at s o ≡ n) × (guid_at s o ≡ g)
  end_here s xs ys o at e c w =
      let h = held (end_fields n g) s xs ys o e at (c, (w.low, (w.high, tt))) in
      let high = sym (at_high s o) ∙ h.1.1.0 in
      (sym (at_length s o) ∙ h.0, λ j. record { low = h.1.0 j; high = high j })

-- in an image of bytes, an end that was read is written again
pub end_back : (s : List ℕ) → Bytes s → (o : ℕ) → o + 18 ≤ length s → end_bytes (length_at s o) (guid_at s o) ≡ take 18 (drop o s)
unfolding bytes_of le_bytes
end_back s bytes o h = held_again (end_fields (length_at s o) (guid_at s o)) s o bytes h (at_length s o, (refl, (at_high s o, tt)))

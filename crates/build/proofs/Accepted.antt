-- What was accepted has the bytes of its level and entries, and is written again as it was. Assumes nothing.
use mathlib.Core.Path.{◌≡◌, refl, sym, ap, ◌∙◌}
use mathlib.Core.List.{List}
use Prim.Native.Nat.{ℕ, zero, suc, ◌+◌, ◌*◌, ◌<◌, ◌≤◌}
use native.Mathlib.Nat.{zero-add, div-one}
use native.Mathlib.Omega.{arith}
use lib.ListN.{length, get_or, take, drop}
use Rattle.le.specs.Le.{le_at, le_bytes, Bytes}
use Rattle.le.proofs.Laws.{le_small}
use Rattle.le.proofs.Part.{part_add}
use Rattle.le.proofs.Back.{le_again}
use Rattle.fletcher.specs.Fletcher.{fletcher_of}
use Rattle.reply.specs.Scan.{All}
use Rattle.directory.specs.Directory.{psp_kind, cookie_of, directory_of}
use Rattle.entries.specs.Entry.{entry_of}
use Rattle.entries.proofs.PartAccept.{two_bits}
use Rattle.directory.specs.Good.{GoodDirectory}
use Rattle.directory.specs.declared.Directory.{Directory}
use Rattle.build.specs.declared.Fields.{Fields}
use Rattle.build.specs.Write.{entries_bytes, summed_bytes, directory_bytes}
use Rattle.build.specs.Accept.{Fits}
use Rattle.build.specs.Back.{Sized, blank, fields_of, entries_from, entries_of}
use Rattle.build.proofs.Places.{entry_again, summed_numbers, directory_numbers}
use Rattle.build.proofs.Grow.{Sound}

module _ (s : List ℕ) (d : Directory) where
  pub length_from : (m i : ℕ) → length (entries_from s d m i) ≡ m
  unfolding entries_from
  length_from zero i = refl
  length_from (suc m) i = ap suc (length_from m (i + 1))

  all_from : (P : Fields → Type 0) (m i : ℕ) → ((j : ℕ) → i ≤ j → j < i + m → P (fields_of (entry_of psp_kind s d j))) → All P (entries_from s d m i)
  unfolding entries_from
  all_from P zero i h = tt
  all_from P (suc m) i h = (h i (omega arith) (omega arith), all_from P m (i + 1) (λ j a b. h j (omega arith) (omega arith)))

  from_at : (m i j : ℕ) → j < m → get_or (entries_from s d m i) j blank ≡ fields_of (entry_of psp_kind s d (i + j))
  unfolding entries_from
  from_at zero i j h = absurd (let z : ⊥ = omega arith in z)
  from_at (suc m) i zero h = ap (λ (k : ℕ). fields_of (entry_of psp_kind s d k)) (omega arith)
  from_at (suc m) i (suc j) h = from_at m (i + 1) j (omega arith) ∙ ap (λ (k : ℕ). fields_of (entry_of psp_kind s d k)) (omega arith)

-- what the reader tells of a directory of this level and total at a buffer's start
abbrev pub told_in : List ℕ → ℕ → ℕ → List Fields
told_in s level n = entries_of s (directory_of 0 level n)

-- a good directory at a buffer's start
module _ (s : List ℕ) (bytes : Bytes s) (level n : ℕ) (good : GoodDirectory psp_kind 512 s (directory_of 0 level n)) where
  zeros : (j : ℕ) → j < n → le_at 2 s (16 + j * 16 + 2) ≡ 0
  zeros j h = sym (div-one (le_at 2 s (16 + j * 16 + 2))) ∙ (good.entries j h).reserved

  entries_bytes_lem : (m i : ℕ) → i + m ≤ n → entries_bytes (entries_from s (directory_of 0 level n) m i) ≡ take (m * 16) (drop (16 + i * 16) s)
  unfolding entries_bytes entries_from
  entries_bytes_lem zero i h = refl
  entries_bytes_lem (suc m) i h =
      let e = 16 + i * 16 in
      let room : 16 + n * 16 ≤ length s = good.present in
      let next : 16 + (i + 1) * 16 ≡ e + 16 = omega arith in
      let long : 16 + m * 16 ≡ suc m * 16 = omega arith in
      rw (entry_again s bytes e (omega arith) (zeros i (omega arith)), entries_bytes_lem m (i + 1) (omega arith), next, part_add s e 16 (m * 16), long) refl

  summed_bytes_lem : summed_bytes (told_in s level n) ≡ take (8 + n * 16) (drop 8 s)
  summed_bytes_lem =
      let told = told_in s level n in
      let room : 16 + n * 16 ≤ length s = good.present in
      let number : length told ≡ le_at 4 s 8 = length_from s (directory_of 0 level n) n 0 ∙ sym good.total in
      let one : le_bytes 4 (length told) ≡ take 4 (drop 8 s) = ap (le_bytes 4) number ∙ le_again s bytes 4 8 (omega arith) in
      let two : le_bytes 4 0 ≡ take 4 (drop 12 s) = ap (le_bytes 4) (sym good.reserved) ∙ le_again s bytes 4 12 (omega arith) in
      summed_numbers told ∙ rw (one, two, entries_bytes_lem n 0 (omega arith), part_add s 8 4 4, part_add s 8 8 (n * 16)) refl

  pub directory_bytes_lem : directory_bytes level (told_in s level n) ≡ take (16 + n * 16) s
  directory_bytes_lem =
      let told = told_in s level n in
      let room : 16 + n * 16 ≤ length s = good.present in
      let one : le_bytes 4 (cookie_of psp_kind level) ≡ take 4 s = ap (le_bytes 4) (sym good.cookie) ∙ le_again s bytes 4 0 (omega arith) in
      let two : le_bytes 4 (fletcher_of (summed_bytes told)) ≡ take 4 (drop 4 s) =
      ap (le_bytes 4) (ap fletcher_of summed_bytes_lem ∙ sym good.checksum) ∙ le_again s bytes 4 4 (omega arith) in
      let long : 8 + (8 + n * 16) ≡ 16 + n * 16 = omega arith in
      directory_numbers level told ∙ rw (one, two, summed_bytes_lem, part_add s 0 4 4, part_add s 0 8 (8 + n * 16), long) refl

  pub told_sound : Sound level (told_in s level n)
  told_sound = record {
    either = good.level;
    few = omega (arith, good.few, length_from s (directory_of 0 level n) n 0);
    apart = λ i j h l same.
        let d = directory_of 0 level n in
        let below : i < n = omega (arith, length_from s d n 0) in
        let x = from_at s d n 0 i below ∙ ap (λ (k : ℕ). fields_of (entry_of psp_kind s d k)) (zero-add i) in
        let y = from_at s d n 0 j (omega arith) ∙ ap (λ (k : ℕ). fields_of (entry_of psp_kind s d k)) (zero-add j) in
        good.first i below refl j l (
          sym (ap (λ (f : Fields). f.class) y) ∙ same.0 ∙ ap (λ (f : Fields). f.class) x,
          sym (ap (λ (f : Fields). f.subprogram) y) ∙ same.1 ∙ ap (λ (f : Fields). f.subprogram) x,
        );
    sized = all_from s (directory_of 0 level n) Sized n 0 (λ j a b. record {
      class = le_small s bytes 1 (16 + j * 16 + 0);
      subprogram = le_small s bytes 1 (16 + j * 16 + 1);
      size = le_small s bytes 4 (16 + j * 16 + 4);
    });
    fits = all_from s (directory_of 0 level n) (Fits level) n 0 (λ j a b. record {
      location = omega arith;
      mode = two_bits s (16 + j * 16);
      may_stand_lem = (good.entries j (omega arith)).may_stand_lem;
    });
  }

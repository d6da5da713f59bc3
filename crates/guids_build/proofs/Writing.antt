-- What starting and extending a table cite. Assumes nothing.
use mathlib.Core.Path.{◌≡◌, sym, ap, ◌∙◌}
use mathlib.Core.List.{List}
use mathlib.Core.Bool.{true, false}
use Prim.Native.Nat.{ℕ, ◌+◌, ◌-◌, ◌<◌, ◌≤◌}
use native.Mathlib.Omega.{arith}
use borrow.Author.Tests.{leb-true, le-leb, lt-leb, ne_eqb}
use lib.ListN.{length, get_or, take, drop, drop_of_length-le}
use lib.Dec.{leb}
use Rattle.le.specs.Le.{le_bytes, put_bytes, put_at}
use Rattle.le.proofs.Numbers.{puts_all}
use Rattle.le.proofs.Part.{drop_next}
use Rattle.le.proofs.Put.{put_join}
use Rattle.le.proofs.Back.{put_long}
use Rattle.reply.specs.Reply.{given, refused, alone}
use Rattle.reply.proofs.ReplyLaws.{past, then_given}
use Rattle.guids.specs.declared.Guid.{Guid}
use Rattle.guids.specs.declared.Totals.{Totals}
use Rattle.guids.specs.Table.{end_fields, end_bytes, footer_at, table_of}
use Rattle.guids_build.specs.Write.{start_of, all_zero, begins_at, room_for, extend_of, with_total, extended_by}
use Rattle.guids.proofs.Walk.{Good, good_table}
use Rattle.guids.proofs.Here.{length_end}

-- what the table and each entry end with, written one number behind the other
pub put_end_lem : (n : ℕ) (g : Guid) (s : List ℕ) (o : ℕ) → o + 18 ≤ length s → put_at 8 g.high (put_at 8 g.low (put_at 2 n s (o + 0)) (o + 2)) (o + 10) ≡ put_bytes (end_bytes n g) s o
put_end_lem n g s o h =
    let first : o + 0 ≡ o = omega arith in
    let third : o + 10 ≡ o + 2 + 8 = omega arith in
    (λ j. put_at 8 g.high (put_at 8 g.low (put_at 2 n s (first j)) (o + 2)) (third j)) ∙ puts_all (end_fields n g) s o (rw (length_end n g) h)

pub start_none : (s : List ℕ) → length s < 50 → start_of s ≡ refused 12 alone
unfolding start_of
start_none s h = simp (lt-leb 50 (length s) h)

pub start_some : (s : List ℕ) → 50 ≤ length s → start_of s ≡ given 18
unfolding start_of
start_some s h = simp (le-leb 50 (length s) h)

-- the test for zero bytes, one byte at a time
module _ (s : List ℕ) (i : ℕ) where
  pub zero_end : length s ≤ i → all_zero (drop i s) ≡ true
  unfolding all_zero
  zero_end h = rw (drop_of_length-le s h)

  pub zero_step : i < length s → get_or s i 0 ≡ 0 → all_zero (drop i s) ≡ all_zero (drop (i + 1) s)
  unfolding all_zero
  zero_step h z = rw (drop_next s i h, z)

  pub zero_stop : i < length s → (get_or s i 0 ≡ 0 → ⊥) → all_zero (drop i s) ≡ false
  unfolding all_zero
  zero_stop h n = rw (drop_next s i h, ne_eqb (get_or s i 0) 0 n)

-- what an extend that is accepted says
pub record Room (s bytes : List ℕ) (total : ℕ) : Type 0 where
  pub old : Totals
  pub good : Good s old
  pub new : old.total + (length bytes + 18) ≡ total
  pub small : total ≤ 65_535
  pub fits : total ≤ length s - 32
  pub zeros : all_zero (take (length bytes + 18) (drop (length s - 32 - total) s)) ≡ true

pub room_facts : (s bytes : List ℕ) (total : ℕ) → extend_of s bytes ≡ given total → Room s bytes total
unfolding room_for
room_facts s bytes total e =
    let t = then_given (table_of s) (λ t. room_for s (length bytes + 18) (t.total + (length bytes + 18))) e in
    let n = t.0.total + (length bytes + 18) in
    let a = past (leb n 65_535) _ _ _ t.2 in
    let b = past (leb n (length s - 32)) _ _ _ a.1 in
    let d = past (all_zero (take (length bytes + 18) (drop (length s - 32 - n) s))) _ _ (given n) b.1 in
    let q : n ≡ total = cc d.1 in
    record {
      old = t.0;
      good = good_table s t.0 t.1;
      new = q;
      small = omega (arith, leb-true n 65_535 a.0);
      fits = omega (arith, leb-true n (length s - 32) b.0);
      zeros = ap (λ (k : ℕ). all_zero (take (length bytes + 18) (drop (length s - 32 - k) s))) (sym q) ∙ d.0;
    }

-- the total, the data and the end, written one behind the other: the buffer's length stays, and the entry is written
module _ (s bytes : List ℕ) (total : ℕ) where
  pub written_long : length (put_bytes bytes (with_total s total) (begins_at s total)) ≡ length s
  written_long = put_long bytes (with_total s total) _ ∙ put_long _ s _

  pub written_entry : (g : Guid) → Room s bytes total → put_bytes (end_bytes (length bytes + 18) g) (put_bytes bytes (with_total s total) (begins_at s total)) (begins_at s total + length bytes) ≡ extended_by s g bytes (given total)
  written_entry g room =
      put_join bytes (end_bytes (length bytes + 18) g) (with_total s total) (begins_at s total) (omega (arith, length_end (length bytes + 18) g, put_long (le_bytes 2 total) s (footer_at s + 0), room.new, room.fits))

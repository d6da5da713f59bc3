-- A table's entries, walked in a part of the image: the same as in the image, but for where they lie. Assumes nothing.
use mathlib.Core.Path.{◌≡◌, refl, sym, ap, ◌∙◌}
use mathlib.Core.List.{List, [], ◌∷◌, map}
use mathlib.Core.Bool.{Bool, true, false, cond}
use Prim.Native.Nat.{ℕ, zero, suc, ◌+◌, ◌-◌, ◌≤◌}
use native.Mathlib.Omega.{arith}
use borrow.Author.Tests.{leb-true}
use lib.ListN.{length, take, drop}
use lib.Dec.{leb, eqb}
use Rattle.std.proofs.lemmas.List.{length-map, length-take-le, take-take}
use Rattle.le.specs.Le.{le_at}
use Rattle.le.specs.Field.{Field, get}
use Rattle.le.proofs.Part.{le_part, part_length}
use Rattle.reply.specs.Reply.{Reply, given, refused, guard, then}
use Rattle.reply.proofs.ReplyLaws.{check_same, then_same}
use Rattle.guids.specs.Ending as ending
use Rattle.guids.specs.declared.GuidEntry.{GuidEntry}
use Rattle.guids.specs.Table.{guid_at, length_before, entry_before, entries_in, entries_before, entries_under, entries_part}
use Rattle.guids.proofs.Walk.{Header, length_facts, with_entry}

-- two steps, one by one or the latter two first
then_then : {A B C : Type 0} (r : Reply A) (f : A → Reply B) (g : B → Reply C) → then (then r f) g ≡ then r (λ a. then (f a) g)
then_then (given a) f g = refl
then_then (refused number carried) f g = refl

-- a part of s that begins at place o
module _ (s part : List ℕ) (o : ℕ) (is : part ≡ take (length part) (drop o s)) where
  get_part : (f : Field) (e : ℕ) → 18 ≤ e → e ≤ length part → f.at + f.bytes ≤ 18 → get f part (e - 18) ≡ get f s (o + e - 18)
  get_part f e a b h =
      ap (λ (x : List ℕ). get f x (e - 18)) is ∙ le_part f.bytes (length part) s o (e - 18 + f.at) (omega arith) ∙ ap (le_at f.bytes s) (omega arith)

  pub guid_part : (e : ℕ) → 18 ≤ e → e ≤ length part → guid_at part (e - 18) ≡ guid_at s (o + e - 18)
  guid_part e a b =
      let low = get_part ending.low e a b (omega arith) in
      let high = get_part ending.high e a b (omega arith) in
      λ j. record { low = low j; high = high j }

  pub length_part : (e left : ℕ) → left ≤ e → e ≤ length part → length_before part e left ≡ length_before s (o + e) left
  unfolding length_before
  length_part e left a b =
      check_same (leb 18 left) _ _ _ _ (λ t.
      let l = leb-true 18 left t in
      ap (λ (n : ℕ). guard (leb 18 n) 6 (guard (leb n left) 6 (given n))) (get_part ending.whole_length e (omega arith) b (omega arith)))

  -- an entry of the part, as it lies in s
  abbrev moved : GuidEntry → GuidEntry
  moved x = record { guid = x.guid; place = o + x.place; length = x.length }

  entry_part : (e n : ℕ) → 18 ≤ n → n ≤ e → e ≤ length part → moved (entry_before part e n) ≡ entry_before s (o + e) n
  entry_part e n a b h =
      let guid = guid_part e (omega arith) h in
      let place : o + (e - n) ≡ o + e - n = omega arith in
      λ j. record { guid = guid j; place = place j; length = n - 18 }

  walk_part : (steps e left : ℕ) → left ≤ e → e ≤ length part → then (entries_in steps part e left) (λ es. given (map moved es)) ≡ entries_in steps s (o + e) left
  unfolding entries_in
  walk_part zero e left a b = by (eqb left 0)
    where
      by : (z : Bool) → then (guard z 6 (given [])) (λ es. given (map moved es)) ≡ guard z 6 (given [])
      by true = refl
      by false = refl
  walk_part (suc steps) e left a b = by (eqb left 0) (walk_part steps)
    where
      step : (n : ℕ) → 18 ≤ n → n ≤ left → ((e left : ℕ) → left ≤ e → e ≤ length part → then (entries_in steps part e left) (λ es. given (map moved es)) ≡ entries_in steps s (o + e) left) →
          then (then (entries_in steps part (e - n) (left - n)) (with_entry (entry_before part e n))) (λ es. given (map moved es)) ≡ then (entries_in steps s (o + e - n) (left - n)) (with_entry (entry_before s (o + e) n))
      step n least most behind =
          let place : o + e - n ≡ o + (e - n) = omega arith in
          let here = entry_part e n least (omega arith) b in
          then_then (entries_in steps part (e - n) (left - n)) _ _
          ∙ (λ j. then (entries_in steps part (e - n) (left - n)) (λ es. given (here j ∷ map moved es)))
          ∙ sym (then_then (entries_in steps part (e - n) (left - n)) (λ es. given (map moved es)) (with_entry (entry_before s (o + e) n)))
          ∙ ap (λ (r : Reply (List GuidEntry)). then r (with_entry (entry_before s (o + e) n))) (behind (e - n) (left - n) (omega arith) (omega arith) ∙ ap (λ (k : ℕ). entries_in steps s k (left - n)) (sym place))

      by : (z : Bool) → ((e left : ℕ) → left ≤ e → e ≤ length part → then (entries_in steps part e left) (λ es. given (map moved es)) ≡ entries_in steps s (o + e) left) →
          then (cond z (given []) (then (length_before part e left) (λ n. then (entries_in steps part (e - n) (left - n)) (with_entry (entry_before part e n))))) (λ es. given (map moved es))
          ≡ cond z (given []) (then (length_before s (o + e) left) (λ n. then (entries_in steps s (o + e - n) (left - n)) (with_entry (entry_before s (o + e) n))))
      by true behind = refl
      by false behind =
          then_then (length_before part e left) _ _
          ∙ then_same (length_before part e left) _ _ (λ n h. let f = length_facts part e left n h in step n f.1 f.2 behind)
          ∙ ap (λ (r : Reply ℕ). then r (λ n. then (entries_in steps s (o + e - n) (left - n)) (with_entry (entry_before s (o + e) n)))) (length_part e left a b)

  -- so many entries has the part
  pub count_part : (e : ℕ) → e ≤ length part → then (entries_before part e e) (λ es. given (length es)) ≡ then (entries_before s (o + e) e) (λ es. given (length es))
  count_part e h =
      then_same (entries_before part e e) _ _ (λ es q. ap (λ (n : ℕ). given n) (sym (length-map es moved)))
      ∙ sym (then_then (entries_before part e e) (λ es. given (map moved es)) (λ es. given (length es)))
      ∙ ap (λ (r : Reply (List GuidEntry)). then r (λ es. given (length es))) (walk_part e e e (omega arith) h)

-- what a part begins with lies there too
pub front_lies : (s part : List ℕ) (o : ℕ) → part ≡ take (length part) (drop o s) → (k : ℕ) → k ≤ length part → (length (take k part) ≡ k) × (take k part ≡ take (length (take k part)) (drop o s))
front_lies s part o is k h =
    let long : length (take k part) ≡ k = length-take-le k part h in
    (long, ap (take k) is ∙ take-take k (length part) (drop o s) h ∙ ap (λ (n : ℕ). take n (drop o s)) (sym long))

-- the part that the entries of a good table are
module _ (s : List ℕ) (total o : ℕ) (part : List ℕ) (header : Header s total) (is : part ≡ entries_part s total) (at : o ≡ length s - 32 - total) where
  pub part_long : length part ≡ total - 18
  part_long = ap length is ∙ part_length s (length s - 32 - total) (total - 18) (omega (arith, header))

  pub part_lies : part ≡ take (length part) (drop o s)
  part_lies = is ∙ (λ j. take (sym part_long j) (drop (sym at j) s))

  pub part_under : entries_before s (o + length part) (length part) ≡ entries_under s total
  part_under =
      let end : o + (total - 18) ≡ length s - 50 = omega (arith, header) in
      rw (part_long, end)

  pub count_under : then (entries_before part (length part) (length part)) (λ es. given (length es)) ≡ then (entries_under s total) (λ es. given (length es))
  count_under = count_part s part o part_lies (length part) (omega arith) ∙ ap (λ (r : Reply (List GuidEntry)). then r (λ es. given (length es))) part_under

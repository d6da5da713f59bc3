-- What a start and extends leave is read back, and what was accepted is written again. Assumes nothing.
use mathlib.Core.Path.{◌≡◌, refl, sym, ap, subst, ◌∙◌}
use mathlib.Core.List.{List, [], ◌∷◌, ◌++◌, map, append_assoc, append-nil}
use mathlib.Core.Bool.{Bool, true, false, ◌&&◌}
use Prim.Native.Nat.{ℕ, zero, suc, ◌+◌, ◌-◌, ◌≤◌}
use native.Mathlib.Nat.{add-zero}
use native.Mathlib.Omega.{arith}
use borrow.Author.Tests.{leb-true, le-leb, eqb-true}
use lib.ListN.{length, take, drop, replicate, length-append, length-drop, length-replicate, replicate-append-replicate, take-append-drop}
use lib.Dec.{leb, eqb}
use lib.Seq.{append_snoc, drop-append-le, take_at, drop_at, length-take-le}
use Rattle.le.specs.Le.{le_bytes, put_bytes, Bytes, bytes_of}
use Rattle.le.specs.Field.{filled}
use Rattle.le.proofs.Put.{put_some, length_le_bytes}
use Rattle.le.proofs.Back.{put_long, put_over}
use Rattle.reply.specs.Reply.{Reply, given, then}
use Rattle.reply.specs.Scan.{All}
use Rattle.reply.proofs.ReplyLaws.{past, then_given, apart}
use Rattle.guids.specs.declared.Guid.{Guid}
use Rattle.guids.specs.declared.GuidEntry.{GuidEntry}
use Rattle.guids.specs.declared.Totals.{Totals}
use Rattle.guids.specs.Ending as ending
use Rattle.guids.specs.Table.{footer, footer_at, end_bytes, entry_bytes, total_at, entries_of, totals_of, table_of}
use Rattle.guids_build.specs.Write.{start_of, started_by, all_zero, begins_at, room_for, extend_of, with_total, extended_by}
use Rattle.guids.specs.Layout.{Item, items_bytes, total_of, image_of, Sixteen, Whole, Laid, entries_at, item_of, items_of}
use Rattle.guids_build.specs.Back.{started, StartGives, Extendable, ExtendAcceptance, ExtendAdds, extend_all, ItemsBack, cleared, SameAgain}
use Rattle.guids.proofs.Walk.{list_of, good_table}
use Rattle.guids_build.proofs.Writing.{start_some, room_facts}
use Rattle.guids.proofs.Here.{length_end}
use Rattle.guids.proofs.Laid.{length_entry, laid_length, laid_total, laid_entries, laid_items, items_laid}

-- the bytes of two lists of items: the second lies farther from the footer
items_append : (xs ys : List Item) → items_bytes (xs ++ ys) ≡ items_bytes ys ++ items_bytes xs
unfolding items_bytes
items_append [] ys = sym (append-nil (items_bytes ys))
items_append (x ∷ xs) ys = ap (λ (l : List ℕ). l ++ entry_bytes x.guid x.bytes) (items_append xs ys) ∙ append_assoc (items_bytes ys) (items_bytes xs) _

items_far : (xs : List Item) (i : Item) → items_bytes (xs ++ i ∷ []) ≡ entry_bytes i.guid i.bytes ++ items_bytes xs
unfolding items_bytes
items_far xs i = items_append xs (i ∷ [])

length_far : (xs : List Item) (i : Item) → length (items_bytes (xs ++ i ∷ [])) ≡ length (items_bytes xs) + (length i.bytes + 18)
length_far xs i = ap length (items_far xs i) ∙ length-append (entry_bytes i.guid i.bytes) (items_bytes xs) ∙ omega (arith, length_entry i.guid i.bytes)

entries_far : (o : ℕ) (xs : List Item) (i : Item) → entries_at o (xs ++ i ∷ []) ≡ entries_at (o + (length i.bytes + 18)) xs ++ record { guid = i.guid; place = o; length = length i.bytes } ∷ []
unfolding items_bytes entries_at
entries_far o [] i = ap (λ (k : ℕ). record { guid = i.guid; place = k; length = length i.bytes } ∷ []) (add-zero o)
entries_far o (x ∷ xs) i =
    let place : o + length (items_bytes (xs ++ i ∷ [])) ≡ o + (length i.bytes + 18) + length (items_bytes xs) = omega (arith, length_far xs i) in
    let rest = entries_far o xs i in
    λ j. record { guid = x.guid; place = place j; length = length x.bytes } ∷ rest j

whole_far : (xs : List Item) (i : Item) → All Whole xs → Sixteen i.guid → All Whole (xs ++ i ∷ [])
whole_far [] i w a = (a, tt)
whole_far (x ∷ xs) i w a = (w.0, whole_far xs i w.1 a)

-- a start, whatever the buffer held
start_laid : (s : List ℕ) → 50 ≤ length s → Laid (started s) []
unfolding items_bytes
start_laid s h =
    let behind : footer_at s + 18 ≡ length s - 32 = omega arith in
    record {
      front = take (footer_at s) s;
      back = drop (length s - 32) s;
      is =
          ap (started_by s) (start_some s h) ∙ put_some (end_bytes 18 footer) s (footer_at s) (omega (arith, length_end 18 footer))
          ∙ rw (length_end 18 footer, behind) (append_assoc (take (footer_at s) s) (end_bytes 18 footer) (drop (length s - 32) s));
      behind = length-drop (length s - 32) s ∙ omega arith;
      small = omega arith;
      whole = tt;
    }

start_only : (s : List ℕ) (total : ℕ) → start_of s ≡ given total → (50 ≤ length s) × (total ≡ 18)
unfolding start_of
start_only s total e = let g = past (leb 50 (length s)) _ _ (given 18) e in (leb-true _ _ g.0, cc g.1)

start_table : (s : List ℕ) → 50 ≤ length s → table_of (started s) ≡ given (record { total = 18; entries = 0 })
unfolding items_bytes entries_at
start_table s h =
    let l = start_laid s h in
    rw (laid_entries (started s) [] l, laid_total (started s) [] l)

pub start_gives : StartGives
start_gives = record { only = start_only; all = start_some; table = start_table }

-- an extend of a table laid out, with a GUID and data
module _ (s : List ℕ) (items : List Item) (l : Laid s items) (g : Guid) (bytes : List ℕ) where
  abbrev more : ℕ
  more = length bytes + 18

  abbrev further : List Item
  further = items ++ record { guid = g; bytes = bytes } ∷ []

  -- what it leaves, where as many bytes as it takes lie before the table
  extended_is : (front used : List ℕ) → l.front ≡ front ++ used → length used ≡ more → extended_by s g bytes (given (total_of items + more)) ≡ image_of front further l.back
  unfolding bytes_of
  extended_is front used before size =
      let total = total_of items + more in
      let old = items_bytes items in
      let entry = entry_bytes g bytes in
      let end = bytes_of (filled ending.low footer.low ∷ filled ending.high footer.high ∷ []) ++ l.back in
      let all : length s ≡ length l.front + (total_of items + 32) = laid_length s items l in
      let first : length l.front ≡ length front + more = ap length before ∙ length-append front used ∙ ap (λ (k : ℕ). length front + k) size in
      let mid : length (l.front ++ old) ≡ length l.front + length old = length-append l.front old in
      let one : with_total s total ≡ (l.front ++ old) ++ (le_bytes 2 total ++ end) =
      put_over s (l.front ++ old) end (footer_at s + 0) (omega arith) (le_bytes 2 total) (le_bytes 2 (total_of items)) (l.is ∙ simp append_assoc)
      (length_le_bytes 2 (total_of items) ∙ sym (length_le_bytes 2 total)) in
      let two : put_bytes entry (with_total s total) (begins_at s total) ≡ front ++ (entry ++ (old ++ (le_bytes 2 total ++ end))) =
      put_over (with_total s total) front (old ++ (le_bytes 2 total ++ end)) (begins_at s total) (omega arith) entry used (one ∙ rw before (simp append_assoc))
      (size ∙ sym (length_entry g bytes)) in
      let new : total_of further ≡ total = omega (arith, length_far items (record { guid = g; bytes = bytes })) in
      two ∙ rw (new, items_far items (record { guid = g; bytes = bytes })) (simp append_assoc)

  -- where it is accepted its entry lies at the far end, and the place of it is where the table now begins
  extend_laid : (total : ℕ) → Sixteen g → extend_of s bytes ≡ given total →
      (after : Laid (extended_by s g bytes (given total)) further) × (length l.front ≡ length after.front + more) × (length after.front ≡ begins_at s total)
  extend_laid total a h =
      let r = room_facts s bytes total h in
      let all : length s ≡ length l.front + (total_of items + 32) = laid_length s items l in
      let new : total_of items + more ≡ total = omega (arith, laid_total s items l, r.good.header.is, r.new) in
      let fits : total ≤ length s - 32 = r.fits in
      let from = length l.front - more in
      let first : length (take from l.front) ≡ from = length-take-le from l.front (omega arith) in
      let last : length (drop from l.front) ≡ more = length-drop from l.front ∙ omega arith in
      let small : total_of further ≤ 65_535 = omega (arith, length_far items (record { guid = g; bytes = bytes }), r.small) in (
        record {
          front = take from l.front;
          back = l.back;
          is = rw new at (extended_is (take from l.front) (drop from l.front) (sym (take-append-drop from l.front)) last);
          behind = l.behind;
          small = small;
          whole = whole_far items _ l.whole a;
        },
        omega arith,
        omega arith,
      )

zeros_zero : (n : ℕ) → all_zero (replicate n 0) ≡ true
unfolding all_zero
zeros_zero zero = refl
zeros_zero (suc n) = zeros_zero n

-- it is accepted where the bytes before the table are zero and the total stays small
extend_given : (s : List ℕ) (items : List Item) (l : Laid s items) (bytes front : List ℕ) → l.front ≡ front ++ replicate (length bytes + 18) 0 →
    total_of items + (length bytes + 18) ≤ 65_535 → extend_of s bytes ≡ given (total_of items + (length bytes + 18))
unfolding room_for
extend_given s items l bytes front before small =
    let more = length bytes + 18 in
    let total = total_of items + more in
    let zeros : List ℕ = replicate more 0 in
    let all : length s ≡ length l.front + (total_of items + 32) = laid_length s items l in
    let first : length l.front ≡ length front + more = ap length before ∙ length-append front zeros ∙ ap (λ (k : ℕ). length front + k) (length-replicate more 0) in
    let from : begins_at s total ≡ length front = omega arith in
    let rest = items_bytes items ++ (end_bytes (total_of items) footer ++ l.back) in
    let is : s ≡ front ++ (zeros ++ rest) = l.is ∙ ap (λ (x : List ℕ). x ++ rest) before ∙ append_assoc front zeros rest in
    let used : take more (drop (begins_at s total) s) ≡ zeros =
    rw from (ap (λ (x : List ℕ). take more (drop (length front) x)) is ∙ ap (take more) (drop_at front (zeros ++ rest) (length front) refl) ∙ take_at zeros rest more (length-replicate more 0)) in
    rw (laid_entries s items l, laid_total s items l)
    (simp (le-leb total 65_535 small, le-leb total (length s - 32) (omega arith), used, zeros_zero more))

-- an image of bytes whose table is given is laid out
module _ (s : List ℕ) (bytes : Bytes s) (es : List GuidEntry) (h : entries_of s ≡ given es) where
  given_laid : Laid s (map (item_of s) es)
  given_laid = items_laid s bytes (map (item_of s) es) (rw h)

  given_entries : es ≡ entries_at (length given_laid.front) (map (item_of s) es)
  given_entries = let q = sym h ∙ laid_entries s (map (item_of s) es) given_laid in cc

-- bytes that are all zero
zeros_are : (l : List ℕ) → all_zero l ≡ true → l ≡ replicate (length l) 0
unfolding all_zero
zeros_are [] e = refl
zeros_are (b ∷ l) e = by (eqb b 0) refl e (zeros_are l)
  where
    by : (t : Bool) → eqb b 0 ≡ t → (t && all_zero l) ≡ true → (all_zero l ≡ true → l ≡ replicate (length l) 0) → b ∷ l ≡ 0 ∷ replicate (length l) 0
    by true z q f = let h = eqb-true b 0 z in let r = f q in λ j. h j ∷ r j
    by false z q f = apart q refl

extend_only : (s bytes : List ℕ) (total : ℕ) → Bytes s → extend_of s bytes ≡ given total → Extendable s bytes total
extend_only s bytes total b e =
    let r = room_facts s bytes total e in
    let items = map (item_of s) (list_of s) in
    let l = given_laid s b (list_of s) r.good.entries in
    let more = length bytes + 18 in
    let new : total_of items + more ≡ total = omega (arith, laid_total s items l, r.good.header.is, r.new) in
    let all : length s ≡ length l.front + (total_of items + 32) = laid_length s items l in
    let fits : total ≤ length s - 32 = r.fits in
    let from = length l.front - more in
    let at : begins_at s total ≡ from = omega arith in
    let rest = items_bytes items ++ (end_bytes (total_of items) footer ++ l.back) in
    let last : length (drop from l.front) ≡ more = length-drop from l.front ∙ omega arith in
    let used : take more (drop (begins_at s total) s) ≡ drop from l.front =
    rw at (ap (λ (x : List ℕ). take more (drop from x)) l.is ∙ ap (take more) (drop-append-le from l.front rest (omega arith)) ∙ take_at (drop from l.front) rest more last) in
    let free : drop from l.front ≡ replicate more 0 = zeros_are (drop from l.front) (ap all_zero (sym used) ∙ r.zeros) ∙ ap (λ (k : ℕ). replicate k 0) last in
    record {
      items = items;
      laid = l;
      front = take from l.front;
      free = sym (take-append-drop from l.front) ∙ ap (λ (x : List ℕ). take from l.front ++ x) free;
      new = new;
      small = r.small;
    }

pub extend_acceptance : ExtendAcceptance
extend_acceptance = record {
  only = extend_only;
  all = λ s bytes total x. extend_given s x.items x.laid bytes x.front x.free (rw x.new x.small) ∙ ap given x.new;
}

module _ (s : List ℕ) (g : Guid) (bytes : List ℕ) (total : ℕ) where
  more_entries : (others : List GuidEntry) → Bytes s → Sixteen g → entries_of s ≡ given others → extend_of s bytes ≡ given total →
      entries_of (extended_by s g bytes (given total)) ≡ given (others ++ record { guid = g; place = begins_at s total; length = length bytes } ∷ [])
  more_entries others b fit h e =
      let l = given_laid s b others h in
      let items = map (item_of s) others in
      let x = extend_laid s items l g bytes total fit e in
      laid_entries _ _ x.0
      ∙ ap given
      (entries_far (length x.0.front) items (record { guid = g; bytes = bytes })
      ∙ ap (λ (o : ℕ). entries_at o items ++ record { guid = g; place = length x.0.front; length = length bytes } ∷ []) (sym x.1)
      ∙ rw (← given_entries s b others h, x.2) refl)

  more_items : (others : List Item) → Bytes s → Sixteen g → items_of s ≡ given others → extend_of s bytes ≡ given total →
      items_of (extended_by s g bytes (given total)) ≡ given (others ++ record { guid = g; bytes = bytes } ∷ [])
  more_items others b fit h e = laid_items _ _ (extend_laid s others (items_laid s b others h) g bytes total fit e).0

  more_table : (before : Totals) → Bytes s → Sixteen g → table_of s ≡ given before → extend_of s bytes ≡ given total →
      table_of (extended_by s g bytes (given total)) ≡ given (record { total = total; entries = before.entries + 1 })
  more_table before b fit h e =
      let f = good_table s before h in
      let r = room_facts s bytes total e in
      let items = map (item_of s) (list_of s) in
      let l = given_laid s b (list_of s) f.entries in
      let all : total_at (extended_by s g bytes (given total)) ≡ total =
      laid_total _ _ (extend_laid s items l g bytes total fit e).0
      ∙ omega (arith, length_far items (record { guid = g; bytes = bytes }), laid_total s items l, r.good.header.is, r.new) in
      let one = length-append (list_of s) (record { guid = g; place = begins_at s total; length = length bytes } ∷ []) in
      rw (more_entries (list_of s) b fit f.entries e, all, one, f.number) refl

pub extend_adds : ExtendAdds
extend_adds = record { entries = more_entries; items = more_items; table = more_table }

-- any list of extends
all_laid : (items : List Item) (s after : List ℕ) (old : List Item) → Laid s old → All Whole items → extend_all s items ≡ given after → Laid after (old ++ items)
unfolding extend_all
all_laid [] s after old l w e = let p : s ≡ after = cc in rw append-nil (subst (λ (x : List ℕ). Laid x old) p l)
all_laid (i ∷ items) s after old l w e =
    let t = then_given (extend_of s i.bytes) (λ total. extend_all (extended_by s i.guid i.bytes (given total)) items) e in
    let x = extend_laid s old l i.guid i.bytes t.0 w.0 t.1 in
    subst (Laid after) (append_snoc old i items) (all_laid items _ after (old ++ i ∷ []) x.0 w.1 t.2)

pub items_back : ItemsBack
items_back = record {
  from_start = λ s items after h w e. laid_items after items (all_laid items (started s) after [] (start_laid s h) w e);
  from_table = λ s old items after b w h e. laid_items after (old ++ items) (all_laid items s after old (items_laid s b old h) w e);
}

-- extends over zero bytes, one for each item, are all accepted
over_zeros : (items : List Item) (s front back : List ℕ) (done : List Item) → s ≡ image_of (front ++ replicate (length (items_bytes items)) 0) done back → length back ≡ 32 → All Whole done → All Whole items →
    length (items_bytes items) + total_of done ≤ 65_535 → extend_all s items ≡ given (image_of front (done ++ items) back)
unfolding extend_all items_bytes
over_zeros [] s front back done q b v w h = ap given (q ∙ rw (append-nil front, append-nil done))
over_zeros (i ∷ items) s front back done q b v w h =
    let more = length i.bytes + 18 in
    let entry = entry_bytes i.guid i.bytes in
    let front1 : List ℕ = front ++ replicate (length (items_bytes items)) 0 in
    let size : length (items_bytes items ++ entry) ≡ length (items_bytes items) + more = length-append (items_bytes items) entry ∙ ap (λ (k : ℕ). length (items_bytes items) + k) (length_entry i.guid i.bytes) in
    let before : front ++ replicate (length (items_bytes items ++ entry)) 0 ≡ front1 ++ replicate more 0 =
    ap (λ (k : ℕ). front ++ replicate k 0) size ∙ ap (λ (x : List ℕ). front ++ x) (sym (replicate-append-replicate (length (items_bytes items)) more 0)) ∙ sym (append_assoc front _ _) in
    let l : Laid s done = record { front = front ++ replicate (length (items_bytes items ++ entry)) 0; back = back; is = q; behind = b; small = omega arith; whole = v } in
    let accepted = extend_given s done l i.bytes front1 before (omega arith) in
    let after = extended_is s done l i.guid i.bytes front1 (replicate more 0) before (length-replicate more 0) in
    let rest = over_zeros items _ front back (done ++ i ∷ []) after b (whole_far done i v w.0) w.1 (omega (arith, length_far done i)) in
    rw accepted (rest ∙ ap (λ (x : List Item). given (image_of front x back)) (append_snoc done i items))

-- a table laid out, cleared and started again
module _ (s : List ℕ) (items : List Item) (l : Laid s items) where
  clear_start : started (cleared s) ≡ image_of (l.front ++ replicate (length (items_bytes items)) 0) [] l.back
  unfolding items_bytes
  clear_start =
      let total = total_of items in
      let size = length (items_bytes items) in
      let all : length s ≡ length l.front + (total + 32) = laid_length s items l in
      let table = items_bytes items ++ end_bytes total footer in
      let long : length table ≡ total = length-append (items_bytes items) _ ∙ ap (λ (k : ℕ). size + k) (length_end total footer) in
      let same : length (cleared s) ≡ length s = put_long _ s _ in
      let zero : List ℕ = replicate size 0 in
      let first : length (l.front ++ zero) ≡ length l.front + size = length-append l.front zero ∙ ap (λ (k : ℕ). length l.front + k) (length-replicate size 0) in
      let clear : cleared s ≡ (l.front ++ zero) ++ (replicate 18 0 ++ l.back) =
      ap (λ (k : ℕ). put_bytes (replicate k 0) s (begins_at s k)) (laid_total s items l)
      ∙ put_over s l.front l.back (begins_at s total) (omega arith) (replicate total 0) table (l.is ∙ simp append_assoc) (long ∙ sym (length-replicate total 0))
      ∙ ap (λ (x : List ℕ). l.front ++ (x ++ l.back)) (sym (replicate-append-replicate size 18 0)) ∙ simp append_assoc in
      ap (started_by (cleared s)) (start_some (cleared s) (omega arith))
      ∙ put_over (cleared s) (l.front ++ zero) l.back (length (cleared s) - 50) (omega arith) (end_bytes 18 footer) (replicate 18 0) clear (sym (length_end 18 footer))

  same_again : extend_all (started (cleared s)) items ≡ given s
  unfolding items_bytes
  same_again =
      over_zeros items (started (cleared s)) l.front l.back [] clear_start l.behind tt l.whole (omega (arith, l.small)) ∙ ap given (sym l.is)

clear_accepted : (s : List ℕ) (items : List Item) → items_of s ≡ given items → start_of (cleared s) ≡ given 18
clear_accepted s items h =
    let e = then_given (entries_of s) (λ entries. given (map (item_of s) entries)) h in
    let f = good_table s (record { total = total_at s; entries = length e.0 }) (ap (λ (r : Reply (List GuidEntry)). then r (totals_of s)) e.1) in
    start_some (cleared s) (omega (arith, put_long (replicate (total_at s) 0) s (begins_at s (total_at s)), f.header.long))

pub same_bytes : SameAgain
same_bytes = record { start = clear_accepted; bytes = λ s items b h. same_again s items (items_laid s b items h) }

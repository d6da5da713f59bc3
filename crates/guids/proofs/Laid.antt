-- A table is given exactly where its items lie in the image. Assumes nothing.
use mathlib.Core.Path.{◌≡◌, refl, sym, ap, subst, ◌∙◌}
use mathlib.Core.List.{List, [], ◌∷◌, ◌++◌, map, append_assoc}
use Prim.Native.Nat.{ℕ, ◌+◌, ◌-◌, ◌^◌, ◌<◌, ◌≤◌}
use native.Mathlib.Nat.{le-pred_of_lt}
use native.Mathlib.Omega.{arith}
use borrow.Author.Tests.{le-leb}
use lib.ListN.{length, take, drop, length-append, length-drop, take-append-drop}
use lib.Seq.{take_at, drop_at}
use Rattle.le.specs.Le.{Bytes}
use Rattle.le.proofs.Laws.{le_small}
use Rattle.le.proofs.Part.{part_length, part_add, part_rest}
use Rattle.reply.specs.Reply.{given}
use Rattle.reply.specs.Scan.{All}
use Rattle.reply.proofs.ReplyLaws.{then_given}
use Rattle.guids.specs.declared.Guid.{Guid}
use Rattle.guids.specs.declared.GuidEntry.{GuidEntry}
use Rattle.guids.specs.Table.{length_at, guid_at, footer, footer_at, end_bytes, entry_bytes, total_at, header_of, length_before, entry_before, entries_before, entries_under, entries_of}
use Rattle.guids.specs.Layout.{Item, items_bytes, total_of, Sixteen, Whole, Laid, entries_at, item_of, items_of, TableAcceptance}
use Rattle.guids.proofs.Walk.{footer_is, Header, header_facts, walk_end, walk_step, Entries, none, entry, walk_only}
use Rattle.guids.proofs.Here.{length_end, end_here, end_back}
use Rattle.guids.proofs.Found.{same_true, true_same}

pub length_entry : (g : Guid) (bytes : List ℕ) → length (entry_bytes g bytes) ≡ length bytes + 18
length_entry g bytes = length-append bytes _ ∙ ap (λ (k : ℕ). length bytes + k) (length_end (length bytes + 18) g)

footer_fits : Sixteen footer
footer_fits = record { low = omega (arith, ap (λ (g : Guid). g.low) footer_is); high = omega (arith, ap (λ (g : Guid). g.high) footer_is) }

-- entries that fill their bytes are what the walk gives
walk_all : {s : List ℕ} {e left : ℕ} {es : List GuidEntry} → Entries s e left es → entries_before s e left ≡ given es
unfolding length_before
walk_all {s} (none {e = e}) = walk_end s e 0 refl
walk_all {s} (entry {e = e} {left = left} {n = n} is least most others) =
    walk_step s e left (omega arith) n (simp (le-leb 18 left (omega arith), is, le-leb 18 n least, le-leb n left most)) ∙ rw (walk_all others)

-- items that lie in s, their bytes between pre and post
module _ (s pre : List ℕ) where
  fill : (items : List Item) (post : List ℕ) (e left : ℕ) → s ≡ pre ++ (items_bytes items ++ post) → e ≡ length pre + length (items_bytes items) → left ≡ length (items_bytes items) →
      left < 2 ^ 16 → All Whole items → Entries s e left (entries_at (length pre) items)
  unfolding items_bytes entries_at
  fill [] post e left q a l h w = rw l none
  fill (i ∷ items) post e left q a l h w =
      let n = length i.bytes + 18 in
      let last = entry_bytes i.guid i.bytes in
      let xs = pre ++ (items_bytes items ++ i.bytes) in
      let long : length (items_bytes items ++ last) ≡ length (items_bytes items) + n = length-append (items_bytes items) last ∙ ap (λ (k : ℕ). length (items_bytes items) + k) (length_entry i.guid i.bytes) in
      let far : length xs ≡ length pre + (length (items_bytes items) + length i.bytes) = length-append pre _ ∙ ap (λ (k : ℕ). length pre + k) (length-append (items_bytes items) i.bytes) in
      let f = end_here n i.guid s xs post (e - 18) (omega arith) (q ∙ simp append_assoc) (omega arith) w.0 in
      let place : e - n ≡ length pre + length (items_bytes items) = omega arith in
      let size : n - 18 ≡ length i.bytes = omega arith in
      let guid : guid_at s (e - 18) ≡ i.guid = f.1 in
      let rest = fill items (last ++ post) (e - n) (left - n) (q ∙ ap (λ (r : List ℕ). pre ++ r) (append_assoc (items_bytes items) last post)) place (omega arith) (omega arith) w.1 in
      subst (λ (x : GuidEntry). Entries s e left (x ∷ entries_at (length pre) items)) (λ j. record { guid = guid j; place = place j; length = size j })
      (entry f.0 (omega arith) (omega arith) rest)

  hold : (items : List Item) (post : List ℕ) → s ≡ pre ++ (items_bytes items ++ post) → map (item_of s) (entries_at (length pre) items) ≡ items
  unfolding items_bytes entries_at
  hold [] post q = refl
  hold (i ∷ items) post q =
      let end = end_bytes (length i.bytes + 18) i.guid in
      let there : s ≡ (pre ++ items_bytes items) ++ (i.bytes ++ (end ++ post)) = q ∙ simp append_assoc in
      let bytes : take (length i.bytes) (drop (length pre + length (items_bytes items)) s) ≡ i.bytes =
      ap (λ (x : List ℕ). take (length i.bytes) (drop (length pre + length (items_bytes items)) x)) there
      ∙ ap (take (length i.bytes)) (drop_at (pre ++ items_bytes items) _ _ (length-append pre (items_bytes items)))
      ∙ take_at i.bytes (end ++ post) (length i.bytes) refl in
      let rest = hold items (entry_bytes i.guid i.bytes ++ post) (q ∙ ap (λ (r : List ℕ). pre ++ r) (append_assoc (items_bytes items) _ post)) in
      λ j. record { guid = i.guid; bytes = bytes j } ∷ rest j

module _ (s : List ℕ) (items : List Item) (l : Laid s items) where
  pub laid_length : length s ≡ length l.front + (total_of items + 32)
  laid_length =
      ap length l.is ∙ length-append l.front _ ∙ ap (λ (k : ℕ). length l.front + k) (length-append (items_bytes items) _ ∙ ap (λ (k : ℕ). length (items_bytes items) + k) (length-append (end_bytes (total_of items) footer) l.back))
      ∙ omega (arith, length_end (total_of items) footer, l.behind)

  ends : (total_at s ≡ total_of items) × (guid_at s (footer_at s) ≡ footer)
  ends =
      end_here (total_of items) footer s (l.front ++ items_bytes items) l.back (footer_at s) (omega (arith, laid_length, length-append l.front (items_bytes items)))
      (l.is ∙ simp append_assoc) (omega (arith, l.small)) footer_fits

  pub laid_total : total_at s ≡ total_of items
  laid_total = ends.0

  pub laid_header : header_of s ≡ given (total_of items)
  unfolding header_of
  laid_header =
      simp (le-leb 50 (length s) (omega (arith, laid_length)), true_same _ _ ends.1, laid_total, le-leb 18 (total_of items) (omega arith), le-leb (total_of items) (length s - 32) (omega (arith, laid_length)))

  pub laid_entries : entries_of s ≡ given (entries_at (length l.front) items)
  laid_entries =
      rw laid_header
      (walk_all (fill s l.front items (end_bytes (total_of items) footer ++ l.back) (footer_at s) (total_of items - 18) l.is (omega (arith, laid_length)) (omega arith) (omega (arith, l.small)) l.whole))

  pub laid_items : items_of s ≡ given items
  laid_items = rw laid_entries (ap given (hold s l.front items _ l.is))

-- the places of a table of this total in an image of l bytes
record Places (l total : ℕ) : Type 0 where
  begin : l - 50 - (total - 18) ≡ l - 32 - total
  inside : l - 32 - total + (total - 18) ≤ l
  counted : total - 18 + 18 ≡ total
  end : l - 32 - total + (total - 18) ≡ l - 50
  room : l - 50 + 18 ≤ l
  behind : l - 50 + 18 ≡ l - 32
  tail : l - (l - 32) ≡ 32

places : (l total : ℕ) → 50 ≤ l → 18 ≤ total → total ≤ l - 32 → Places l total
places l total long least most = omega arith

-- items whose bytes are the `left` bytes of s that end at e, and whose entries are these
record Filled (s : List ℕ) (e left : ℕ) (es : List GuidEntry) : Type 0 where
  items : List Item
  bytes : items_bytes items ≡ take left (drop (e - left) s)
  entries : es ≡ entries_at (e - left) items
  whole : All Whole items

-- the way back, over an image of bytes
module _ (s : List ℕ) (bytes : Bytes s) where
  -- the n bytes of an entry that ends at e
  entry_back_lem : (e n : ℕ) → length_at s (e - 18) ≡ n → 18 ≤ n → n ≤ e → e ≤ length s → entry_bytes (guid_at s (e - 18)) (take (n - 18) (drop (e - n) s)) ≡ take n (drop (e - n) s)
  entry_back_lem e n is least most inside =
      let end : e - n + (n - 18) ≡ e - 18 = omega arith in
      let size : length (take (n - 18) (drop (e - n) s)) + 18 ≡ n = omega (arith, part_length s (e - n) (n - 18) (omega arith)) in
      let all : n - 18 + 18 ≡ n = omega arith in
      let last : end_bytes n (guid_at s (e - 18)) ≡ take 18 (drop (e - 18) s) = rw is at (end_back s bytes (e - 18) (omega arith)) in
      rw (size, last) (rw (end, all) at (part_add s (e - n) (n - 18) 18))

  -- one entry more, nearer the footer
  lay_entry : (e left n : ℕ) (others : List GuidEntry) → length_at s (e - 18) ≡ n → 18 ≤ n → n ≤ left → left ≤ e → e ≤ length s → Filled s (e - n) (left - n) others → Filled s e left (entry_before s e n ∷ others)
  unfolding items_bytes entries_at
  lay_entry e left n others is least most a b r =
      let same : e - n - (left - n) ≡ e - left = omega arith in
      let front : items_bytes r.items ≡ take (left - n) (drop (e - left) s) = rw same at r.bytes in
      let long : length (items_bytes r.items) ≡ left - n = ap length front ∙ part_length s (e - left) (left - n) (omega arith) in
      let end : e - left + (left - n) ≡ e - n = omega arith in
      let all : left - n + n ≡ left = omega arith in
      let place : e - n ≡ e - left + length (items_bytes r.items) = omega arith in
      let size : n - 18 ≡ length (take (n - 18) (drop (e - n) s)) = sym (part_length s (e - n) (n - 18) (omega arith)) in
      let others-are : others ≡ entries_at (e - left) r.items = rw same at r.entries in
      record {
        items = record { guid = guid_at s (e - 18); bytes = take (n - 18) (drop (e - n) s) } ∷ r.items;
        bytes = rw (front, entry_back_lem e n is least (omega arith) b) (rw (end, all) at (part_add s (e - left) (left - n) n));
        entries = λ j. record { guid = guid_at s (e - 18); place = place j; length = size j } ∷ others-are j;
        whole = (record { low = le_small s bytes 8 (e - 18 + 2); high = le_small s bytes 8 (e - 18 + 10) }, r.whole);
      }

  lay : {e left : ℕ} {es : List GuidEntry} → Entries s e left es → left ≤ e → e ≤ length s → Filled s e left es
  unfolding items_bytes entries_at
  lay none a b = record { items = []; bytes = refl; entries = refl; whole = tt }
  lay (entry {e = e} {left = left} {n = n} {others = others} is least most rest) a b = lay_entry e left n others is least most a b (lay rest (omega arith) (omega arith))

  -- a table with a good header, laid out
  laid_out : (total : ℕ) (es : List GuidEntry) → Header s total → (r : Filled s (footer_at s) (total - 18) es) → Laid s r.items
  laid_out total es f r =
      let p = places (length s) total f.long f.least f.most in
      let from = length s - 32 - total in
      let table : items_bytes r.items ≡ take (total - 18) (drop from s) = rw p.begin at r.bytes in
      let size : total_of r.items ≡ total = ap (λ (x : List ℕ). length x + 18) table ∙ ap (λ (k : ℕ). k + 18) (part_length s from (total - 18) p.inside) ∙ p.counted in
      let last : end_bytes total footer ≡ take 18 (drop (footer_at s) s) =
      ap (end_bytes total) (sym (same_true (guid_at s (footer_at s)) footer f.foot)) ∙ (rw f.is at (end_back s bytes (footer_at s) p.room)) in
      record {
        front = take from s;
        back = drop (length s - 32) s;
        is =
            sym (rw (size, table, last) (
            ap (λ (r : List ℕ). take from s ++ (take (total - 18) (drop from s) ++ r)) (rw p.behind at (part_rest s (footer_at s) 18))
            ∙ ap (λ (r : List ℕ). take from s ++ r) (rw p.end at (part_rest s from (total - 18))) ∙ take-append-drop from s));
        behind = length-drop (length s - 32) s ∙ p.tail;
        small = rw size (le-pred_of_lt (rw f.is at (le_small s bytes 2 (footer_at s + 0))));
        whole = r.whole;
      }

  pub items_laid : (items : List Item) → items_of s ≡ given items → Laid s items
  items_laid items h =
      let e = then_given (entries_of s) (λ entries. given (map (item_of s) entries)) h in
      let t = then_given (header_of s) (entries_under s) e.1 in
      let f = header_facts s t.0 t.1 in
      let r = lay (walk_only (t.0 - 18) s (footer_at s) (t.0 - 18) e.0 t.2) (omega arith) (omega arith) in
      let l = laid_out t.0 e.0 f r in
      let q = sym (laid_items s r.items l) ∙ h in
      let p : r.items ≡ items = cc in
      subst (Laid s) p l

pub table_acceptance : TableAcceptance
table_acceptance = record { only = λ s items bytes. items_laid s bytes items; all = laid_items; entries = laid_entries }

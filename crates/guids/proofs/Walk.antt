-- The entries of a table, one step of the walk at a time. Assumes nothing.
use mathlib.Core.Path.{◌≡◌, refl, sym, ap, subst, ◌∙◌}
use mathlib.Core.List.{List, [], ◌∷◌, map}
use mathlib.Core.Bool.{Bool, true, false, cond}
use Prim.Native.Nat.{ℕ, zero, suc, ◌+◌, ◌-◌, ◌<◌, ◌≤◌}
use native.Mathlib.Nat.{zero-add, add-zero}
use native.Mathlib.Numerals.{add-one}
use native.Mathlib.Omega.{arith}
use borrow.Author.Tests.{leb-true, eqb-true, ne_eqb, le-ltb, lt-ltb}
use lib.ListN.{length, get_or, get_or-map}
use lib.Dec.{leb, eqb}
use Rattle.le.specs.Le.{le_at}
use Rattle.reply.specs.Reply.{Reply, Carried, alone, given, refused, then}
use Rattle.reply.specs.Scan.{scan}
use Rattle.reply.proofs.ReplyLaws.{clash, past, passed, failed, then_given, then_same}
use Rattle.guids.specs.declared.Guid.{Guid}
use Rattle.guids.specs.declared.GuidEntry.{GuidEntry}
use Rattle.guids.specs.declared.GuidMatch.{GuidMatch}
use Rattle.guids.specs.declared.Totals.{Totals}
use Rattle.guids.specs.Table.{footer, length_at, guid_at, same_guid, footer_at, total_at, header_of, length_before, entry_before, entries_in, entries_before, entries_under, entries_of, totals_of, table_of, no_entry, find_step, nowhere, find_in, pick_in, entry_of}

-- the footer's halves, as the code has them
pub footer_is : record { low = 0x45f7_1fb2_96b5_82de; high = 0x2d08_5ac5_66a3_eaba } ≡ footer
unfolding footer le_at
footer_is = refl

-- what a header that gives a total says
pub record Header (s : List ℕ) (total : ℕ) : Type 0 where
  pub long : 50 ≤ length s
  pub foot : same_guid (guid_at s (footer_at s)) footer ≡ true
  pub least : 18 ≤ total
  pub most : total ≤ length s - 32
  pub is : total_at s ≡ total

pub header_facts : (s : List ℕ) (total : ℕ) → header_of s ≡ given total → Header s total
unfolding header_of
header_facts s total e =
    let a = past (leb 50 (length s)) _ _ _ e in
    let b = past (same_guid (guid_at s (footer_at s)) footer) _ _ _ a.1 in
    let c = past (leb 18 (total_at s)) _ _ _ b.1 in
    let d = past (leb (total_at s) (length s - 32)) _ _ (given (total_at s)) c.1 in
    let q : total_at s ≡ total = cc d.1 in
    record {
      long = leb-true _ _ a.0;
      foot = b.0;
      least = omega (arith, leb-true 18 (total_at s) c.0);
      most = omega (arith, leb-true (total_at s) (length s - 32) d.0);
      is = q;
    }

-- a length that is given: it is the number there, and lies between 18 and what is left
pub length_facts : (s : List ℕ) (e left n : ℕ) → length_before s e left ≡ given n → (length_at s (e - 18) ≡ n) × (18 ≤ n) × (n ≤ left)
unfolding length_before
length_facts s e left n h =
    let a = past (leb 18 left) _ _ _ h in
    let b = past (leb 18 (length_at s (e - 18))) _ _ _ a.1 in
    let c = past (leb (length_at s (e - 18)) left) _ _ (given (length_at s (e - 18))) b.1 in
    let q : length_at s (e - 18) ≡ n = cc c.1 in
    (q, omega (arith, leb-true 18 (length_at s (e - 18)) b.0), omega (arith, leb-true (length_at s (e - 18)) left c.0))

-- steps beyond the bytes that are left change nothing
steps_enough : (m n : ℕ) (s : List ℕ) (e left : ℕ) → left ≤ m → left ≤ n → entries_in m s e left ≡ entries_in n s e left
unfolding entries_in
steps_enough zero zero s e left h k = refl
steps_enough zero (suc n) s e left h k = let q : left ≡ 0 = omega arith in rw q
steps_enough (suc m) zero s e left h k = let q : left ≡ 0 = omega arith in rw q
steps_enough (suc m) (suc n) s e left h k =
    ap (cond (eqb left 0) (given []))
    (then_same (length_before s e left) _ _ (λ a q.
    let f = length_facts s e left a q in
    ap (λ (r : Reply (List GuidEntry)). then r (λ others. given (entry_before s e a ∷ others)))
    (steps_enough m n s (e - a) (left - a) (omega arith) (omega arith))))

-- an entry before the others of a walk
abbrev pub with_entry : GuidEntry → List GuidEntry → Reply (List GuidEntry)
with_entry x others = given (x ∷ others)

-- no bytes left: no entries
pub walk_end : (s : List ℕ) (e left : ℕ) → left ≡ 0 → entries_before s e left ≡ given []
unfolding entries_in
walk_end s e left q = rw q

-- where bytes are left, the length of the entry that ends there decides
module _ (s : List ℕ) (e left : ℕ) (some : 0 < left) where
  walk_on : entries_before s e left ≡ then (length_before s e left) (λ n. then (entries_before s (e - n) (left - n)) (with_entry (entry_before s e n)))
  unfolding entries_in
  walk_on =
      let q : eqb left 0 ≡ false = ne_eqb left 0 (λ z. let f : ⊥ = omega arith in f) in
      steps_enough left (suc left) s e left (omega arith) (omega arith)
      ∙ rw q (then_same (length_before s e left) _ _ (λ n h.
      let f = length_facts s e left n h in
      ap (λ (r : Reply (List GuidEntry)). then r (with_entry (entry_before s e n))) (steps_enough left (left - n) s (e - n) (left - n) (omega arith) (omega arith))))

  pub walk_step : (n : ℕ) → length_before s e left ≡ given n → entries_before s e left ≡ then (entries_before s (e - n) (left - n)) (with_entry (entry_before s e n))
  walk_step n h = walk_on ∙ rw h

  pub walk_stop : (w : ℕ) (c : Carried) → length_before s e left ≡ refused w c → entries_before s e left ≡ refused w c
  walk_stop w c h = walk_on ∙ rw h

-- a walk in the middle, whose answer is r: `next` makes it of the entries that are not yet seen
module _ {B : Type 0} (s : List ℕ) (e left : ℕ) (next : List GuidEntry → Reply B) (r : Reply B) (inv : then (entries_before s e left) next ≡ r) where
  pub seen_all : left ≡ 0 → next [] ≡ r
  seen_all z = rw (walk_end s e left z) at inv

  pub seen_refused : 0 < left → (w : ℕ) (c : Carried) → length_before s e left ≡ refused w c → refused w c ≡ r
  seen_refused some w c h = rw (walk_stop s e left some w c h) at inv

  -- the entry that ends here is seen, and `more` makes the answer of those behind it
  pub seen_one : 0 < left → (n : ℕ) → length_before s e left ≡ given n → (more : List GuidEntry → Reply B) →
      ((es : List GuidEntry) → more es ≡ next (entry_before s e n ∷ es)) → then (entries_before s (e - n) (left - n)) more ≡ r
  seen_one some n h more same = by (entries_before s (e - n) (left - n)) ∙ (rw (walk_step s e left some n h) at inv)
    where
      by : (q : Reply (List GuidEntry)) → then q more ≡ then (then q (with_entry (entry_before s e n))) next
      by (given es) = same es
      by (refused number carried) = refl

-- a step that refuses nothing tells what another one answers in its place
module _ {A B C : Type 0} where
  pub given_too : (r : Reply A) (f : A → C) (next : A → Reply B) (m : C) (b : B) → then r (λ a. given (f a)) ≡ given m → ((a : A) → f a ≡ m → next a ≡ given b) → given b ≡ then r next
  given_too (given a) f next m b e same = sym (same a (cc e))
  given_too (refused number carried) f next m b e same = clash e

  pub refused_too : (r : Reply A) (f : A → C) (next : A → Reply B) (w : ℕ) (c : Carried) → then r (λ a. given (f a)) ≡ refused w c → refused w c ≡ then r next
  refused_too (given a) f next w c e = clash (sym e)
  refused_too (refused v d) f next w c e = let a : v ≡ w = cc in let b : d ≡ c = cc in rw (a, b)

-- the number of entries, where `count` were counted before these
abbrev pub count_from : ℕ → List GuidEntry → Reply ℕ
count_from count es = given (count + length es)

pub count_start : (r : Reply (List GuidEntry)) → then r (count_from 0) ≡ then r (λ es. given (length es))
count_start r = then_same r (count_from 0) (λ es. given (length es)) (λ es e. rw zero-add)

-- the first of these entries that has the GUID, where so many were tested before them
unfoldable pub find_from : Guid → ℕ → List GuidEntry → Reply GuidMatch
find_from g before [] = nowhere before
find_from g before (x ∷ es) = cond (same_guid x.guid g) (given (record { place = x.place; length = x.length; tested = before + 1 })) (find_from g (before + 1) es)

-- these are the entries from index i on
find_scan : (g : Guid) (entries es : List GuidEntry) (i : ℕ) → ((k : ℕ) → get_or es k no_entry ≡ get_or entries (i + k) no_entry) → find_from g i es ≡ scan (find_step g entries) nowhere (length es) i
unfolding find_from scan
find_scan g entries [] i same = refl
find_scan g entries (x ∷ es) i same =
    let here : x ≡ get_or entries i no_entry = same 0 ∙ ap (λ (j : ℕ). get_or entries j no_entry) (add-zero i) in
    let behind = find_scan g entries es (i + 1) (λ k. same (suc k) ∙ ap (λ (j : ℕ). get_or entries j no_entry) (omega arith)) in
    rw (← here, behind)

pub find_start : (g : Guid) (r : Reply (List GuidEntry)) → then r (find_from g 0) ≡ then r (find_in g)
find_start g r = then_same r (find_from g 0) (find_in g) (λ es e. find_scan g es es 0 (λ k. ap (λ (j : ℕ). get_or es j no_entry) (sym (zero-add k))))

pub find_end : (g : Guid) (before : ℕ) → nowhere before ≡ find_from g before []
unfolding find_from
find_end g before = refl

module _ (g : Guid) (before : ℕ) (x : GuidEntry) (es : List GuidEntry) where
  pub find_here : same_guid x.guid g ≡ true → given (record { place = x.place; length = x.length; tested = before + 1 }) ≡ find_from g before (x ∷ es)
  unfolding find_from
  find_here h = rw h

  pub find_behind : same_guid x.guid g ≡ false → find_from g (before + 1) es ≡ find_from g before (x ∷ es)
  unfolding find_from
  find_behind h = rw h

-- what the walk gives, as plain facts: these entries fill the `left` bytes that end at place e
pub data Entries (s : List ℕ) : ℕ → ℕ → List GuidEntry → Type 0 where
  none : {e : ℕ} → Entries s e 0 []
  entry : {e left n : ℕ} {others : List GuidEntry} → length_at s (e - 18) ≡ n → 18 ≤ n → n ≤ left → Entries s (e - n) (left - n) others → Entries s e left (entry_before s e n ∷ others)

no_more : (s : List ℕ) (e left : ℕ) (es : List GuidEntry) → eqb left 0 ≡ true → given [] ≡ given es → Entries s e left es
no_more s e left es z h =
    let q : left ≡ 0 = eqb-true left 0 z in
    let p : [] ≡ es = cc in
    rw q (subst (Entries s e 0) p none)

pub walk_only : (steps : ℕ) (s : List ℕ) (e left : ℕ) (es : List GuidEntry) → entries_in steps s e left ≡ given es → Entries s e left es
unfolding entries_in
walk_only zero s e left es h = let g = past (eqb left 0) _ _ _ h in no_more s e left es g.0 g.1
walk_only (suc steps) s e left es h = by (eqb left 0) refl h (λ n others. walk_only steps s (e - n) (left - n) others)
  where
    behind : ℕ → Reply (List GuidEntry)
    behind n = then (entries_in steps s (e - n) (left - n)) (with_entry (entry_before s e n))

    by : (b : Bool) → eqb left 0 ≡ b → cond b (given []) (then (length_before s e left) behind) ≡ given es →
        ((n : ℕ) (others : List GuidEntry) → entries_in steps s (e - n) (left - n) ≡ given others → Entries s (e - n) (left - n) others) → Entries s e left es
    by true z k ih = no_more s e left es z k
    by false z k ih =
        let l = then_given (length_before s e left) behind k in
        let o = then_given (entries_in steps s (e - l.0) (left - l.0)) (with_entry (entry_before s e l.0)) l.2 in
        let f = length_facts s e left l.0 l.1 in
        let p : entry_before s e l.0 ∷ o.0 ≡ es = cc o.2 in
        subst (Entries s e left) p (entry f.0 f.1 f.2 (ih l.0 o.0 o.1))

-- what the code asks of a place where an entry ends
abbrev pub Standing : List ℕ → ℕ → Type 0
Standing s e = (e ≤ length s) × (18 ≤ length_at s (e - 18)) × (length_at s (e - 18) ≤ e)

-- where entry k of those that fill the bytes up to e ends: at e, or where the data of the entry before it begins
abbrev pub end_at : ℕ → List GuidEntry → ℕ → ℕ
end_at e es k = get_or (e ∷ map (λ (x : GuidEntry). x.place) es) k 0

pub end_next : (e : ℕ) (es : List GuidEntry) (k : ℕ) → end_at e es (k + 1) ≡ (get_or es k no_entry).place
end_next e es k = rw add-one (get_or-map (λ (x : GuidEntry). x.place) es k no_entry)

-- entry k is the one that ends there
pub chain : {s : List ℕ} {e left : ℕ} {es : List GuidEntry} → Entries s e left es → left ≤ e → e ≤ length s → (k : ℕ) → k < length es →
    Standing s (end_at e es k) × (get_or es k no_entry ≡ entry_before s (end_at e es k) (length_at s (end_at e es k - 18)))
chain none a b k h = absurd (let f : ⊥ = omega arith in f)
chain {s} {e} (entry is least most others) a b zero h = ((b, omega arith, omega arith), ap (entry_before s e) (sym is))
chain (entry is least most others) a b (suc k) h = chain others (omega arith) (omega arith) k (omega arith)

-- the entries that a table gives
abbrev held : Reply (List GuidEntry) → List GuidEntry
held (given es) = es
held (refused number carried) = []

abbrev pub list_of : List ℕ → List GuidEntry
list_of s = held (entries_of s)

-- where entry k of a table ends
abbrev pub end_of : List ℕ → ℕ → ℕ
end_of s k = end_at (footer_at s) (list_of s) k

-- what a checked table is known to be
pub record Good (s : List ℕ) (t : Totals) : Type 0 where
  pub header : Header s t.total
  pub entries : entries_of s ≡ given (list_of s)
  pub number : length (list_of s) ≡ t.entries
  pub standing : (k : ℕ) → k < t.entries → Standing s (end_of s k)
  pub at : (k : ℕ) → k < t.entries → get_or (list_of s) k no_entry ≡ entry_before s (end_of s k) (length_at s (end_of s k - 18))

pub good_table : (s : List ℕ) (t : Totals) → table_of s ≡ given t → Good s t
good_table s t h =
    let l = then_given (entries_of s) (totals_of s) h in
    let g = then_given (header_of s) (entries_under s) l.1 in
    let f = header_facts s g.0 g.1 in
    let p : record { total = total_at s; entries = length l.0 } ≡ t = cc l.2 in
    let q : l.0 ≡ list_of s = sym (ap held l.1) in
    let n : length (list_of s) ≡ t.entries = ap length (sym q) ∙ ap (λ (x : Totals). x.entries) p in
    let c = chain (subst (Entries s (footer_at s) (g.0 - 18)) q (walk_only (g.0 - 18) s (footer_at s) (g.0 - 18) l.0 g.2)) (omega arith) (omega arith) in
    record {
      header = subst (Header s) (sym f.is ∙ ap (λ (x : Totals). x.total) p) f;
      entries = l.1 ∙ ap given q;
      number = n;
      standing = λ k h. (c k (rw n h)).0;
      at = λ k h. (c k (rw n h)).1;
    }

module _ (s : List ℕ) (t : Totals) (good : Good s t) where
  -- what follows the check of a good table works on its entries
  pub table_given : {B : Type 0} (next : List GuidEntry → Reply B) → next (list_of s) ≡ then (entries_of s) next
  table_given next = sym (rw good.entries refl)

  pub pick_none : (i : ℕ) → t.entries ≤ i → refused 8 alone ≡ entry_of s i
  pick_none i h = sym (failed _ _ _ _ (le-ltb i (length (list_of s)) (rw good.number h))) ∙ table_given (pick_in i)

  pub pick_some : (i : ℕ) (x : GuidEntry) → i < t.entries → x ≡ get_or (list_of s) i no_entry → given x ≡ entry_of s i
  pick_some i x h is = ap given is ∙ sym (passed _ _ _ _ (lt-ltb i (length (list_of s)) (rw good.number h))) ∙ table_given (pick_in i)

  -- the entry that the code reads where entry k ends is entry k, and its data begins where the next one ends
  pub entry_is : (k e : ℕ) (x : GuidEntry) → k < t.entries → e ≡ end_of s k → x ≡ entry_before s e (length_at s (e - 18)) → x ≡ get_or (list_of s) k no_entry
  entry_is k e x h q p = p ∙ ap (λ (j : ℕ). entry_before s j (length_at s (j - 18))) q ∙ sym (good.at k h)

  pub next_end : (k e : ℕ) (x : GuidEntry) → k < t.entries → e ≡ end_of s k → x ≡ entry_before s e (length_at s (e - 18)) → x.place ≡ end_of s (k + 1)
  next_end k e x h q p = ap (λ (y : GuidEntry). y.place) (entry_is k e x h q p) ∙ sym (end_next (footer_at s) (list_of s) k)

  pub standing_at : (k e : ℕ) → k < t.entries → e ≡ end_of s k → Standing s e
  standing_at k e h q = subst (Standing s) (sym q) (good.standing k h)

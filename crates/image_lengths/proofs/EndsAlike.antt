-- Images that end alike. Assumes nothing.
use mathlib.Core.Path.{◌≡◌, refl, sym, ap, ap₂, subst, ◌∙◌}
use mathlib.Core.List.{List, [], ◌∷◌, ◌++◌, map, map-append}
use mathlib.Core.Bool.{Bool, true, false, not, cond}
use Prim.Native.Nat.{ℕ, zero, suc, ◌+◌, ◌-◌, ◌<◌, ◌≤◌}
use native.Mathlib.Omega.{arith}
use borrow.Author.Tests.{eqb-true}
use lib.ListN.{length, take, drop, length-append}
use lib.Seq.{drop-append-add}
use Rattle.le.specs.Le.{le_at}
use lib.Dec.{ltb, eqb}
use Rattle.reply.specs.Reply.{Reply, given, refused, alone, in_entry, guard, then, met}
use Rattle.reply.specs.Scan.{Lowest}
use Rattle.reply.proofs.ReplyLaws.{past, clash, then_given, either, met_given}
use Rattle.reply.proofs.ScanLaws.{scan_same}
use Rattle.window.specs.Window.{four_gib, offset_in}
use Rattle.window.specs.Inside.{Shown, GoodLength}
use Rattle.window.specs.declared.Offset.{Offset}
use Rattle.window.proofs.Inside.{offset_fact, offset_given}
use Rattle.window.proofs.Length.{sized_passed, sized_past}
use Rattle.directory.specs.Directory.{psp_kind, directory_at}
use Rattle.directory.specs.declared.Directory.{Directory}
use Rattle.directory.proofs.Accept.{acceptance}
use Rattle.entries.specs.Entry.{entry_of, entry_in, lead_step, lead_in, matches, found_at, find_step, nowhere, find_in}
use Rattle.entries.specs.Part.{leads_to, part_in}
use Rattle.entries.specs.Good.{BeginsAt, physical, flash, counted, GoodPart}
use Rattle.entries.specs.declared.Entry.{Entry}
use Rattle.entries.specs.declared.Lead.{Lead}
use Rattle.entries.specs.declared.Part.{Part}
use Rattle.entries.proofs.Accept.{only_entry}
use Rattle.entries.proofs.Lowest.{lowest_lead}
use Rattle.entries.proofs.PartAccept.{two_bits, lead_fact, lead_given, parts_accepted}
use Rattle.efs.specs.Rules.{rules_of}
use Rattle.efs.specs.Good.{EfsAt, PointsTo}
use Rattle.efs.specs.Good as pointer
use Rattle.efs.specs.Efs.{efs_place, efs_at, efs_in, absent, pointer_to, pointer_from, pointer_of, pointer_in, flash_efs, flash_pointer}
use Rattle.efs.specs.declared.Efs.{Efs}
use Rattle.efs.specs.declared.Pointer.{Pointer}
use Rattle.efs.proofs.Accept.{only_efs, all_efs, pointer_fact}
use Rattle.flash.specs.Flash.{level_one, level_two_at, level_two, from_lookup, flash_directory, flash_entry, flash_part, flash_find}
use Rattle.flash.proofs.Ways.{Opened, one, two, opened, open_one, open_two}
use Rattle.walk.specs.Walk.{Step, enter, test, fault, entries_from, walked_by, below_of, walk_of, first_in, find_image}
use Rattle.walk.specs.declared.ImageMatch.{ImageMatch}
use Rattle.build_again.specs.Again.{from_start, told_from_start}
use Rattle.build_again.proofs.Moved.{le_drop, directory_same, entry_same}
use Rattle.image_lengths.specs.Told.{candidate}
use Rattle.image_lengths.specs.EndsAlike.{moved, moved_efs, moved_pointer, moved_directory, moved_part, moved_match, moved_answer, NoOffset, FromTheEnd, AllFromTheEnd, ImagesEndAlike}
use Rattle.image_lengths.proofs.Told.{fits, whole, told_physical}

-- of two candidates the later is the lower
lower : (i : ℕ) → i < 5 → candidate (suc i) ≤ candidate i
lower zero h = omega arith
lower (suc zero) h = omega arith
lower (suc (suc zero)) h = omega arith
lower (suc (suc (suc zero))) h = omega arith
lower (suc (suc (suc (suc zero)))) h = omega arith
lower (suc (suc (suc (suc (suc i))))) h = omega arith

descending : (k j i : ℕ) → i ≡ j + k → i < 6 → candidate i ≤ candidate j
descending zero j i e h = let at : i ≡ j = omega arith in let q : candidate i ≡ candidate j = ap candidate at in omega arith
descending (suc k) j i e h = let r = descending k (suc j) i (omega arith) h in let l = lower j (omega arith) in omega arith

-- a pointer that leads somewhere is below 4 GiB
below_4_gib : (s : List ℕ) (p : ℕ) (o : Offset) → GoodLength s → pointer_to (length s) s p ≡ given o → p < four_gib
below_4_gib s p o good e = by (pointer_fact (length s) (fits s good) s p o e).0
  where
    by : PointsTo (length s) p o.0 → p < four_gib
    by (pointer.physical shown) = omega (arith, shown.inside, shown.counted)
    by (pointer.flash f t q) = omega arith

moved_cond : (n : ℕ) (b : Bool) (x y : Reply ImageMatch) → moved_answer n (cond b x y) ≡ cond b (moved_answer n x) (moved_answer n y)
moved_cond n true x y = refl
moved_cond n false x y = refl

module _ (front s : List ℕ) (short : GoodLength s) (allowed : GoodLength (front ++ s)) where
  abbrev n : ℕ
  n = length front

  -- the longer image
  abbrev t : List ℕ
  t = front ++ s

  long : length t ≡ n + length s
  long = length-append front s

  -- the bytes from a place on are those of the shorter
  rest : (o : ℕ) → drop (n + o) t ≡ drop o s
  rest o = drop-append-add front s o

  number : (m o p : ℕ) → le_at m t (n + o + p) ≡ le_at m s (o + p)
  number m o p = sym (le_drop m t (n + o) p) ∙ ap (λ (x : List ℕ). le_at m x p) (rest o) ∙ le_drop m s o p

  -- an address that the shorter shows
  shown : (a o : ℕ) → Shown (length s) a o → Shown (length t) a (n + o)
  shown a o h = let l = long in record { inside = omega (arith, h.inside); counted = omega (arith, h.counted) }

  address : (a : ℕ) (o : Offset) → offset_in (length s) a ≡ given o → offset_in (length t) a ≡ given (moved n o)
  address a o e =
      let f = offset_fact (length s) a o e in
      let l = long in
      let k = fits t allowed in
      offset_given (length t) a (n + o.0) (omega (arith, f.0)) f.1 (omega (arith, f.0, f.2))

  -- ---- the EFS
  abbrev Here : ℕ → Type 0
  Here j = EfsAt (length s) s (candidate j)

  abbrev There : ℕ → Type 0
  There j = EfsAt (length t) t (candidate j)

  there : (i : ℕ) → Here i → There i
  there i h = let l = long in record { place = n + h.place; shown = shown (candidate i) h.place h.shown; present = omega (arith, h.present); signature = number 4 h.place 0 ∙ h.signature }

  -- a candidate that is not below one that the shorter shows is shown by the shorter too
  here : (i j o : ℕ) → candidate i ≤ candidate j → j < 6 → Shown (length s) (candidate i) o → There j → Here j
  here i j o high few seen h =
      let l = long in
      let far : n ≤ h.place = omega (arith, seen.counted, h.shown.counted) in
      let at : n + (h.place - n) ≡ h.place = omega arith in
      let mine : Shown (length s) (candidate j) (h.place - n) = record { inside = omega (arith, h.shown.inside); counted = omega (arith, h.shown.counted) } in
      record {
        place = h.place - n;
        shown = mine;
        present = whole s j (h.place - n) few mine;
        signature = sym (number 4 (h.place - n) 0) ∙ ap (λ (o : ℕ). le_at 4 t (o + 0)) at ∙ h.signature;
      }

  lowest_there : (i : ℕ) → Lowest Here 6 i → Lowest There 6 i
  lowest_there i l = record {
    inside = l.inside;
    here = there i l.here;
    earlier = λ j h g. l.earlier j h (here i j l.here.place (descending (i - j) j i (omega arith) l.inside) (let b = l.inside in omega arith) l.here.shown g);
  }

  efs_place_lem : (o : Offset) → efs_place (length s) (rules_of s).candidates s ≡ given o → efs_place (length t) (rules_of t).candidates t ≡ given (moved n o)
  unfolding lowest_there there
  efs_place_lem o e =
      let f = only_efs (length s) (fits s short) s (rules_of s).candidates o e in
      all_efs (length t) (fits t allowed) t (rules_of t).candidates f.0 (lowest_there f.0 f.1) ∙ ap (λ (x : ℕ). given (record { 0 = n + x })) f.2

  efs_same : (o : Offset) → efs_at t (moved n o) ≡ moved_efs n (efs_at s o)
  efs_same o = λ j. record { place = moved n o; early = number 4 o.0 0x10 j; late = number 4 o.0 0x14 j }

  efs_in_lem : (e : Efs) → efs_in (rules_of s) s ≡ given e → efs_in (rules_of t) t ≡ given (moved_efs n e)
  efs_in_lem e h =
      let v = then_given (efs_place (length s) (rules_of s).candidates s) (λ o. given (efs_at s o)) h in
      let is : efs_at s v.0 ≡ e = let g = v.2 in cc in
      ap (λ (x : Reply Offset). then x (λ o. given (efs_at t o))) (efs_place_lem v.0 v.1) ∙ ap given (efs_same v.0 ∙ ap (moved_efs n) is)

  -- ---- the pointer
  to : (p : ℕ) (o : Offset) → four_gib ≤ p + length s → pointer_to (length s) s p ≡ given o → pointer_to (length t) t p ≡ given (moved n o)
  to p o high e =
      let b = below_4_gib s p o short e in
      let l = long in
      let is : p + length s - four_gib ≡ o.0 = let q = sym (told_physical s short p (high, b)) ∙ e in cc in
      told_physical t allowed p (omega arith, b) ∙ ap (λ (x : ℕ). given (record { 0 = x })) (omega arith)

  from : (field v : ℕ) (p : Pointer) → pointer_from (length s) s field v ≡ given p → four_gib ≤ p.value + length s → pointer_from (length t) t field v ≡ given (moved_pointer n p)
  from field v p e high =
      let u = then_given (pointer_to (length s) s v) (λ o. given (record { field = field; value = v; place = o })) e in
      let is : record { field = field; value = v; place = u.0 } ≡ p = let g = u.2 in cc in
      let value : v ≡ p.value = ap (λ (x : Pointer). x.value) is in
      ap (λ (x : Reply Offset). then x (λ o. given (record { field = field; value = v; place = o }))) (to v u.0 (omega arith) u.1) ∙ ap (λ (x : Pointer). given (moved_pointer n x)) is

  pointer_of_lem : (e : Efs) (p : Pointer) → pointer_of (length s) s e ≡ given p → four_gib ≤ p.value + length s → pointer_of (length t) t (moved_efs n e) ≡ given (moved_pointer n p)
  unfolding pointer_of
  pointer_of_lem e p h high =
      either (absent e.late) _ _ h
      (λ b x. let g = past (not (absent e.early)) _ _ _ x in simp (b, g.0) (from 0x10 e.early p g.1 high))
      (λ b y. simp b (from 0x14 e.late p y high))

  pointer_in_lem : (p : Pointer) → pointer_in (rules_of s) s ≡ given p → four_gib ≤ p.value + length s → pointer_in (rules_of t) t ≡ given (moved_pointer n p)
  pointer_in_lem p h high =
      let u = then_given (efs_in (rules_of s) s) (pointer_of (length s) s) h in
      ap (λ (x : Reply Efs). then x (pointer_of (length t) t)) (efs_in_lem u.0 u.1) ∙ pointer_of_lem u.0 p u.2 high

  -- ---- a directory and its entries
  directory_at_lem : (level o : ℕ) (d : Directory) → directory_at psp_kind 512 level s o ≡ given d → directory_at psp_kind 512 level t (n + o) ≡ given (moved_directory n d)
  directory_at_lem level o d e = by (directory_at psp_kind 512 level t (n + o)) refl same
    where
      same : told_from_start (directory_at psp_kind 512 level t (n + o)) ≡ given (from_start d)
      same = sym (directory_same psp_kind t (n + o) 512 level) ∙ ap (λ (x : List ℕ). directory_at psp_kind 512 level x 0) (rest o) ∙ directory_same psp_kind s o 512 level ∙ ap told_from_start e

      by : (q : Reply Directory) → directory_at psp_kind 512 level t (n + o) ≡ q → told_from_start q ≡ given (from_start d) → q ≡ given (moved_directory n d)
      by (given c) h k =
          let f : from_start c ≡ from_start d = cc in
          let x = acceptance.only psp_kind 512 level t (n + o) c h in
          let y = acceptance.only psp_kind 512 level s o d e in
          let place : c.place.0 ≡ n + d.place.0 = omega (arith, x.1, y.1) in
          let level : c.level ≡ d.level = ap (λ (z : Directory). z.level) f in
          let total : c.total ≡ d.total = ap (λ (z : Directory). z.total) f in
          ap given (λ j. record { place = record { 0 = place j }; level = level j; total = total j })
      by (refused number carried) h k = clash k

  entry_of_lem : (d : Directory) (i : ℕ) → entry_of psp_kind t (moved_directory n d) i ≡ entry_of psp_kind s d i
  entry_of_lem d i = sym (entry_same psp_kind t (moved_directory n d) i) ∙ ap (λ (x : List ℕ). entry_of psp_kind x (from_start d) i) (rest d.place.0) ∙ entry_same psp_kind s d i

  entry_in_lem : (d : Directory) (i : ℕ) → entry_in psp_kind t (moved_directory n d) i ≡ entry_in psp_kind s d i
  entry_in_lem d i = ap (λ (e : Entry). guard (ltb i d.total) 8 (given e)) (entry_of_lem d i)

  lead_in_lem : (d : Directory) → lead_in psp_kind t (moved_directory n d) ≡ lead_in psp_kind s d
  lead_in_lem d =
      scan_same (lead_step psp_kind t (moved_directory n d)) (lead_step psp_kind s d) (λ _. refused 8 alone) d.total 0
      (λ j a b rest. ap (λ (e : Entry). cond (eqb e.class psp_kind.lead) (given (record { index = j; entry = e })) rest) (entry_of_lem d j))

  find_in_lem : (d : Directory) (class sub : ℕ) → find_in psp_kind t (moved_directory n d) class sub ≡ find_in psp_kind s d class sub
  find_in_lem d class sub =
      scan_same (find_step psp_kind t (moved_directory n d) class sub) (find_step psp_kind s d class sub) nowhere d.total 0
      (λ j a b rest. ap (λ (e : Entry). cond (matches e class sub) (found_at j) rest) (entry_of_lem d j))

  -- ---- where a location leads
  begins : (o : ℕ) (e : Entry) (place : ℕ) → NoOffset e → BeginsAt (length s) o e place → BeginsAt (length t) (n + o) e (n + place)
  begins o e place no-offset (physical m h) = physical m (shown e.location place h)
  begins o e place no-offset (flash m l) = absurd (no-offset m)
  begins o e place no-offset (counted m l) = counted m (omega arith)

  leads_to_lem : (o : ℕ) (e : Entry) (p : Offset) → e.mode ≤ 3 → NoOffset e → leads_to (length s) s o e ≡ given p → leads_to (length t) t (n + o) e ≡ given (moved n p)
  leads_to_lem o e p m no-offset h =
      let f = lead_fact (length s) (fits s short) s o e p m h in
      let l = long in
      lead_given (length t) (fits t allowed) t (n + o) e (moved n p) (begins o e p.0 no-offset f.0) (omega (arith, f.1))

  level_two_at_lem : (above : Directory) (i : ℕ) (e : Entry) (d : Directory) → e.mode ≤ 3 → NoOffset e → level_two_at (rules_of s) s above i e ≡ given d →
      level_two_at (rules_of t) t (moved_directory n above) i e ≡ given (moved_directory n d)
  level_two_at_lem above i e d m no-offset h =
      let o = above.place.0 in
      let p = then_given (met (in_entry above.level i o) (leads_to (length s) s o e)) (λ p. directory_at psp_kind 512 2 s p.0) h in
      let q = leads_to_lem o e p.0 m no-offset (met_given _ (leads_to (length s) s o e) p.1) in
      ap (λ (x : Reply Offset). then (met (in_entry above.level i (n + o)) x) (λ p. directory_at psp_kind 512 2 t p.0)) q ∙ directory_at_lem 2 p.0.0 d p.2

  part_in_lem : (d : Directory) (i : ℕ) (p : Part) → NoOffset (entry_of psp_kind s d i) → part_in psp_kind (length s) s d i ≡ given p → part_in psp_kind (length t) t (moved_directory n d) i ≡ given (moved_part n p)
  part_in_lem d i p no-offset h =
      let f = (parts_accepted psp_kind (length s) s d i p (fits s short)).only h in
      let l = long in
      let good : GoodPart psp_kind (length t) t (n + d.place.0) (entry_of psp_kind s d i) (moved_part n p) = record {
        no_value = f.1.no_value;
        begins = begins d.place.0 (entry_of psp_kind s d i) p.place.0 no-offset f.1.begins;
        size = f.1.size;
        inside = omega (arith, f.1.inside);
      } in
      (parts_accepted psp_kind (length t) t (moved_directory n d) i (moved_part n p) (fits t allowed)).all f.0
      (subst (λ (e : Entry). GoodPart psp_kind (length t) t (n + d.place.0) e (moved_part n p)) (sym (entry_of_lem d i)) good)

  -- ---- the calls
  efs_call : (e : Efs) → flash_efs (rules_of s) s ≡ given e → flash_efs (rules_of t) t ≡ given (moved_efs n e)
  efs_call e h = sized_passed t (efs_in (rules_of t) t) allowed ∙ efs_in_lem e (sized_past s (efs_in (rules_of s) s) h).1

  module _ (way : FromTheEnd s) where
    pointer_call : (p : Pointer) → flash_pointer (rules_of s) s ≡ given p → flash_pointer (rules_of t) t ≡ given (moved_pointer n p)
    pointer_call p h = sized_passed t (pointer_in (rules_of t) t) allowed ∙ pointer_in_lem p (sized_past s (pointer_in (rules_of s) s) h).1 (way.pointer p h)

    level_one_lem : (d : Directory) → level_one (rules_of s) s ≡ given d → level_one (rules_of t) t ≡ given (moved_directory n d)
    level_one_lem d h =
        let u = then_given (pointer_in (rules_of s) s) (λ p. directory_at psp_kind 512 1 s p.place.0) h in
        ap (λ (x : Reply Pointer). then x (λ p. directory_at psp_kind 512 1 t p.place.0)) (pointer_in_lem u.0 u.1 (way.pointer u.0 (sized_passed s (pointer_in (rules_of s) s) short ∙ u.1)))
        ∙ directory_at_lem 1 u.0.place.0 d u.2

    level_two_lem : (above d : Directory) → level_one (rules_of s) s ≡ given above → level_two (rules_of s) s above ≡ given d → level_two (rules_of t) t (moved_directory n above) ≡ given (moved_directory n d)
    level_two_lem above d first h =
        let k = then_given (lead_in psp_kind s above) (λ l. level_two_at (rules_of s) s above l.index l.entry) h in
        let l = lowest_lead.found_only psp_kind s above k.0 k.1 in
        let m : k.0.entry.mode ≤ 3 = subst (λ (e : Entry). e.mode ≤ 3) l.1 (two_bits s _) in
        ap (λ (x : Reply Lead). then x (λ l. level_two_at (rules_of t) t (moved_directory n above) l.index l.entry)) (lead_in_lem above ∙ k.1)
        ∙ level_two_at_lem above k.0.index k.0.entry d m (way.lead above k.0 (open_one (rules_of s) s above short first) k.1) k.2

    directory_call : (level : ℕ) (d : Directory) → flash_directory (rules_of s) level s ≡ given d → flash_directory (rules_of t) level t ≡ given (moved_directory n d)
    directory_call level d h = by (opened (rules_of s) s d level h).1
      where
        by : {level : ℕ} → Opened (rules_of s) s d level → flash_directory (rules_of t) level t ≡ given (moved_directory n d)
        by (one q) = open_one (rules_of t) t (moved_directory n d) allowed (level_one_lem d q)
        by (two above a q) = open_two (rules_of t) t (moved_directory n d) allowed (moved_directory n above) (level_one_lem above a) (level_two_lem above d a q)

    entry_call : (level : ℕ) (d : Directory) → flash_directory (rules_of s) level s ≡ given d → (i : ℕ) → flash_entry (rules_of t) level t i ≡ flash_entry (rules_of s) level s i
    entry_call level d h i =
        ap (λ (x : Reply Directory). then x (λ d. entry_in psp_kind t d i)) (directory_call level d h) ∙ entry_in_lem d i ∙ sym (ap (λ (x : Reply Directory). then x (λ d. entry_in psp_kind s d i)) h)

    find_call : (level : ℕ) (d : Directory) → flash_directory (rules_of s) level s ≡ given d → (class sub : ℕ) → flash_find (rules_of t) level t class sub ≡ flash_find (rules_of s) level s class sub
    find_call level d h class sub =
        ap (λ (x : Reply Directory). then (from_lookup x) (λ d. find_in psp_kind t d class sub)) (directory_call level d h)
        ∙ find_in_lem d class sub
        ∙ sym (ap (λ (x : Reply Directory). then (from_lookup x) (λ d. find_in psp_kind s d class sub)) h)

    part_call : (level i : ℕ) (e : Entry) (p : Part) → flash_entry (rules_of s) level s i ≡ given e → NoOffset e → flash_part (rules_of s) level s i ≡ given p → flash_part (rules_of t) level t i ≡ given (moved_part n p)
    part_call level i e p a no-offset h =
        let u = then_given (flash_directory (rules_of s) level s) (λ d. part_in psp_kind (length s) s d i) h in
        let is : entry_in psp_kind s u.0 i ≡ given e = sym (ap (λ (x : Reply Directory). then x (λ d. entry_in psp_kind s d i)) u.1) ∙ a in
        let same = only_entry psp_kind s u.0 i e is in
        ap (λ (x : Reply Directory). then x (λ d. part_in psp_kind (length t) t d i)) (directory_call level u.0 u.1)
        ∙ part_in_lem u.0 i p (subst NoOffset (sym same.1) no-offset) u.2

  -- ---- the walk through the whole image
  abbrev moved_step : Step → Step
  moved_step (enter d) = enter (moved_directory n d)
  moved_step (test d i) = test (moved_directory n d) i
  moved_step (fault number carried) = fault number carried

  -- the steps of a directory's last entries, where what each leads to is moved as well
  entries_from_lem : (below-t below-s : (i : ℕ) → Entry → List Step) (d : Directory) (m i : ℕ) →
      ((j : ℕ) → j < i + m → below-t j (entry_of psp_kind s d j) ≡ map moved_step (below-s j (entry_of psp_kind s d j))) →
      entries_from below-t psp_kind t (moved_directory n d) m i ≡ map moved_step (entries_from below-s psp_kind s d m i)
  unfolding entries_from
  entries_from_lem below-t below-s d zero i h = refl
  entries_from_lem below-t below-s d (suc m) i h =
      ap₂ (λ (x y : List Step). test (moved_directory n d) i ∷ (x ++ y)) (ap (below-t i) (entry_of_lem d i) ∙ h i (omega arith)) (entries_from_lem below-t below-s d m (i + 1) (λ j b. h j (omega arith)))
      ∙ ap (λ (x : List Step). test (moved_directory n d) i ∷ x) (sym (map-append moved_step (below-s i (entry_of psp_kind s d i)) (entries_from below-s psp_kind s d m (i + 1))))

  -- a directory with nothing below it
  walked : (d : Directory) → walk_of 0 (rules_of t) t (moved_directory n d) ≡ map moved_step (walk_of 0 (rules_of s) s d)
  unfolding below_of
  walked d =
      ap (λ (x : List Step). enter (moved_directory n d) ∷ x)
      (entries_from_lem (below_of 0 (rules_of t) t (moved_directory n d)) (below_of 0 (rules_of s) s d) d d.total 0 (λ j b. refl))

  module _ (whole-way : AllFromTheEnd s) (d : Directory) (first : flash_directory (rules_of s) 1 s ≡ given d) where
    -- what entry j of level one leads to
    below : (j : ℕ) → j < d.total → below_of 1 (rules_of t) t (moved_directory n d) j (entry_of psp_kind s d j) ≡ map moved_step (below_of 1 (rules_of s) s d j (entry_of psp_kind s d j))
    unfolding below_of
    below j b = by (eqb (entry_of psp_kind s d j).class psp_kind.lead) refl
      where
        by : (l : Bool) → eqb (entry_of psp_kind s d j).class psp_kind.lead ≡ l →
            cond l (walked_by (walk_of 0 (rules_of t) t) (level_two_at (rules_of t) t (moved_directory n d) j (entry_of psp_kind s d j))) []
            ≡ map moved_step (cond l (walked_by (walk_of 0 (rules_of s) s) (level_two_at (rules_of s) s d j (entry_of psp_kind s d j))) [])
        by true q =
            let lead = eqb-true _ _ q in
            let g = whole-way.good d j first b lead in
            ap (walked_by (walk_of 0 (rules_of t) t)) (level_two_at_lem d j (entry_of psp_kind s d j) g.0 (two_bits s _) (whole-way.leads d j first b lead) g.1)
            ∙ walked g.0
            ∙ sym (ap (λ (x : Reply Directory). map moved_step (walked_by (walk_of 0 (rules_of s) s) x)) g.1)
        by false q = refl

    walk : walk_of 1 (rules_of t) t (moved_directory n d) ≡ map moved_step (walk_of 1 (rules_of s) s d)
    walk =
        ap (λ (x : List Step). enter (moved_directory n d) ∷ x)
        (entries_from_lem (below_of 1 (rules_of t) t (moved_directory n d)) (below_of 1 (rules_of s) s d) d d.total 0 (λ j b. below j (omega arith)))

  -- the first match of steps that were moved
  first_in_lem : (class sub : ℕ) (steps : List Step) (k : ℕ) → first_in psp_kind t class sub (map moved_step steps) k ≡ moved_answer n (first_in psp_kind s class sub steps k)
  unfolding first_in
  first_in_lem class sub [] k = refl
  first_in_lem class sub (enter d ∷ steps) k = first_in_lem class sub steps k
  first_in_lem class sub (test d i ∷ steps) k =
      ap (λ (e : Entry). cond (matches e class sub) (given (moved_match n (record { place = d.place; level = d.level; index = i; tested = k + 1 }))) (first_in psp_kind t class sub (map moved_step steps) (k + 1))) (entry_of_lem d i)
      ∙ ap (cond (matches (entry_of psp_kind s d i) class sub) _) (first_in_lem class sub steps (k + 1))
      ∙ sym (moved_cond n (matches (entry_of psp_kind s d i) class sub) _ _)
  first_in_lem class sub (fault number carried ∷ steps) k = refl

  find_image_call : AllFromTheEnd s → (d : Directory) → flash_directory (rules_of s) 1 s ≡ given d → (class sub : ℕ) → find_image (rules_of t) t class sub ≡ moved_answer n (find_image (rules_of s) s class sub)
  find_image_call whole-way d h class sub =
      ap (λ (x : Reply Directory). then (from_lookup x) (λ d. first_in psp_kind t class sub (walk_of 1 (rules_of t) t d) 0)) (directory_call whole-way.way 1 d h)
      ∙ ap (λ (steps : List Step). first_in psp_kind t class sub steps 0) (walk whole-way d h)
      ∙ first_in_lem class sub (walk_of 1 (rules_of s) s d) 0
      ∙ sym (ap (λ (x : Reply Directory). moved_answer n (then (from_lookup x) (λ d. first_in psp_kind s class sub (walk_of 1 (rules_of s) s d) 0))) h)

  bytes_same : (p : Part) → take p.length (drop (n + p.place.0) t) ≡ take p.length (drop p.place.0 s)
  bytes_same p = ap (take p.length) (rest p.place.0)

pub images_end_alike : ImagesEndAlike
images_end_alike front s short allowed = record {
  address = address front s short allowed;
  efs = efs_call front s short allowed;
  pointer = pointer_call front s short allowed;
  directory = directory_call front s short allowed;
  entry = entry_call front s short allowed;
  find = find_call front s short allowed;
  find_image_lem = find_image_call front s short allowed;
  part = part_call front s short allowed;
  bytes = bytes_same front s short allowed;
}

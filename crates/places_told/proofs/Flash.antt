-- What the calls on a level pass on is right by the bytes. Assumes nothing.
use mathlib.Core.Path.{◌≡◌, refl, sym, ap, subst, ◌∙◌}
use mathlib.Core.Logic.{◌⊎◌, inl, inr}
use mathlib.Core.List.{List}
use mathlib.Core.Bool.{Bool, true, false, cond}
use Prim.Native.Nat.{ℕ, ◌≤◌}
use native.Mathlib.Omega.{arith}
use borrow.Author.Tests.{leb-true, eqb-true, eqb-false, le-leb}
use lib.Dec.{leb, eqb}
use Rattle.reply.specs.Reply.{Reply, Carried, given, refused, alone, tested, in_entry, then}
use Rattle.reply.proofs.ReplyLaws.{passed}
use Rattle.window.specs.Window.{four_gib}
use Rattle.window.specs.Length.{length_allowed}
use Rattle.window.proofs.Length.{allowed_fact, sized_past}
use Rattle.directory.specs.Directory.{directory_at}
use Rattle.directory.specs.Good.{GoodDirectory}
use Rattle.directory.specs.declared.Directory.{Directory}
use Rattle.directory.proofs.Accept.{there_from, there_to}
use Rattle.entries.specs.Entry.{lead_in, find_in}
use Rattle.entries.specs.declared.Lead.{Lead}
use Rattle.entries.proofs.Lowest.{lowest_lead, lowest_match}
use Rattle.efs.specs.Efs.{pointer_in}
use Rattle.efs.specs.declared.Rules.{Rules}
use Rattle.efs.specs.declared.Pointer.{Pointer}
use Rattle.flash.specs.Flash.{level_one, level_two, level_two_at, level_of, flash_directory, flash_part, from_lookup, flash_find}
use Rattle.flash.specs.Good.{GoodLevel, of_one, of_two}
use Rattle.flash.proofs.Ways.{open_one}
use Rattle.flash.proofs.Accept.{levels_accepted}
use Rattle.places_told.specs.Told.{FlashFault, nowhere, in_one, below, BytesFault, on_the_way, in_part, Counted}
use Rattle.places_told.proofs.Refused.{refusal, stopped, branched, then_stopped}
use Rattle.places_told.proofs.Alone.{Alone, pointer_alone, lead_alone}
use Rattle.places_told.proofs.Checks.{directory_only, directory_all}
use Rattle.places_told.proofs.Parts.{led_only, led_all, part_stopped}

-- a directory that a level gives is good, and has that level
pub good_of : (r : Rules) → r.window ≤ four_gib → (s : List ℕ) (d : Directory) (level : ℕ) → flash_directory r level s ≡ given d → GoodDirectory r.kind r.limit s d × (d.level ≡ level)
good_of r fits s d level e = by ((levels_accepted r level s d fits).only e).1
  where
    by : {l : ℕ} → GoodLevel r s d l → GoodDirectory r.kind r.limit s d × (d.level ≡ l)
    by (of_one g) = (g.directory, g.level)
    by (of_two g) = (g.directory, g.level)

-- one of the two levels, and not the first
pub second : (level : ℕ) → leb 1 level ≡ true → leb level 2 ≡ true → eqb level 1 ≡ false → level ≡ 2
second level from to other = let a = leb-true 1 level from in let b = leb-true level 2 to in let n = eqb-false level 1 other in omega arith

module _ (r : Rules) (level : ℕ) (s : List ℕ) (n : ℕ) (c : Carried) where
  -- a refusal that carries nothing
  pub alone_fault : c ≡ alone → FlashFault r level s n c
  alone_fault e = subst (FlashFault r level s n) (sym e) nowhere

  -- level one
  one_fault : level_one r s ≡ refused n c → FlashFault r level s n c
  one_fault e =
      then_stopped (pointer_in r s) (λ p. directory_at r.kind r.limit 1 s p.place.0) e (λ q. alone_fault (pointer_alone r s n c q))
      (λ p q e. in_one p q (directory_only r.kind r.limit 1 s p.place.0 n c (inl refl) e))

  pub first_fault : flash_directory r 1 s ≡ refused n c → FlashFault r level s n c
  unfolding flash_directory
  first_fault e = stopped (length_allowed s) 15 _ _ e (λ b m k. alone_fault (sym k)) (λ b. one_fault)

  module _ (fits : r.window ≤ four_gib) where
    -- what the lowest lead leads to
    pub found_fault : level ≡ 2 → (d : Directory) → flash_directory r 1 s ≡ given d → (l : Lead) → lead_in r.kind s d ≡ given l → level_two_at r s d l.index l.entry ≡ refused n c → FlashFault r level s n c
    found_fault two d e l g q =
        let w = lowest_lead.found_only r.kind s d l g in
        below d l.index two e w.0 (led_only r fits s d l.index n c (ap (level_two_at r s d l.index) w.1 ∙ q))

    two_fault : level ≡ 2 → (d : Directory) → flash_directory r 1 s ≡ given d → level_two r s d ≡ refused n c → FlashFault r level s n c
    two_fault two d e q = then_stopped (lead_in r.kind s d) _ q (λ q. alone_fault (lead_alone r.kind s d n c q)) (found_fault two d e)

    pub directory_fault : flash_directory r level s ≡ refused n c → FlashFault r level s n c
    unfolding flash_directory
    directory_fault e =
        stopped (leb 1 level) 9 _ _ e (λ b m k. alone_fault (sym k))
        (λ from e. stopped (leb level 2) 9 _ _ e (λ b m k. alone_fault (sym k))
        (λ to e. stopped (length_allowed s) 15 _ _ e (λ b m k. alone_fault (sym k))
        (λ long e. branched (eqb level 1) _ _ e (λ b. one_fault)
        (λ b e. then_stopped (level_one r s) (level_two r s) e one_fault (λ d q. two_fault (second level from to b) d (open_one r s d (allowed_fact s long) q))))))

    -- what is asked of the directory next refuses alone
    pub next_fault : {B : Type 0} (next : Directory → Reply B) → ((d : Directory) → Alone (next d)) → then (flash_directory r level s) next ≡ refused n c → FlashFault r level s n c
    next_fault next h e = then_stopped (flash_directory r level s) next e directory_fault (λ d q e. alone_fault (h d n c e))

    pub part_fault : (i : ℕ) → flash_part r level s i ≡ refused n c → BytesFault r level s i n c
    part_fault i e =
        then_stopped (flash_directory r level s) _ e (λ q. on_the_way (directory_fault q))
        (λ d q e. part_stopped r.kind r.window fits s d i n c e (λ k. on_the_way (alone_fault k))
        (λ inside f k. subst (BytesFault r level s i n) (ap (λ (l : ℕ). in_entry l i d.place.0) (sym (good_of r fits s d level q).1) ∙ k) (in_part d q inside f)))

    -- a lookup: 8 with a count, or as the directory
    pub lookup_fault : {B F : Type 0} (next : Directory → Reply B) → (FlashFault r level s n c → F) → ((d : Directory) → flash_directory r level s ≡ given d → next d ≡ refused n c → Counted n c ⊎ F) →
        then (from_lookup (flash_directory r level s)) next ≡ refused n c → Counted n c ⊎ F
    lookup_fault {F = F} next f h e = by (flash_directory r level s) refl e
      where
        told : (m : ℕ) (w : Carried) → flash_directory r level s ≡ refused m w → (b : Bool) → eqb m 8 ≡ b → ◌≡◌ {A = Reply Directory} (refused m (cond b (tested 0) w)) (refused n c) → Counted n c ⊎ F
        told m w q true t e = let k : m ≡ n = cc e in inl (sym k ∙ eqb-true _ _ t, (0, sym (cc e)))
        told m w q false t e = inr (f (directory_fault (q ∙ e)))

        by : (x : Reply Directory) → flash_directory r level s ≡ x → then (from_lookup x) next ≡ refused n c → Counted n c ⊎ F
        by (given d) q e = h d q e
        by (refused m w) q e = told m w q (eqb m 8) refl (refusal e)

    pub find_fault : (class sub : ℕ) → flash_find r level s class sub ≡ refused n c → Counted n c ⊎ FlashFault r level s n c
    find_fault class sub =
        lookup_fault (λ d. find_in r.kind s d class sub) (λ f. f) (λ d q e. let w = lowest_match.absent_only r.kind s d class sub n c e in inl (w.1, (d.total, w.2)))

-- ---- and back
module _ (r : Rules) (level : ℕ) (s : List ℕ) (n : ℕ) (there : (level ≡ 1) ⊎ (level ≡ 2)) where
  -- level one is refused, and with it either level
  one_back : (c : Carried) → level_one r s ≡ refused n c → level_of r level s ≡ refused n c
  one_back c q = by there
    where
      by : (level ≡ 1) ⊎ (level ≡ 2) → level_of r level s ≡ refused n c
      by (inl e) = rw e q
      by (inr e) = rw e (ap (λ (x : Reply Directory). then x (level_two r s)) q)

  pub directory_back_lem : r.window ≤ four_gib → length_allowed s ≡ true → (c : Carried) → (c ≡ alone → ⊥) → FlashFault r level s n c → flash_directory r level s ≡ refused n c
  unfolding flash_directory
  directory_back_lem fits long c some f = passed _ _ _ _ (le-leb _ _ (there_from level there)) ∙ passed _ _ _ _ (le-leb _ _ (there_to level there)) ∙ passed _ _ _ _ long ∙ by c some f
    where
      by : (c : Carried) → (c ≡ alone → ⊥) → FlashFault r level s n c → level_of r level s ≡ refused n c
      by c some nowhere = absurd (some refl)
      by c some (in_one p q f) =
          one_back c (ap (λ (x : Reply Pointer). then x (λ p. directory_at r.kind r.limit 1 s p.place.0)) q ∙ directory_all r.kind r.limit 1 s p.place.0 n c (inl refl) f)
      by c some (below d i two e w f) =
          rw two (ap (λ (x : Reply Directory). then x (level_two r s)) (sized_past s (level_one r s) e).1
          ∙ ap (λ (x : Reply Lead). then x (λ l. level_two_at r s d l.index l.entry)) (lowest_lead.found r.kind s d i w) ∙ led_all r fits s d i n c f)

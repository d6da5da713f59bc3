-- What the call that names a repeat passes on is right by the bytes. Assumes nothing.
use mathlib.Core.Path.{◌≡◌, refl, sym, ap, ◌∙◌}
use mathlib.Core.Logic.{inl}
use mathlib.Core.List.{List}
use mathlib.Core.Bool.{Bool, true, false, cond}
use Prim.Native.Nat.{ℕ, ◌≤◌}
use lib.Dec.{leb, eqb}
use Rattle.reply.specs.Reply.{Reply, Carried, given, refused, alone, then, met}
use Rattle.reply.proofs.ReplyLaws.{clash}
use Rattle.window.specs.Window.{four_gib}
use Rattle.window.specs.Length.{length_allowed}
use Rattle.window.specs.declared.Offset.{Offset}
use Rattle.window.proofs.Length.{sized_past}
use Rattle.directory.specs.Directory.{total_at, directory_at}
use Rattle.directory.specs.Repeat.{repeat_in, named_by, repeated_at}
use Rattle.directory.specs.declared.Kind.{Kind}
use Rattle.directory.specs.declared.Directory.{Directory}
use Rattle.entries.specs.Entry.{lead_in}
use Rattle.entries.specs.Part.{leads_to}
use Rattle.efs.specs.Efs.{pointer_in, flash_pointer}
use Rattle.efs.specs.declared.Rules.{Rules}
use Rattle.efs.specs.declared.Pointer.{Pointer}
use Rattle.flash.specs.Flash.{flash_directory}
use Rattle.repeats.specs.Repeats.{repeats_one, repeats_led, repeats_below, flash_repeats}
use Rattle.places_told.specs.Told.{FlashFault, in_one}
use Rattle.places_told.proofs.Refused.{refusal, stopped, branched, then_stopped}
use Rattle.places_told.proofs.Alone.{pointer_alone, lead_alone}
use Rattle.places_told.proofs.Checks.{directory_only}
use Rattle.places_told.proofs.Parts.{here}
use Rattle.places_told.proofs.Flash.{second, alone_fault, first_fault, found_fault}

-- a directory in which none is named is refused so itself, or good
named_stopped : {C : Type 0} {n : ℕ} {c : Carried} (kind : Kind) (limit level : ℕ) (s : List ℕ) (o : ℕ) → repeated_at kind limit level s o ≡ refused n c →
    (directory_at kind limit level s o ≡ refused n c → C) → (c ≡ alone → C) → C
named_stopped {C = C} {n = n} {c = c} kind limit level s o e f g = by (directory_at kind limit level s o) refl e
  where
    told : (m : ℕ) (w : Carried) → directory_at kind limit level s o ≡ refused m w → (b : Bool) → cond b (given (repeat_in kind s o (total_at s o))) (refused m w) ≡ refused n c → C
    told m w q true e = clash (sym e)
    told m w q false e = f (q ∙ refusal e)

    by : (x : Reply Directory) → directory_at kind limit level s o ≡ x → named_by kind s o x ≡ refused n c → C
    by (given d) q e = g (sym (cc e))
    by (refused m w) q e = told m w q (eqb m 18) e

module _ (r : Rules) (level : ℕ) (s : List ℕ) (n : ℕ) (c : Carried) (fits : r.window ≤ four_gib) where
  one_repeats : repeats_one r s ≡ refused n c → FlashFault r level s n c
  one_repeats e =
      then_stopped (flash_pointer r s) _ e (λ e. stopped (length_allowed s) 15 _ _ e (λ b m k. alone_fault r level s n c (sym k)) (λ b e. alone_fault r level s n c (pointer_alone r s n c e)))
      (λ p q e. named_stopped r.kind r.limit 1 s p.place.0 e (λ e. in_one p (pointed p q) (directory_only r.kind r.limit 1 s p.place.0 n c (inl refl) e)) (alone_fault r level s n c))
    where
      pointed : (p : Pointer) → flash_pointer r s ≡ given p → pointer_in r s ≡ given p
      pointed p q = (sized_past s _ q).1

  -- what the lowest lead leads to, in which none is named
  below_repeats : level ≡ 2 → (d : Directory) → flash_directory r 1 s ≡ given d → repeats_below r s d ≡ refused n c → FlashFault r level s n c
  below_repeats two d e q =
      then_stopped (lead_in r.kind s d) (repeats_led r s d) q (λ q. alone_fault r level s n c (lead_alone r.kind s d n c q))
      (λ l g q. then_stopped (met (here d l.index) (leads_to r.window s d.place.0 l.entry)) _ q (λ q. found_fault r level s n c fits two d e l g (ap after q))
      (λ p w q. named_stopped r.kind r.limit 2 s p.0 q (λ q. found_fault r level s n c fits two d e l g (ap after w ∙ q)) (alone_fault r level s n c)))
    where
      after : Reply Offset → Reply Directory
      after x = then x (λ place. directory_at r.kind r.limit 2 s place.0)

  pub repeats_fault : flash_repeats r level s ≡ refused n c → FlashFault r level s n c
  unfolding flash_repeats
  repeats_fault e =
      stopped (leb 1 level) 9 _ _ e (λ b m k. alone_fault r level s n c (sym k))
      (λ from e. stopped (leb level 2) 9 _ _ e (λ b m k. alone_fault r level s n c (sym k))
      (λ to e. branched (eqb level 1) _ _ e (λ b. one_repeats)
      (λ b e. then_stopped (flash_directory r 1 s) (repeats_below r s) e (first_fault r level s n c) (below_repeats (second level from to b)))))

-- The definition's list is told by the leads, and no other list is. Assumes nothing.
use mathlib.Core.Path.{◌≡◌, refl, sym, ap, subst, ◌∙◌}
use mathlib.Core.List.{List, [], ◌∷◌}
use Prim.Native.Nat.{ℕ}
use native.Mathlib.Omega.{arith}
use Rattle.reply.specs.Reply.{Reply, Carried, given, refused, tested, then}
use Rattle.reply.proofs.ReplyLaws.{clash, then_given}
use Rattle.directory.specs.declared.Directory.{Directory}
use Rattle.efs.specs.declared.Rules.{Rules}
use Rattle.flash.specs.Flash.{flash_directory}
use Rattle.walk.specs.Walk.{walk_from, walk_of, find_image}
use Rattle.walk_places.specs.Places.{led_to, Enters, totals_below, all_spots}
use Rattle.walk_places.specs.Lookup.{Answered, matched, faulty, ended}
use Rattle.walk_places.proofs.Order.{Compared, less, equal, more, compared, one_given}
use Rattle.walk_places.proofs.Lookup.{image_lookup_by_places}
use Rattle.all_directories.specs.AllDirectories.{Entered, entered_in, flash_directories}
use Rattle.all_directories_told.specs.Told.{ListAll, In, totals_of, LowestFault, Listed, Answers, Listing, AllDirectoriesTold}
use Rattle.all_directories_told.proofs.Lists.{all_in, all_from, one_list}
use Rattle.all_directories_told.proofs.Leads as leads
use Rattle.all_directories_told.proofs.Leads.{From, Came, came}

module _ (r : Rules) (s : List ℕ) (d : Directory) (o : flash_directory r 1 s ≡ given d) where
  -- how all directories are answered
  data Ways (answer : Reply (List Entered)) : Type 0 where
    whole : (behind : List Entered) → From r s d 0 behind → answer ≡ given (record { directory = d; lead = 0 } ∷ behind) → Ways answer
    broken : (i number : ℕ) (carried : Carried) → LowestFault r s d i number carried → answer ≡ refused number carried → Ways answer

  ways : Ways (flash_directories r s)
  unfolding entered_in
  ways = by (came r s d d.total 0 (omega arith))
    where
      top : {x : Reply (List Entered)} → entered_in (walk_from 1 r s d d.total 0) 0 ≡ x → flash_directories r s ≡ then x (λ behind. given (record { directory = d; lead = 0 } ∷ behind))
      top e = ap (λ (x : Reply Directory). then x (λ d. entered_in (walk_of 1 r s d) 0)) o ∙ ap (λ (x : Reply (List Entered)). then x (λ behind. given (record { directory = d; lead = 0 } ∷ behind))) e

      by : Came r s d 0 (entered_in (walk_from 1 r s d d.total 0) 0) → Ways (flash_directories r s)
      by (leads.ended behind w e) = whole behind w (top e)
      by (leads.stopped k number carried f w e) = broken k number carried (record { here = f; earlier = λ l other with. w l other with (omega arith) }) (top e)

  listed_from : (behind : List Entered) → From r s d 0 behind → Listed r s d (record { directory = d; lead = 0 } ∷ behind)
  listed_from behind w = record { behind = behind; first = refl; only = all_from (λ e a. a.1) behind w.only; every = λ i n. w.every i n (omega arith); rising = w.rising }

  -- the lowest lead at fault is one, with one number
  one_fault : (i k number other : ℕ) (carried with : Carried) → LowestFault r s d i number carried → LowestFault r s d k other with → ◌≡◌ {A = Reply (List Entered)} (refused number carried) (refused other with)
  one_fault i k number other carried with w v = by (compared i k)
    where
      by : Compared i k → ◌≡◌ {A = Reply (List Entered)} (refused number carried) (refused other with)
      by (less h) = absurd (v.earlier i number carried h w.here)
      by (equal e) = ap (λ (x : Reply Directory). then x (λ n. given [])) (sym w.here.fault ∙ ap (led_to r s d) e ∙ v.here.fault)
      by (more h) = absurd (w.earlier k other with h v.here)

  holds_of : Answers flash_directories r s d
  holds_of = by ways
    where
      by : Ways (flash_directories r s) → Answers flash_directories r s d
      by (whole behind w e) = record {
        sound = λ q. (record { directory = d; lead = 0 } ∷ behind, e);
        sound_only = λ found q i number carried. w.sound i number carried (omega arith);
        listed = λ found q. subst (Listed r s d) (one_given e q) (listed_from behind w);
        fault = λ i number carried f. absurd (w.sound i number carried (omega arith) f.here);
        fault_only = λ number carried q. clash (sym q ∙ e);
      }
      by (broken k other with w e) = record {
        sound = λ q. absurd (q k other with w.here);
        sound_only = λ found q. clash (sym e ∙ q);
        listed = λ found q. clash (sym e ∙ q);
        fault = λ i number carried f. e ∙ one_fault k i other number with carried w f;
        fault_only = λ number carried q. (k, let h = sym e ∙ q in let n : other ≡ number = cc in let c : with ≡ carried = cc in subst (λ (x : ℕ). LowestFault r s d k x carried) n (subst (λ (x : Carried). LowestFault r s d k other x) c w));
      }

  -- what is listed is one list
  one_listed : (a b : List Entered) → Listed r s d a → Listed r s d b → a ≡ b
  one_listed a b w v = w.first ∙ ap (λ (l : List Entered). record { directory = d; lead = 0 } ∷ l) (one_list w.behind v.behind w.rising v.rising (other w v) (other v w)) ∙ sym v.first
    where
      other : {a b : List Entered} → (w : Listed r s d a) (v : Listed r s d b) (e : Entered) → In e w.behind → In e v.behind
      other w v e h = v.every e.lead e.directory (all_in (λ e. Enters r s d e.lead e.directory) w.behind e w.only h)

  settled : (list : ListAll) → Answers list r s d → list r s ≡ flash_directories r s
  settled list v = by (flash_directories r s) refl
    where
      by : (x : Reply (List Entered)) → flash_directories r s ≡ x → list r s ≡ flash_directories r s
      by (given found) e =
          let f = v.sound (holds_of.sound_only found e) in
          f.1 ∙ ap given (one_listed f.0 found (v.listed f.0 f.1) (holds_of.listed found e)) ∙ sym e
      by (refused number carried) e = let f = holds_of.fault_only number carried e in v.fault f.0 number carried f.1 ∙ sym e

  -- the totals are those of all spots
  all_totals : (found : List Entered) → flash_directories r s ≡ given found → totals_of found ≡ all_spots r s d
  unfolding totals_of totals_below
  all_totals found e = by ways
    where
      by : Ways (flash_directories r s) → totals_of found ≡ all_spots r s d
      by (whole behind w q) = ap totals_of (one_given e q) ∙ omega (arith, w.sum)
      by (broken i number carried w q) = clash (sym q ∙ e)

  count_of : (class sub count : ℕ) (found : List Entered) → flash_directories r s ≡ given found → find_image r s class sub ≡ refused 8 (tested count) → count ≡ totals_of found
  count_of class sub count found e f = by (image_lookup_by_places.holds.answers r s class sub d o).answered
    where
      by : Answered r s d class sub (find_image r s class sub) → count ≡ totals_of found
      by (matched p m w q) = clash (sym f ∙ q)
      by (faulty i number carried w q) = absurd (holds_of.sound_only found e i number carried w.here)
      by (ended w q) = let g = sym f ∙ q in let n : count ≡ all_spots r s d = cc in n ∙ sym (all_totals found e)

pub all_directories_told_lem : AllDirectoriesTold
all_directories_told_lem = record { holds = holds; settles = settles; counted = counted }
  where
    refuses : (list : ListAll) → Type 0
    refuses list = (r : Rules) (s : List ℕ) (number : ℕ) (carried : Carried) → flash_directory r 1 s ≡ refused number carried → list r s ≡ refused number carried

    no_one : refuses flash_directories
    no_one r s number carried e = ap (λ (x : Reply Directory). then x (λ d. entered_in (walk_of 1 r s d) 0)) e

    holds : Listing flash_directories
    holds = record { no_level_one = no_one; answers = holds_of }

    settles : (list : ListAll) → Listing list → (r : Rules) (s : List ℕ) → list r s ≡ flash_directories r s
    settles list v r s = by (flash_directory r 1 s) refl
      where
        by : (x : Reply Directory) → flash_directory r 1 s ≡ x → list r s ≡ flash_directories r s
        by (given d) e = settled r s d e list (v.answers r s d e)
        by (refused number carried) e = v.no_level_one r s number carried e ∙ sym (no_one r s number carried e)

    counted : (r : Rules) (s : List ℕ) (class sub count : ℕ) (found : List Entered) → flash_directories r s ≡ given found → find_image r s class sub ≡ refused 8 (tested count) → count ≡ totals_of found
    counted r s class sub count found e = let t = then_given (flash_directory r 1 s) (λ d. entered_in (walk_of 1 r s d) 0) e in count_of r s t.0 t.1 class sub count found e

-- The lookup in the whole image gives exactly the first match in the walk of level one. Assumes nothing.
use mathlib.Core.Path.{◌≡◌, sym, ap, ◌∙◌}
use mathlib.Core.List.{List, [], ◌∷◌, ◌++◌, append_assoc}
use Prim.Native.Nat.{ℕ, ◌+◌, ◌≤◌}
use native.Mathlib.Omega.{arith}
use Rattle.reply.specs.Reply.{Reply, given, refused, tested, then}
use Rattle.reply.proofs.ReplyLaws.{clash, then_given}
use Rattle.directory.specs.declared.Directory.{Directory}
use Rattle.efs.specs.declared.Rules.{Rules}
use Rattle.flash.specs.Flash.{flash_directory, from_lookup}
use Rattle.walk.specs.Walk.{Step, test, walk_of, first_in, find_image}
use Rattle.walk.specs.First.{tests, totals, Quiet, match_in, Answered, matched, faulty, ended, FirstInImage, ImageLookup}
use Rattle.walk.specs.declared.ImageMatch.{ImageMatch}
use Rattle.walk.proofs.First.{first_match}
use Rattle.walk.proofs.Count.{count_bound, tests_append, totals_append}

-- what a lookup is given to look in was given
looked_in : (x : Reply Directory) (top : Directory) → from_lookup x ≡ given top → x ≡ given top
looked_in (given d) top e = e
looked_in (refused number carried) top e = clash e

module _ (r : Rules) (s : List ℕ) (class sub : ℕ) where
  look : (top : Directory) → flash_directory r 1 s ≡ given top → find_image r s class sub ≡ first_in r.kind s class sub (walk_of 1 r s top) 0
  look top e = ap (λ (x : Reply Directory). then (from_lookup x) (λ d. first_in r.kind s class sub (walk_of 1 r s d) 0)) e

  -- up to a match the count is within its bound
  bound : (top d : Directory) (i : ℕ) (before after : List Step) → walk_of 1 r s top ≡ before ++ (test d i ∷ after) → tests before + 1 ≤ totals before
  unfolding tests totals
  bound top d i before after e =
      let w = count_bound.within 1 r s top (before ++ (test d i ∷ [])) after (e ∙ sym (append_assoc before (test d i ∷ []) after)) in
      omega (arith, tests_append before (test d i ∷ []), totals_append before (test d i ∷ []))

  only_first : (f : ImageMatch) → find_image r s class sub ≡ given f → FirstInImage r s class sub f
  only_first f e =
      let t = then_given (from_lookup (flash_directory r 1 s)) (λ d. first_in r.kind s class sub (walk_of 1 r s d) 0) e in
      by t.0 (looked_in (flash_directory r 1 s) t.0 t.1) t.2 (first_match.answered r.kind s class sub (walk_of 1 r s t.0))
    where
      by : (top : Directory) → flash_directory r 1 s ≡ given top → first_in r.kind s class sub (walk_of 1 r s top) 0 ≡ given f →
          Answered r.kind s class sub (walk_of 1 r s top) (first_in r.kind s class sub (walk_of 1 r s top) 0) → FirstInImage r s class sub f
      by top o q (matched before after d i w u h a) =
          let m : given (match_in d i (tests before + 1)) ≡ given f = sym a ∙ q in
          let index : i ≡ f.index = cc in
          let count : tests before + 1 ≡ f.tested = cc in
          record {
            top = top;
            opened = o;
            before = before;
            after = after;
            d = d;
            walk = rw (← index) w;
            unmatched = u;
            here = rw (← index) h;
            place = cc;
            level = cc;
            count = sym count;
            bound = omega (arith, bound top d i before after w);
          }
      by top o q (faulty before after number carried w u a) = clash (sym a ∙ q)
      by top o q (ended u a) = clash (sym a ∙ q)

  all_first : (f : ImageMatch) → FirstInImage r s class sub f → find_image r s class sub ≡ given f
  all_first f g =
      let m : match_in g.d f.index (tests g.before + 1) ≡ f =
      let p = g.place in let l = g.level in let c = g.count in λ j. record { place = sym p j; level = sym l j; index = f.index; tested = sym c j } in
      look g.top g.opened ∙ ap (λ (l : List Step). first_in r.kind s class sub l 0) g.walk
      ∙ first_match.match r.kind s class sub g.before g.after g.d f.index g.unmatched g.here ∙ ap given m

  none : (top : Directory) → flash_directory r 1 s ≡ given top → Quiet r.kind s class sub (walk_of 1 r s top) →
      find_image r s class sub ≡ refused 8 (tested (totals (walk_of 1 r s top)))
  none top e q =
      look top e ∙ first_match.absent r.kind s class sub (walk_of 1 r s top) q
      ∙ ap (λ (n : ℕ). refused 8 (tested n)) (count_bound.whole 1 r s top)

pub image_lookup : ImageLookup
image_lookup = record { only = only_first; all = all_first; absent = none }

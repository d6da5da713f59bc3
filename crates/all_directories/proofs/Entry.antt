-- What a walk of level one enters, one entry at a time. Assumes nothing.
use mathlib.Core.Path.{◌≡◌, refl, sym, ap, ◌∙◌}
use mathlib.Core.List.{List, [], ◌∷◌, ◌++◌, append_assoc, append-nil}
use mathlib.Core.Bool.{Bool, true, false, cond}
use Prim.Native.Nat.{ℕ, zero, suc, ◌+◌, ◌-◌, ◌<◌, ◌≤◌}
use native.Mathlib.Omega.{arith}
use lib.Dec.{eqb}
use Rattle.std.specs.Prelude.{Option, Some, None}
use Rattle.reply.specs.Reply.{Reply, Carried, given, refused, then}
use Rattle.directory.specs.declared.Directory.{Directory}
use Rattle.efs.specs.declared.Rules.{Rules}
use Rattle.entries.specs.Entry.{entry_of}
use Rattle.flash.specs.Flash.{level_two_at}
use Rattle.walk.specs.Walk.{Step, entries_from, walked_by, below_of, walk_from, walk_of}
use Rattle.all_directories.specs.AllDirectories.{Entered, entered_in}
use Rattle.all_directories.specs.Gathered.{led_by}

-- what entry i of level one adds: the directory that it leads to, or nothing where it is no lead
abbrev pub entered_by : (i : ℕ) → Option Directory → List Entered
entered_by i None = []
entered_by i (Some n) = record { directory = n; lead = i } ∷ []

unfoldable pub added_by : Rules → (image : List ℕ) → Directory → (i : ℕ) → Reply (List Entered)
added_by r image d i = then (led_by r image d i) (λ led. given (entered_by i led))

module _ (r : Rules) (s : List ℕ) (d : Directory) (i : ℕ) where
  pub added_led : (led : Option Directory) → given led ≡ led_by r s d i → added_by r s d i ≡ given (entered_by i led)
  unfolding added_by
  added_led led e = ap (λ x. then x (λ led. given (entered_by i led))) (sym e)

  pub added_fault : (number : ℕ) (carried : Carried) → refused number carried ≡ led_by r s d i → added_by r s d i ≡ refused number carried
  unfolding added_by
  added_fault number carried e = ap (λ x. then x (λ led. given (entered_by i led))) (sym e)

-- what is entered, and then what is entered behind it
abbrev pub joined : (first rest : Reply (List Entered)) → Reply (List Entered)
joined first rest = then first (λ here. then rest (λ behind. given (here ++ behind)))

pub joined_twice : (done here : List Entered) (rest : Reply (List Entered)) → joined (given done) (joined (given here) rest) ≡ joined (given (done ++ here)) rest
joined_twice done here (given behind) = ap given (sym (append_assoc done here behind))
joined_twice done here (refused number carried) = refl

module _ (r : Rules) (s : List ℕ) where
  -- the entries of level two enter nothing
  past_two : (n : Directory) (rest : List Step) (x : Reply (List Entered)) → ((last : ℕ) → entered_in rest last ≡ x) → (m j last : ℕ) → entered_in (walk_from 0 r s n m j ++ rest) last ≡ x
  unfolding entered_in entries_from below_of
  past_two n rest x h zero j last = h last
  past_two n rest x h (suc m) j last = past_two n rest x h m (j + 1) j

  module _ (d : Directory) where
    -- an entry of level one is tested first, so that it does not matter what was tested before
    any_last : (m i last : ℕ) → entered_in (walk_from 1 r s d m i) last ≡ entered_in (walk_from 1 r s d m i) 0
    unfolding entered_in entries_from
    any_last zero i last = refl
    any_last (suc m) i last = refl

    pub entry_first : (m i last : ℕ) → entered_in (walk_from 1 r s d (suc m) i) last ≡ joined (added_by r s d i) (entered_in (walk_from 1 r s d m (i + 1)) 0)
    unfolding entered_in entries_from below_of led_by added_by
    entry_first m i last = by (eqb (entry_of r.kind s d i).class r.kind.lead) (level_two_at r s d i (entry_of r.kind s d i))
      where
        rest : List Step
        rest = walk_from 1 r s d m (i + 1)

        by : (b : Bool) (x : Reply Directory) → entered_in (cond b (walked_by (walk_of 0 r s) x) [] ++ rest) i ≡
            joined (then (cond b (then x (λ n. given (Some n))) (given None)) (λ led. given (entered_by i led))) (entered_in rest 0)
        by true (given n) = ap (λ (x : Reply (List Entered)). then x (λ behind. given (record { directory = n; lead = i } ∷ behind))) (past_two n rest (entered_in rest 0) (any_last m (i + 1)) n.total 0 i)
        by true (refused number carried) = refl
        by false x = any_last m (i + 1) i ∙ same (entered_in rest 0)
          where
            same : (x : Reply (List Entered)) → x ≡ joined (given []) x
            same (given behind) = refl
            same (refused number carried) = refl

    -- as the code comes to it: of n entries those from i on, behind what is done
    abbrev pub from : (n i : ℕ) → Reply (List Entered)
    from n i = entered_in (walk_from 1 r s d (n - i) i) 0

    next : (n i : ℕ) → i < n → from n i ≡ joined (added_by r s d i) (from n (i + 1))
    next n i h = let e : n - i ≡ suc (n - (i + 1)) = omega arith in rw e (entry_first (n - (i + 1)) i 0)

    pub from_more : (n i : ℕ) (done here : List Entered) → i < n → added_by r s d i ≡ given here → joined (given done) (from n i) ≡ joined (given (done ++ here)) (from n (i + 1))
    from_more n i done here h e =
        ap (joined (given done)) (next n i h ∙ ap (λ (x : Reply (List Entered)). joined x (from n (i + 1))) e) ∙ joined_twice done here (from n (i + 1))

    pub from_fault : (n i number : ℕ) (carried : Carried) (done : List Entered) → i < n → added_by r s d i ≡ refused number carried → joined (given done) (from n i) ≡ refused number carried
    from_fault n i number carried done h e = ap (joined (given done)) (next n i h ∙ ap (λ (x : Reply (List Entered)). joined x (from n (i + 1))) e)

    pub from_end : (n i : ℕ) (done : List Entered) → n ≤ i → joined (given done) (from n i) ≡ given done
    unfolding entered_in entries_from
    from_end n i done h = let e : n - i ≡ 0 = omega arith in rw e (ap given (append-nil done))

    pub from_start : joined (given (record { directory = d; lead = 0 } ∷ [])) (from d.total 0) ≡ entered_in (walk_of 1 r s d) 0
    unfolding entered_in
    from_start = let e : d.total - 0 ≡ d.total = omega arith in rw e

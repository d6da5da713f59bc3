-- What the loop over the entries of level one has gathered before entry i. Assumes nothing.
use mathlib.Core.Path.{◌≡◌, refl, sym, ap, subst, ◌∙◌}
use mathlib.Core.List.{List, [], ◌∷◌, ◌++◌, append-nil}
use Prim.Native.Nat.{ℕ, ◌+◌, ◌<◌, ◌≤◌}
use native.Mathlib.Omega.{arith}
use lib.ListN.{length, take, length-append}
use Rattle.std.specs.Prelude.{Some, None}
use Rattle.reply.specs.Reply.{Reply, Carried, given, refused, then}
use Rattle.reply.proofs.ReplyLaws.{clash}
use Rattle.directory.specs.declared.Directory.{Directory}
use Rattle.efs.specs.declared.Rules.{Rules}
use Rattle.walk.specs.Walk.{walk_of}
use Rattle.all_directories.specs.AllDirectories.{Entered, entered_in, lay_entered, lay_rows}
use Rattle.all_directories.specs.Gathered.{led_by, words_of, RowsHeld}
use Rattle.all_directories.proofs.Entry.{added_led, added_fault, joined, from, from_start, from_more, from_fault, from_end}

rows_append : (done here : List Entered) → lay_rows (done ++ here) ≡ lay_rows done ++ lay_rows here
unfolding lay_rows
rows_append [] here = refl
rows_append (e ∷ done) here = ap (λ (l : List ℕ). lay_entered e ++ l) (rows_append done here)

module _ (r : Rules) (s : List ℕ) (d : Directory) where
  -- all that the walk enters
  abbrev all : Reply (List Entered)
  all = entered_in (walk_of 1 r s d) 0

  pub record Reached (n count i : ℕ) (rows : List ℕ) : Type 0 where
    pub done : List Entered
    pub counted : length done ≡ count
    pub few : count ≤ i + 1
    pub held : take (words_of count) rows ≡ 0 ∷ lay_rows done
    pub left : joined (given done) (from r s d n i) ≡ all

  pub reached_start : (n : ℕ) (before rows : List ℕ) → n ≡ d.total → take 1 before ≡ 0 ∷ [] → take 5 rows ≡ take 1 before ++ lay_entered (record { directory = d; lead = 0 }) → Reached n 1 0 rows
  unfolding lay_rows
  reached_start n before rows e z h = record {
    done = record { directory = d; lead = 0 } ∷ [];
    counted = refl;
    few = omega arith;
    held = h ∙ ap (λ (l : List ℕ). l ++ lay_entered (record { directory = d; lead = 0 })) z;
    left = ap (λ (n : ℕ). joined (given (record { directory = d; lead = 0 } ∷ [])) (from r s d n 0)) e ∙ from_start r s d;
  }

  module _ (n count i : ℕ) (rows : List ℕ) (w : Reached n count i rows) where
    -- entry i is no lead
    pub reached_none : i < n → given None ≡ led_by r s d i → Reached n count (i + 1) rows
    reached_none h e = record {
      done = w.done;
      counted = w.counted;
      few = let o = w.few in omega arith;
      held = w.held;
      left = ap (λ (l : List Entered). joined (given l) (from r s d n (i + 1))) (sym (append-nil w.done)) ∙ sym (from_more r s d n i w.done [] h (added_led r s d i None e)) ∙ w.left;
    }

    -- it leads to a directory, whose row was put
    pub reached_some : (below : Directory) (after : List ℕ) → i < n → given (Some below) ≡ led_by r s d i →
        take (words_of count + 4) after ≡ take (words_of count) rows ++ lay_entered (record { directory = below; lead = i }) → Reached n (count + 1) (i + 1) after
    unfolding lay_rows
    reached_some below after h e put =
        let here : List Entered = record { directory = below; lead = i } ∷ [] in
        let k : words_of (count + 1) ≡ words_of count + 4 = omega arith in
        record {
          done = w.done ++ here;
          counted = length-append w.done here ∙ ap (λ (k : ℕ). k + 1) w.counted;
          few = let o = w.few in omega arith;
          held = ap (λ (k : ℕ). take k after) k ∙ put ∙ ap (λ (l : List ℕ). l ++ lay_rows here) w.held ∙ ap (λ (l : List ℕ). 0 ∷ l) (sym (rows_append w.done here));
          left = sym (from_more r s d n i w.done here h (added_led r s d i (Some below) e)) ∙ w.left;
        }

    -- it is at fault
    stopped : (number : ℕ) (carried : Carried) → i < n → refused number carried ≡ led_by r s d i → all ≡ refused number carried
    stopped number carried h e = sym w.left ∙ from_fault r s d n i number carried w.done h (added_fault r s d i number carried e)

    pub reached_fault : (number : ℕ) (carried : Carried) → i < n → refused number carried ≡ led_by r s d i → refused number carried ≡ then all (λ found. given (length found))
    reached_fault number carried h e = ap (λ (x : Reply (List Entered)). then x (λ found. given (length found))) (sym (stopped number carried h e))

    pub none_held : (after : List ℕ) (number : ℕ) (carried : Carried) → i < n → refused number carried ≡ led_by r s d i → RowsHeld all after
    none_held after number carried h e found g = clash (sym (stopped number carried h e) ∙ g)

    -- there is no entry left
    whole : n ≤ i → given w.done ≡ all
    whole h = sym (from_end r s d n i w.done h) ∙ w.left

    pub counted_end : n ≤ i → given count ≡ then all (λ found. given (length found))
    counted_end h = ap given (sym w.counted) ∙ ap (λ (x : Reply (List Entered)). then x (λ found. given (length found))) (whole h)

    pub held_end : n ≤ i → RowsHeld all rows
    held_end h found g = subst (λ (l : List Entered). take (words_of (length l)) rows ≡ 0 ∷ lay_rows l) (let q = whole h ∙ g in cc) (ap (λ (k : ℕ). take (words_of k) rows) w.counted ∙ w.held)

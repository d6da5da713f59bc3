-- Document 01's rules, asked of words: what the proofs of the functions that ask them cite. Assumes nothing.
use mathlib.Core.Bool.{Bool, true, false, ◌&&◌, cond}
use mathlib.Core.Path.{◌≡◌, refl, sym, ap, ◌∙◌}
use mathlib.Core.List.{List, map}
use Prim.Native.Nat.{ℕ, ◌+◌, ◌≤◌, ◌<◌}
use native.Mathlib.Omega.{arith}
use lib.ListN.{length, get_or, take, drop, length-take, length-drop, length-map, get_or-map}
use lib.Dec.{eqb}
use borrow.Author.Tests.{le-leb, lt-leb}
use Rattle.std.specs.List.{list_all, count_by}
use Rattle.std.proofs.lemmas.List.{get_or-drop, get_or-take}
use Rattle.std.proofs.lemmas.List.Folds.{list_all-map}
use Rattle.std.proofs.lemmas.List.Recursion.{is_count_by}
use Rattle.mailbox.specs.declared.Place.{Place}
use Rattle.mailbox.specs.Machine.{state_at}
use Rattle.mailbox.specs.Consistent.{post_fits, posts_fit, register_fits, once, times_in, caller_fits, all_below, consistent_of}
use Rattle.mailbox.proofs.ConsistentLaws.{posts_fit_all}
use Rattle.mailbox_layout.specs.Layout.{up_to, phase_from, post_from, place_from, post_at, place_at, unpack_of}
use Rattle.mailbox_layout.proofs.LayoutLaws.{length_up_to, get_or_up_to, up_all}

-- ---- the posts of a line
once_more : (b : Bool) (n : ℕ) → once b + n ≡ cond b (1 + n) n
once_more true n = refl
once_more false n = omega arith

pub times_all : (c : ℕ) (line : List ℕ) → times_in c (map post_from line) ≡ count_by (λ w. eqb (post_from w).caller c) line
unfolding times_in
times_all c line =
    is_count_by (λ l. times_in c (map post_from l)) (λ w. eqb (post_from w).caller c) refl (λ w l. once_more (eqb (post_from w).caller c) (times_in c (map post_from l))) line

pub posts_all : (line : List ℕ) → posts_fit (map post_from line) ≡ list_all (λ w. post_fits (post_from w)) line
posts_all line = posts_fit_all (map post_from line) ∙ list_all-map post_fits post_from line

-- what a caller's place says
pub place_read : (places : List ℕ) (caller : ℕ) → state_at (map place_from places) caller ≡ (place_from (get_or places caller 0)).state
place_read places caller = ap (λ (p : Place). p.state) (get_or-map place_from places caller 0)

-- ---- what the words of a stretch tell
up_part : {A : Type 0} (f : ℕ → A) (n m : ℕ) → n ≤ m → take n (up_to f m) ≡ up_to f n
up_part f n m h =
    let long = length_up_to f m in
    sym (up_all f (take n (up_to f m)) (f 0) n (length-take n (up_to f m) ∙ omega arith) (λ i p. sym (get_or-take n (up_to f m) i (f 0) p ∙ get_or_up_to f (f 0) m i (omega arith))))

module _ {A : Type 0} (g : ℕ → A) (ws : List ℕ) (at n : ℕ) (long : at + n ≤ length ws) where
  stretch_long : length (map g (take n (drop at ws))) ≡ n
  stretch_long =
      let rest = length-drop at ws in
      length-map (take n (drop at ws)) g ∙ (length-take n (drop at ws) ∙ omega arith)

  up_read : up_to (λ i. g (get_or ws (at + i) 0)) n ≡ map g (take n (drop at ws))
  up_read =
      up_all (λ i. g (get_or ws (at + i) 0)) (map g (take n (drop at ws))) (g 0) n stretch_long
      (λ i p. sym (get_or-map g (take n (drop at ws)) i 0 ∙ ap g (get_or-take n (drop at ws) i 0 p ∙ get_or-drop at ws i 0)))

-- ---- the rules
module _ (ws : List ℕ) where
  pub not_few : 8 < get_or ws 3 0 → false ≡ consistent_of (unpack_of ws)
  unfolding unpack_of consistent_of
  not_few h = rw (lt-leb _ _ h)

  pub rules_read : 88 ≤ length ws → get_or ws 3 0 ≤ 8
      → consistent_of (unpack_of ws)
      ≡ (posts_fit (map post_from (take (get_or ws 3 0) (drop 8 ws))) && register_fits (phase_from (get_or ws 0 0) (get_or ws 1 0) (get_or ws 2 0))
      && all_below 8 (caller_fits (map post_from (take (get_or ws 3 0) (drop 8 ws))) (phase_from (get_or ws 0 0) (get_or ws 1 0) (get_or ws 2 0)) (map place_from (take 8 (drop 16 ws)))))
  unfolding unpack_of consistent_of
  rules_read long few =
      let line : take (get_or ws 3 0) (up_to (post_at ws) 8) ≡ map post_from (take (get_or ws 3 0) (drop 8 ws)) =
      up_part (post_at ws) (get_or ws 3 0) 8 few ∙ up_read post_from ws 8 (get_or ws 3 0) (omega arith) in
      let places : up_to (place_at ws) 8 ≡ map place_from (take 8 (drop 16 ws)) = up_read place_from ws 16 8 (omega arith) in
      rw (le-leb _ _ few, line, places)

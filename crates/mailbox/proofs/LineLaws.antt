-- The line: one post more at its end, and its oldest post gone. Assumes nothing.
use mathlib.Core.List.{List, [], ◌∷◌, ◌++◌}
use mathlib.Core.Path.{◌≡◌, refl, sym, ap, ◌∙◌}
use Prim.Native.Nat.{ℕ, zero, suc, ◌+◌, ◌-◌, ◌<◌, ◌≤◌}
use native.Mathlib.Omega.{arith}
use native.Mathlib.Numerals.{add-one}
use lib.ListN.{length, get_or, take, drop, set, length-append, length-drop}
use lib.Seq.{take-append-le, take-suc-set, set-append_seam}
use Rattle.mailbox.specs.declared.Post.{Post}
use Rattle.mailbox.specs.Machine.{no_post, shifted}

-- ---- a turn by one, and an empty slot in the place of the first post
pub shift_is : (l : List Post) → length l ≡ 8 → shifted l ≡ set (drop 1 l ++ take 1 l) 7 no_post
unfolding shifted
shift_is (a ∷ l) e =
    let k : 7 ≡ length l = omega arith in
    sym (ap (λ (i : ℕ). set (l ++ (a ∷ [])) i no_post) k ∙ set-append_seam l a [] no_post)
shift_is [] e = absurd (omega arith)

pub shifted_long : (l : List Post) → length l ≡ 8 → length (shifted l) ≡ 8
unfolding shifted
shifted_long l e = let d = length-drop 1 l in rw length-append (omega arith)

-- ---- the oldest of those that wait, and the rest
pub line_first : (l : List Post) (n : ℕ) → n ≤ length l → (n ≡ 0 → ⊥) → take n l ≡ get_or l 0 no_post ∷ take (n - 1) (shifted l)
unfolding shifted
line_first l zero h z = absurd (z refl)
line_first [] (suc n) h z = absurd (omega arith)
line_first (a ∷ l) (suc n) h z =
    let k : suc n - 1 ≡ n = omega arith in
    rw k (ap (λ t. a ∷ t) (sym (take-append-le n l (no_post ∷ []) (omega arith))))

-- ---- one more at the end
pub line_last : (l : List Post) (n : ℕ) (p : Post) → n < length l → take (n + 1) (set l n p) ≡ take n l ++ (p ∷ [])
line_last l n p h = rw add-one (take-suc-set l n p h)

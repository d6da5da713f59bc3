-- The two sums between one fold and the next: what they come to, and through how many words 32 bits hold them. Assumes nothing: these are definitions and statements.
use Rattle.std.specs.Prelude.{ℕ, ◌+◌, ◌/◌, ◌%◌, ◌^◌, ◌<◌, ◌≤◌, ◌≡◌, List, [], ◌∷◌, ◌++◌, length, get_or, replicate}
use Rattle.fletcher.specs.Fletcher.{sum_of, weighted_of}

-- S after words that are added to it, from `sum` on
unfoldable pub sum_after : (sum : ℕ) → List ℕ → ℕ
sum_after sum [] = sum
sum_after sum (w ∷ ws) = sum_after (sum + w) ws

-- T after them, from `weighted` on: each word is added to S, and S as it then is to T
unfoldable pub weighted_after : (sum weighted : ℕ) → List ℕ → ℕ
weighted_after sum weighted [] = weighted
weighted_after sum weighted (w ∷ ws) = weighted_after (sum + w) (weighted + (sum + w)) ws

-- words of 16 bits
abbrev pub Words : List ℕ → Type 0
Words ws = (i : ℕ) → get_or ws i 0 < 2 ^ 16

-- 32 bits hold both sums through n words, whatever these are, from sums of at most `top` on
abbrev pub Safe : (top n : ℕ) → Type 0
Safe top n = (sum weighted : ℕ) (ws : List ℕ) → sum ≤ top → weighted ≤ top → Words ws → length ws ≤ n → (sum_after sum ws < 2 ^ 32) × (weighted_after sum weighted ws < 2 ^ 32)

-- n is the largest number of words that is safe: from sums of `top` on, n + 1 words of 0xFFFF pass 32 bits
pub record Largest (top n : ℕ) : Type 0 where
  pub safe : Safe top n
  pub next : 2 ^ 32 ≤ weighted_after top top (replicate (n + 1) 0xFFFF)

-- words whose sums, folded by the remainder, are both 65,534: from there 361 words of 0xFFFF pass 32 bits
abbrev pub steepest : List ℕ
steepest = replicate 360 0 ++ (0xFFFE ∷ [])

pub record Folds : Type 0 where
  -- from nothing on, the running sums are S and T
  pub running : (ws : List ℕ) → (sum_after 0 ws ≡ sum_of ws) × (weighted_after 0 0 ws ≡ weighted_of ws)
  -- the fold that is made, the remainder modulo 65,535, leaves at most 65,534, and both sums may be that: 360 words are safe
  pub remainder_leaves : (x : ℕ) → x % 65535 ≤ 65534
  pub remainder_reaches : (sum_of steepest % 65535 ≡ 65534) × (weighted_of steepest % 65535 ≡ 65534)
  pub remainder : Largest 65534 360
  -- the request's fold, every 359 words, is safe
  pub chosen : Safe 65534 359
  -- one addition of the halves would leave at most 131,070: there 359 is the largest
  pub halves_leave : (x : ℕ) → x < 2 ^ 32 → x % 65536 + x / 65536 ≤ 131070
  pub halves : Largest 131070 359

-- What the checks of a level come to, as the code comes to it. Assumes nothing.
use mathlib.Core.Path.{◌≡◌}
use mathlib.Core.Bool.{false}
use Prim.Native.Nat.{ℕ, ◌<◌}
use borrow.Author.Tests.{lt-leb}
use lib.Dec.{leb}

-- a level above two
pub level_above : (level : ℕ) → 2 < level → leb level 2 ≡ false
level_above level above = lt-leb level 2 above

-- Which physical addresses the window shows, and which lengths an image may have, as plain facts; and that the definition of the window says the same. Assumes nothing: these are statements.
use Rattle.std.specs.Prelude.{ℕ, ◌+◌, ◌<◌, ◌≤◌, ◌≡◌, List, length}
use Rattle.reply.specs.Reply.{given}
use Rattle.window.specs.declared.Offset.{Offset}
use Rattle.window.specs.Window.{four_gib, offset_in}
use Rattle.window.specs.Length.{longest}

-- the byte at offset o of a window of so many bytes stands at address a, and the window ends at 4 GiB
pub record Shown (window a o : ℕ) : Type 0 where
  pub inside : o < window
  pub counted : a + window ≡ four_gib + o

-- an offset is given exactly where the window shows the address
pub record WindowAcceptance (window : ℕ) : Type 0 where
  pub only : (a : ℕ) (o : Offset) → offset_in window a ≡ given o → Shown window a o.0
  pub all : (a : ℕ) (o : Offset) → Shown window a o.0 → offset_in window a ≡ given o

-- so it is for every window that fits below 4 GiB
abbrev pub WindowsAccepted : Type 0
WindowsAccepted = (window : ℕ) → window ≤ four_gib → WindowAcceptance window

-- an image of 1 to 16,777,216 bytes
pub record GoodLength (image : List ℕ) : Type 0 where
  pub from : 1 ≤ length image
  pub to : length image ≤ longest

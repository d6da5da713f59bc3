-- Flash offsets, x86 physical addresses, the window that leads from one to the other, and a place within an image. Assumes nothing: these are definitions.
use Rattle.std.specs.Prelude.{ℕ, ◌-◌, List, cond, length, leb}
use Rattle.reply.specs.Reply.{Reply, given, guard}
use Rattle.window.specs.declared.Offset.{Offset}

-- where every window ends
abbrev pub four_gib : ℕ
four_gib = 0x1_0000_0000

-- where a window of so many bytes begins; an image is shown through a window of its own length
abbrev pub window_start : (window : ℕ) → ℕ
window_start window = four_gib - window

-- the window of every image before request 02: the 16,777,216 bytes below 4 GiB, 0xFF000000 to 0xFFFFFFFF
abbrev pub base_window : ℕ
base_window = 16_777_216

-- physical address a as a flash offset, counted from the window's begin; an address that the window does not show: 7
unfoldable pub offset_in : (window a : ℕ) → Reply Offset
offset_in window a =
    guard (leb (window_start window) a) 7
    (guard (leb a 0xFFFF_FFFF) 7
    (given (record { 0 = a - window_start window })))

-- the offset nearest to a place: that place, or the last offset, which lies beyond every image as a place that no offset can tell does
abbrev pub nearest_to : (place : ℕ) → Offset
nearest_to place = record { 0 = cond (leb place 0xFFFF_FFFF) place 0xFFFF_FFFF }

-- a place beyond the image: 7
abbrev pub within : {A : Type 0} → (image : List ℕ) → (place : ℕ) → (rest : Reply A) → Reply A
within image place rest = guard (leb place (length image)) 7 rest

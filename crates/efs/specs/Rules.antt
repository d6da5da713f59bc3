-- What the calls on a flash image go by. Assumes nothing: these are definitions.
use Rattle.std.specs.Prelude.{ℕ, List, [], ◌∷◌, length}
use Rattle.window.specs.Window.{base_window}
use Rattle.directory.specs.Directory.{psp_kind}
use Rattle.efs.specs.declared.Rules.{Rules}

-- PSP directories of at most 512 entries, a window of so many bytes, and the six addresses where an EFS may be, in the order to try
abbrev pub rules_through : (window : ℕ) → Rules
rules_through window = record {
  kind = psp_kind;
  limit = 512;
  window = window;
  candidates = 0xFFFA_0000 ∷ 0xFFF2_0000 ∷ 0xFFE2_0000 ∷ 0xFFC2_0000 ∷ 0xFF82_0000 ∷ 0xFF02_0000 ∷ [];
}

-- the rules of every call on an image: its window is as long as the image
abbrev pub rules_of : (image : List ℕ) → Rules
rules_of image = rules_through (length image)

-- document 01's rules before request 02: one window, of 16,777,216 bytes, for images of every length
abbrev pub base_rules : Rules
base_rules = rules_through base_window

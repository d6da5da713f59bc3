-- A line of posts run one command after another, and a caller's own words. Assumes nothing: these are definitions.
use Rattle.std.specs.Prelude.{cond, List, [], ◌∷◌, ℕ, eqb}
use Rattle.firmware.specs.Rules.{run_of}
use Rattle.firmware.specs.declared.Firmware.{Firmware}
use Rattle.mailbox.specs.declared.Post.{Post}
use Rattle.mailbox.specs.Machine.{command_word}
use Rattle.mailbox_demand3.specs.Log.{Got, got}

-- the state after the line, from this state on
unfoldable pub state_after : Firmware → (line : List Post) → Firmware
state_after f [] = f
state_after f (p ∷ line) = state_after (run_of f (command_word p)).firmware line

-- the word that each post of the line gets at its place, with its caller
unfoldable pub answers_to : Firmware → (line : List Post) → List Got
answers_to f [] = []
answers_to f (p ∷ line) = got p.caller (run_of f (command_word p)).word ∷ answers_to (run_of f (command_word p)).firmware line

-- a caller's own words, in order
unfoldable pub words_of : (caller : ℕ) → List Got → List ℕ
words_of caller [] = []
words_of caller (t ∷ rest) = cond (eqb t.caller caller) (t.word ∷ words_of caller rest) (words_of caller rest)

-- The CmdResp word and its four fields. Assumes nothing: these are definitions.
use Rattle.std.specs.Prelude.{ℕ, ◌+◌, ◌*◌, ◌/◌, ◌%◌}

-- bit 31: 1 in a response
abbrev pub response_in : (w : ℕ) → ℕ
response_in w = w / 0x8000_0000 % 2

-- bits 30:26: how the command went
abbrev pub status_in : (w : ℕ) → ℕ
status_in w = w / 0x400_0000 % 32

-- bits 25:16: the command code
abbrev pub command_in : (w : ℕ) → ℕ
command_in w = w / 0x1_0000 % 1024

-- bits 15:0: what goes in or comes out
abbrev pub data_in : (w : ℕ) → ℕ
data_in w = w % 0x1_0000

-- the word of these four fields, each cut to its width
unfoldable pub word_of : (response status command d : ℕ) → ℕ
word_of response status command d =
    response % 2 * 0x8000_0000 + status % 32 * 0x400_0000 + command % 1024 * 0x1_0000 + d % 0x1_0000

-- What holds of every word and of every response, stated. The proofs stand in proofs/Responses.antt.
use Rattle.std.specs.Prelude.{◌≡◌, ℕ, ◌%◌}
use Rattle.firmware.specs.Word.{response_in, status_in, command_in, data_in, word_of}
use Rattle.firmware.specs.Rules.{run_of}
use Rattle.firmware.specs.declared.Firmware.{Firmware}
use Rattle.firmware.specs.declared.Ran.{Ran}

-- a word has the fields that it was made of
pub record Fields (response status command d : ℕ) : Type 0 where
  pub response_back : response_in (word_of response status command d) ≡ response % 2
  pub status_back : status_in (word_of response status command d) ≡ status % 32
  pub command_back : command_in (word_of response status command d) ≡ command % 1024
  pub data_back : data_in (word_of response status command d) ≡ d % 0x1_0000

-- what a state answers a command word
pub record Responds (f : Firmware) (w : ℕ) (r : Ran) : Type 0 where
  -- a response
  pub response : response_in r.word ≡ 1
  -- with the command that was asked
  pub repeats : command_in r.word ≡ command_in w
  -- and with the data that was asked, but for 0x81
  pub copies : (command_in w ≡ 0x81 → ⊥) → data_in r.word ≡ data_in w
  -- where the status is not 0 the state is as it was
  pub changes : (status_in r.word ≡ 0 → ⊥) → r.firmware ≡ f

pub record Responses : Type 0 where
  pub fields : (response status command d : ℕ) → Fields response status command d
  pub responds : (f : Firmware) (w : ℕ) → Responds f w (run_of f w)

-- Tests of mailboxes that accept too many or too few do not accept exactly the good ones, stated. The proofs stand in proofs/Wrong.antt.
use Rattle.std.specs.Prelude.{ℕ, ◌+◌, ◌/◌, Bool, true, false, ◌&&◌, eqb, leb}
use Rattle.mailbox.specs.declared.Phase.{Phase}
use Rattle.mailbox.specs.declared.Phase.TheVariants.{Idle, Command, Response}
use Rattle.mailbox.specs.declared.PlaceState.{PlaceState}
use Rattle.mailbox.specs.declared.PlaceState.TheVariants.{Free, Waiting, Ready}
use Rattle.mailbox.specs.declared.Mailbox.{Mailbox}
use Rattle.mailbox.specs.Machine.{waiting, state_of}
use Rattle.mailbox.specs.Consistent.{posts_fit, register_fits, times_in, register_holds, waits, all_below, consistent_of}
use Rattle.mailbox_good.specs.Good.{BothWays}

-- the test of consistency, with others for the register and for a caller: how many posts it has in line and register, and what its place says
abbrev pub test_with : (register : Phase → Bool) → (caller : ℕ → PlaceState → Bool) → Mailbox → Bool
test_with register caller m =
    leb m.count 8
    && posts_fit (waiting m)
    && register m.register
    && all_below 8 (λ c. caller (times_in c (waiting m) + register_holds c m.register) (state_of m c))

-- as many posts as the place says: with this and `register_fits` it is the right test
abbrev pub as_many : (posts : ℕ) → PlaceState → Bool
as_many posts state = eqb posts (waits state)

-- any caller in the register
abbrev pub command_fits : Phase → Bool
command_fits Idle = true
command_fits (Command caller word) = leb (word / 0x1_0000) 0x3FF
command_fits (Response caller word) = true

-- at most as many posts as the place says: it may wait for none
abbrev pub no_more : (posts : ℕ) → PlaceState → Bool
no_more posts state = leb posts (waits state)

-- a word in the place beside a post
abbrev pub ready_too : (posts : ℕ) → PlaceState → Bool
ready_too posts Free = eqb posts 0
ready_too posts Waiting = eqb posts 1
ready_too posts (Ready word) = leb posts 1

pub record WrongTests : Type 0 where
  pub right_parts : BothWays (test_with register_fits as_many)
  -- they accept too many
  pub register_caller_dropped : BothWays (test_with command_fits as_many) → ⊥
  pub waiting_with_no_post : BothWays (test_with register_fits no_more) → ⊥
  pub ready_beside_a_post : BothWays (test_with register_fits ready_too) → ⊥
  -- they accept too few
  pub none_accepted : BothWays (λ m. false) → ⊥
  pub firmware_asked : BothWays (λ m. consistent_of m && m.firmware.interface) → ⊥

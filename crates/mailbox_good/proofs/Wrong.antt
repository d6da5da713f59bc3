-- Each wrong test is wrong of one small mailbox. Assumes nothing.
use mathlib.Core.Bool.{false, ◌&&◌, false≢true}
use mathlib.Core.Logic.{◌⊎◌, inl, inr}
use mathlib.Core.Path.{refl, ap}
use Prim.Native.Nat.{ℕ}
use native.Mathlib.Omega.{arith}
use lib.ListN.{set}
use Rattle.firmware.specs.Rules.{fresh_firmware, interface_off}
use Rattle.firmware.specs.declared.Firmware.{Firmware}
use Rattle.mailbox.specs.declared.Phase.TheVariants.{Idle, Response}
use Rattle.mailbox.specs.declared.PlaceState.TheVariants.{Waiting}
use Rattle.mailbox.specs.declared.Mailbox.{Mailbox}
use Rattle.mailbox.specs.Machine.{mailbox_before, fresh_mailbox, place_with, joined, handed_over}
use Rattle.mailbox.specs.Consistent.{posts_fit, register_fits, times_in, register_holds, waits, all_below, consistent_of}
use Rattle.mailbox_good.specs.Good.{InLine, GoodMailbox, BothWays}
use Rattle.mailbox_good.specs.Wrong.{test_with, as_many, command_fits, no_more, ready_too, WrongTests}
use Rattle.mailbox_good.proofs.Good.{consistent_both_ways}

right_parts : BothWays (test_with register_fits as_many)
unfolding consistent_of
right_parts = record { only = consistent_both_ways.only; all = consistent_both_ways.all }

-- a response of caller 8 in the register
held_for_8 : Mailbox
held_for_8 = record { register = Response 8 0; count = 0; line = fresh_mailbox.line; places = fresh_mailbox.places; firmware = fresh_firmware }

register_caller_dropped : BothWays (test_with command_fits as_many) → ⊥
unfolding held_for_8 posts_fit times_in register_holds all_below
register_caller_dropped d = let h = (d.only held_for_8 refl refl).register_caller 8 refl in omega arith

-- caller 0 waits, and no post is there
waits_for_nothing : Mailbox
waits_for_nothing = record { register = Idle; count = 0; line = fresh_mailbox.line; places = set fresh_mailbox.places 0 (place_with Waiting); firmware = fresh_firmware }

waiting_with_no_post : BothWays (test_with register_fits no_more) → ⊥
unfolding waits_for_nothing posts_fit register_fits times_in register_holds all_below
waiting_with_no_post d = go ((d.only waits_for_nothing refl refl).waits_for_one 0 (omega arith) refl)
  where
    go : ((i : ℕ) × InLine waits_for_nothing 0 i) ⊎ ⊥ → ⊥
    go (inl (i, a)) = let h = a.0 in omega arith
    go (inr e) = e

-- a word in place 0, and a post of caller 0 in line
both_there : Mailbox
both_there = handed_over (joined fresh_mailbox 0 0x80 0) 0 0

ready_beside_a_post : BothWays (test_with register_fits ready_too) → ⊥
unfolding both_there posts_fit register_fits times_in register_holds all_below
ready_beside_a_post d = let h = ap waits ((d.only both_there refl refl).line_waits 0 0 (omega arith, refl)) in omega arith

-- the mailbox before any firmware is good
good_before : (f : Firmware) → GoodMailbox (mailbox_before f)
unfolding consistent_of posts_fit register_fits times_in register_holds all_below
good_before f = consistent_both_ways.only (mailbox_before f) refl refl

none_accepted : BothWays (λ m. false) → ⊥
none_accepted d = false≢true (d.all fresh_mailbox refl (good_before fresh_firmware))

firmware_asked : BothWays (λ m. consistent_of m && m.firmware.interface) → ⊥
unfolding consistent_of posts_fit register_fits times_in register_holds all_below
firmware_asked d = false≢true (d.all (mailbox_before (interface_off fresh_firmware)) refl (good_before (interface_off fresh_firmware)))

pub wrong_tests : WrongTests
wrong_tests = record {
  right_parts = right_parts;
  register_caller_dropped = register_caller_dropped;
  waiting_with_no_post = waiting_with_no_post;
  ready_beside_a_post = ready_beside_a_post;
  none_accepted = none_accepted;
  firmware_asked = firmware_asked;
}

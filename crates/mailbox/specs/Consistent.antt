-- Which mailboxes keep document 01's rules: posts of callers 0 to 7 alone, as many of each in line and register as its place says, and no command
-- above 0x3FF. Nothing is asked of the firmware, nor of the slots of the line that are not in use. Assumes nothing: these are definitions.
use Rattle.std.specs.Prelude.{Bool, true, cond, ◌&&◌, List, [], ◌∷◌, ℕ, zero, suc, ◌+◌, ◌/◌, eqb, leb}
use Rattle.mailbox.specs.declared.Phase.{Phase}
use Rattle.mailbox.specs.declared.Phase.TheVariants.{Idle, Command, Response}
use Rattle.mailbox.specs.declared.PlaceState.{PlaceState}
use Rattle.mailbox.specs.declared.PlaceState.TheVariants.{Free, Waiting, Ready}
use Rattle.mailbox.specs.declared.Place.{Place}
use Rattle.mailbox.specs.declared.Post.{Post}
use Rattle.mailbox.specs.declared.Mailbox.{Mailbox}
use Rattle.mailbox.specs.Machine.{waiting, state_at}

-- ---- callers up to 7, and commands up to 0x3FF
abbrev pub post_fits : Post → Bool
post_fits p = leb p.caller 7 && leb p.command 0x3FF

unfoldable pub posts_fit : (line : List Post) → Bool
posts_fit [] = true
posts_fit (p ∷ l) = post_fits p && posts_fit l

-- a command word with any of bits 31:26 set holds a command above 0x3FF; a response is any word
unfoldable pub register_fits : Phase → Bool
register_fits Idle = true
register_fits (Command caller word) = leb caller 7 && leb (word / 0x1_0000) 0x3FF
register_fits (Response caller word) = leb caller 7

-- ---- each caller's post found once
-- 1 where it holds, else 0
abbrev pub once : (b : Bool) → ℕ
once b = cond b 1 0

-- how many posts of a line are the caller's
unfoldable pub times_in : (caller : ℕ) (line : List Post) → ℕ
times_in caller [] = 0
times_in caller (p ∷ l) = once (eqb p.caller caller) + times_in caller l

-- how often the caller's post is in the register
unfoldable pub register_holds : (caller : ℕ) → Phase → ℕ
register_holds caller Idle = 0
register_holds caller (Command holder word) = once (eqb holder caller)
register_holds caller (Response holder word) = once (eqb holder caller)

-- how often the place says that the caller's post is in line or register
abbrev pub waits : PlaceState → ℕ
waits Free = 0
waits Waiting = 1
waits (Ready word) = 0

abbrev pub caller_fits : (posts : List Post) (register : Phase) (places : List Place) (caller : ℕ) → Bool
caller_fits posts register places caller = eqb (times_in caller posts + register_holds caller register) (waits (state_at places caller))

-- a test that holds of every number below n
unfoldable pub all_below : (n : ℕ) (test : ℕ → Bool) → Bool
all_below zero test = true
all_below (suc n) test = test n && all_below n test

-- ---- all of it
unfoldable pub consistent_of : Mailbox → Bool
consistent_of m =
    leb m.count 8
    && posts_fit (waiting m)
    && register_fits m.register
    && all_below 8 (caller_fits (waiting m) m.register m.places)

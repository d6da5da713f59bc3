-- The five calls of document 01: what each answers and the mailbox after it, first failing check first. Assumes nothing: these are definitions.
use Rattle.std.specs.Prelude.{Bool, true, false, cond, ℕ, eqb, leb, Result}
use Rattle.reply.specs.Reply.{Reply, given, refused, alone, guard, told_alone}
use Rattle.reply.specs.declared.Refusal.{Refusal}
use Rattle.mailbox.specs.declared.Phase.{Phase}
use Rattle.mailbox.specs.declared.Phase.TheVariants.{Idle, Command, Response}
use Rattle.mailbox.specs.declared.PlaceState.{PlaceState}
use Rattle.mailbox.specs.declared.PlaceState.TheVariants.{Free, Waiting, Ready}
use Rattle.mailbox.specs.declared.Mailbox.{Mailbox}
use Rattle.mailbox.specs.Machine.{state_of, is_free, joined, with_oldest, with_response, handed_over, freed}
use Rattle.mailbox.specs.Consistent.{consistent_of}

-- ---- the mailbox after a call, beside an answer
pub record After (A : Type 0) : Type 0 where
  pub mailbox : Mailbox
  pub answer : A

abbrev pub after : {A : Type 0} → Mailbox → A → After A
after m a = record { mailbox = m; answer = a }

-- what a call leaves: the mailbox that it gives with its answer; a refusal leaves the mailbox as it was
abbrev pub leaves : {A : Type 0} → Mailbox → Reply (After A) → After (Reply A)
leaves m (given a) = after a.mailbox (given a.answer)
leaves m (refused number carried) = after m (refused number carried)

-- ---- post
-- nothing is given with an accepted post
abbrev pub Accepted : Type 0
Accepted = Unit {0}

pattern abbrev pub accepted : Accepted
accepted = tt

unfoldable pub post_of : Mailbox → (caller command d : ℕ) → After (Reply Accepted)
post_of m caller command d =
    leaves m
    (guard (consistent_of m) 5  -- any other mailbox, first of all (5)
    (guard (leb caller 7) 9  -- caller 0 to 7 (9)
    (guard (leb command 0x3FF) 9  -- command at most 0x3FF (9)
    (guard (is_free (state_of m caller)) 10  -- no post of this caller still untaken (10)
    (given (after (joined m caller command d) accepted))))))

-- ---- load, turn and unload: true where they act; where they do not, false and the mailbox as it was
abbrev pub loaded_from : Mailbox → Phase → After Bool
loaded_from m Idle = cond (eqb m.count 0) (after m false) (after (with_oldest m) true)
loaded_from m (Command caller word) = after m false
loaded_from m (Response caller word) = after m false

unfoldable pub load_of : Mailbox → After (Reply Bool)
load_of m = leaves m (guard (consistent_of m) 5 (given (loaded_from m m.register)))

abbrev pub turned_from : Mailbox → Phase → After Bool
turned_from m Idle = after m false
turned_from m (Command caller word) = after (with_response m caller word) true
turned_from m (Response caller word) = after m false

unfoldable pub turn_of : Mailbox → After (Reply Bool)
turn_of m = leaves m (guard (consistent_of m) 5 (given (turned_from m m.register)))

abbrev pub unloaded_from : Mailbox → Phase → After Bool
unloaded_from m Idle = after m false
unloaded_from m (Command caller word) = after m false
unloaded_from m (Response caller word) = after (handed_over m caller word) true

unfoldable pub unload_of : Mailbox → After (Reply Bool)
unload_of m = leaves m (guard (consistent_of m) 5 (given (unloaded_from m m.register)))

-- ---- take
abbrev pub taken_from : Mailbox → (caller : ℕ) → PlaceState → Reply (After ℕ)
taken_from m caller Free = refused 8 alone  -- no untaken post (8)
taken_from m caller Waiting = refused 11 alone  -- not unloaded yet (11)
taken_from m caller (Ready word) = given (after (freed m caller) word)  -- else the word

unfoldable pub take_of : Mailbox → (caller : ℕ) → After (Reply ℕ)
take_of m caller =
    leaves m
    (guard (consistent_of m) 5  -- any other mailbox, first of all (5)
    (guard (leb caller 7) 9  -- caller 0 to 7 (9)
    (taken_from m caller (state_of m caller))))

-- ---- what a call tells: document 01's number, or what is given, beside the mailbox after it
abbrev pub told_after : {A : Type 0} → After (Result A Refusal) → After (Reply A)
told_after r = after r.mailbox (told_alone r.answer)

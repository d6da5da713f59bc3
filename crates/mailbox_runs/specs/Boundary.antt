-- What a caller at the boundary does and sees: calls on lent words, with any words lent for what they give, and a log of the numbers and value words alone. Assumes nothing: these are definitions.
use Rattle.std.specs.Prelude.{cond, List, [], ◌∷◌, ◌++◌, ℕ, get_or, drop, eqb}
use Rattle.reply.specs.Reply.{Reply, given, refused, alone}
use Rattle.lent.specs.Lent.{words_for}
use Rattle.mailbox_calls.specs.Calls.{after, accepted}
use Rattle.mailbox_demand3.specs.Calls.{Call, post, load, turn, unload, take_word, Seen, posted, loaded, turned, unloaded, took, Server}
use Rattle.mailbox_demand3.specs.Log.{Log, no_log, noted}
use Rattle.mailbox_layout.specs.Layout.{words_of_mailbox, pack_of, unpack_of}
use Rattle.mailbox_words.specs.Calls.{Left, fresh_words, post_on, load_on, turn_on, unload_on, take_on}

-- a call, with the words lent for what it gives, however many
pub record CallOn : Type 0 where
  pub call : Call
  pub values : List ℕ

abbrev pub on_words : (words : List ℕ) → Call → (values : List ℕ) → Left
on_words words (post caller command d bits) values = post_on caller command d words values
on_words words load values = load_on words values
on_words words turn values = turn_on words values
on_words words unload values = unload_on words values
on_words words (take_word caller) values = take_on caller words values

-- ---- what is seen: the call, its number, and where that is 0 the first of the value words
abbrev pub read_as : {A : Type 0} → A → (number : ℕ) → Reply A
read_as a number = cond (eqb number 0) (given a) (refused number alone)

abbrev pub first_of : (values : List ℕ) → ℕ
first_of values = get_or values 0 0

abbrev pub seen_on : Call → (number : ℕ) (values : List ℕ) → Seen
seen_on (post caller command d bits) number values = posted caller command d (read_as accepted number)
seen_on load number values = loaded (read_as (eqb (first_of values) 1) number)
seen_on turn number values = turned (read_as (eqb (first_of values) 1) number)
seen_on unload number values = unloaded (read_as (eqb (first_of values) 1) number)
seen_on (take_word caller) number values = took caller (read_as (first_of values) number)

-- ---- a run
pub record RunOn : Type 0 where
  pub words : List ℕ
  pub log : Log

abbrev pub run_on : (words : List ℕ) → Log → RunOn
run_on words log = record { words = words; log = log }

-- one call more, by what it leaves
abbrev pub noting : Log → Call → Left → RunOn
noting g call l = run_on l.words (noted g (seen_on call l.number l.values))

abbrev pub stepped_on : RunOn → CallOn → RunOn
stepped_on r c = noting r.log c.call (on_words r.words c.call c.values)

-- the calls one after another
unfoldable pub played_on : RunOn → (calls : List CallOn) → RunOn
played_on r [] = r
played_on r (c ∷ calls) = played_on (stepped_on r c) calls

-- from the words that `fresh` leaves of those lent to it, with nothing written down yet
abbrev pub from_fresh : (lent : List ℕ) → RunOn
from_fresh lent = run_on (words_for fresh_words lent) no_log

-- what was lent behind the mailbox's words
abbrev pub behind_of : (lent : List ℕ) → List ℕ
behind_of lent = drop words_of_mailbox lent

-- the calls that had room for what they give: all that were not answered 12
abbrev pub unless_short : (number : ℕ) → Call → List Call → List Call
unless_short number call later = cond (eqb number 12) later (call ∷ later)

unfoldable pub with_room : (words : List ℕ) (calls : List CallOn) → List Call
with_room words [] = []
with_room words (c ∷ calls) =
    unless_short (on_words words c.call c.values).number c.call (with_room (on_words words c.call c.values).words calls)

-- ---- the words as a server: the mailbox in words, the call made there, and the mailbox read back
abbrev pub server_on : (behind values : List ℕ) → Server
server_on behind values m call =
    after (unpack_of (on_words (pack_of m ++ behind) call values).words)
    (seen_on call (on_words (pack_of m ++ behind) call values).number (on_words (pack_of m ++ behind) call values).values)

-- The calls on lent words are the mailbox's own, stated: so is then every run of them, from the fresh words on. The proofs stand in proofs/Faithful.antt.
use Rattle.std.specs.Prelude.{◌≡◌, List, ◌++◌, ℕ, ◌≤◌, ◌<◌, length}
use Rattle.reply.specs.Reply.{Reply, given, refused}
use Rattle.lent.specs.Lent.{number_of, words_for}
use Rattle.mailbox.specs.declared.Mailbox.{Mailbox}
use Rattle.mailbox.specs.Machine.{fresh_mailbox}
use Rattle.mailbox_calls.specs.Calls.{After, post_of, load_of, turn_of, unload_of, take_of}
use Rattle.mailbox_layout.specs.Layout.{words_of_mailbox, pack_of, unpack_of}
use Rattle.mailbox_words.specs.Calls.{lay_accepted, lay_acted, lay_word, Left, left, post_on, load_on, turn_on, unload_on, take_on}
use Rattle.mailbox_runs.specs.Typed.{Typed}

-- the values' words have room for what is given
abbrev pub Room : {A : Type 0} → (lay : A → List ℕ) → Reply A → (values : List ℕ) → Type 0
Room lay (given a) values = length (lay a) ≤ length values
Room lay (refused number carried) values = Unit {0}

-- the values' words after the call
abbrev pub values_after : {A : Type 0} → (lay : A → List ℕ) → Reply A → (values : List ℕ) → List ℕ
values_after lay (given a) values = words_for (lay a) values
values_after lay (refused number carried) values = values

-- a call on the words of a mailbox, with any words behind them, leaves what the call on the mailbox gives
pub record Through {A : Type 0} (lay : A → List ℕ) (a : After (Reply A)) (on : (words values : List ℕ) → Left) (m : Mailbox) : Type 0 where
  pub number : (behind values : List ℕ) → Room lay a.answer values → (on (pack_of m ++ behind) values).number ≡ number_of a.answer
  pub words : (behind values : List ℕ) → Room lay a.answer values → (on (pack_of m ++ behind) values).words ≡ pack_of a.mailbox ++ behind
  pub values : (behind values : List ℕ) → Room lay a.answer values → (on (pack_of m ++ behind) values).values ≡ values_after lay a.answer values
  -- without room: 12, and all words as they were
  pub no_room : (behind values : List ℕ) → (Room lay a.answer values → ⊥) → on (pack_of m ++ behind) values ≡ left 12 (pack_of m ++ behind) values
  -- the mailbox after it is typed too
  pub typed : Typed a.mailbox

pub record Faithful (m : Mailbox) : Type 0 where
  -- a mailbox has 88 words
  pub long : length (pack_of m) ≡ words_of_mailbox
  -- what is packed is read back
  pub back : (behind : List ℕ) → unpack_of (pack_of m ++ behind) ≡ m
  pub post_through : (caller command d : ℕ) → d < 0x1_0000 → Through lay_accepted (post_of m caller command d) (post_on caller command d) m
  pub load_through : Through lay_acted (load_of m) load_on m
  pub turn_through : Through lay_acted (turn_of m) turn_on m
  pub unload_through : Through lay_acted (unload_of m) unload_on m
  pub take_through : (caller : ℕ) → Through lay_word (take_of m caller) (take_on caller) m

pub record AllFaithful : Type 0 where
  pub fresh : Typed fresh_mailbox
  pub all : (m : Mailbox) → Typed m → Faithful m

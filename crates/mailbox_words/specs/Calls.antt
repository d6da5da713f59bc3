-- The calls on a mailbox in lent words: what each answers, and what it leaves in the words and in the values' words. Assumes nothing: these are definitions.
use Rattle.std.specs.Prelude.{Bool, cond, List, [], ◌∷◌, ℕ, length, leb}
use Rattle.reply.specs.Reply.{Reply, given, refused}
use Rattle.lent.specs.Lent.{words_for}
use Rattle.mailbox.specs.declared.Mailbox.{Mailbox}
use Rattle.mailbox.specs.Machine.{fresh_mailbox}
use Rattle.mailbox_calls.specs.Calls.{After, Accepted, post_of, load_of, turn_of, unload_of, take_of}
use Rattle.mailbox_layout.specs.Layout.{bit_of, pack_of, unpack_of}
use Rattle.mailbox_held.specs.Held.{held_in}

-- what an answer gives, as values: nothing for accepted, 1 for yes and 0 for no, the word that is taken
abbrev pub lay_accepted : Accepted → List ℕ
lay_accepted a = []

abbrev pub lay_acted : (acted : Bool) → List ℕ
lay_acted acted = bit_of acted ∷ []

abbrev pub lay_word : (word : ℕ) → List ℕ
lay_word word = word ∷ []

-- what a call leaves: its number, the mailbox's words, the values' words
pub record Left : Type 0 where
  pub number : ℕ
  pub words : List ℕ
  pub values : List ℕ

abbrev pub left : (number : ℕ) (words values : List ℕ) → Left
left number words values = record { number = number; words = words; values = values }

-- values to be given and a mailbox: 12, and nothing written, where the values have no room
unfoldable pub left_with : (gives : List ℕ) → Mailbox → (words values : List ℕ) → Left
left_with gives m words values = cond (leb (length gives) (length values)) (left 0 (words_for (pack_of m) words) (words_for gives values)) (left 12 words values)

-- what is given is laid out as values; a refusal leaves its number and nothing else
abbrev pub left_by : {A : Type 0} → (lay : A → List ℕ) → Mailbox → Reply A → (words values : List ℕ) → Left
left_by lay m (given a) words values = left_with (lay a) m words values
left_by lay m (refused number carried) words values = left number words values

-- words that are no mailbox's answer 5, first of all
unfoldable pub call_on : {A : Type 0} → (lay : A → List ℕ) (call : Mailbox → After (Reply A)) → (words values : List ℕ) → Left
call_on lay call words values =
    cond (held_in words) (left_by lay (call (unpack_of words)).mailbox (call (unpack_of words)).answer words values)
    (left 5 words values)

-- ---- document 01's calls
abbrev pub fresh_words : List ℕ
fresh_words = pack_of fresh_mailbox

abbrev pub post_on : (caller command d : ℕ) (words values : List ℕ) → Left
post_on caller command d = call_on lay_accepted (λ m. post_of m caller command d)

abbrev pub load_on : (words values : List ℕ) → Left
load_on = call_on lay_acted load_of

abbrev pub turn_on : (words values : List ℕ) → Left
turn_on = call_on lay_acted turn_of

abbrev pub unload_on : (words values : List ℕ) → Left
unload_on = call_on lay_acted unload_of

abbrev pub take_on : (caller : ℕ) (words values : List ℕ) → Left
take_on caller = call_on lay_word (λ m. take_of m caller)

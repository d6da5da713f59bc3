-- What a reply leaves at the boundary: its number, and its values in lent words; and what lent words begin with. Assumes nothing: these are definitions.
use Rattle.std.specs.Prelude.{ℕ, List, [], ◌∷◌, ◌++◌, Bool, true, false, cond, ◌&&◌, length, drop, leb, eqb, Result}
use Rattle.reply.specs.declared.Refusal.{Refusal}
use Rattle.reply.specs.Reply.{Reply, Carried, given, refused, alone, tested, in_header, in_entry, told_alone}

-- a call's number: 0 where it gives
abbrev pub number_of : {A : Type 0} → Reply A → ℕ
number_of (given a) = 0
number_of (refused number carried) = number

-- the number of an answer whose refusals stand alone
abbrev pub answered : {A : Type 0} → Result A Refusal → ℕ
answered answer = number_of (told_alone answer)

-- what a number carries, as words: the count; or where it was met, in a header (1) or an entry (2), with level, index (0 of a header) and directory
abbrev pub lay_carried : Carried → List ℕ
lay_carried alone = []
lay_carried (tested count) = count ∷ []
lay_carried (in_header level directory) = 1 ∷ level ∷ 0 ∷ directory ∷ []
lay_carried (in_entry level index directory) = 2 ∷ level ∷ index ∷ directory ∷ []

-- a call's values: what it gives, laid out as words, or what its number carries
abbrev pub values_of : {A : Type 0} → (lay : A → List ℕ) → Reply A → List ℕ
values_of lay (given a) = lay a
values_of lay (refused number carried) = lay_carried carried

-- the number answered, with values to be written: 12 where they do not fit the lent words
unfoldable pub number_for : (number : ℕ) → (values words : List ℕ) → ℕ
number_for number values words = cond (leb (length values) (length words)) number 12

-- the lent words after it: the values from the first word on and every other word kept, or all kept where they do not fit
unfoldable pub words_for : (values words : List ℕ) → List ℕ
words_for values words = cond (leb (length values) (length words)) (values ++ drop (length values) words) words

-- the number and the words that a reply leaves
abbrev pub number_left : {A : Type 0} → (lay : A → List ℕ) → Reply A → (words : List ℕ) → ℕ
number_left lay reply words = number_for (number_of reply) (values_of lay reply) words

abbrev pub words_left : {A : Type 0} → (lay : A → List ℕ) → Reply A → (words : List ℕ) → List ℕ
words_left lay reply words = words_for (values_of lay reply) words

-- the lent bytes that a call leaves which changes them by its reply: as they were where its values do not fit the lent words
unfoldable pub bytes_left : {A : Type 0} → (lay : A → List ℕ) → Reply A → (after : Reply A → List ℕ) → (before words : List ℕ) → List ℕ
bytes_left lay reply after before words = cond (leb (length (values_of lay reply)) (length words)) (after reply) before

-- how a number is laid out: one word
abbrev pub lay_number : (n : ℕ) → List ℕ
lay_number n = n ∷ []

-- the words begin with these values
unfoldable pub begins : (values words : List ℕ) → Bool
begins [] words = true
begins (v ∷ values) [] = false
begins (v ∷ values) (w ∷ words) = eqb w v && begins values words

-- Document 01's rules for the table, which reader and writer share. Assumes nothing: these are definitions.
use Rattle.std.specs.Prelude.{ℕ, ◌+◌, ◌*◌, ◌%◌, ◌^◌, Bool, true, cond, not, ◌&&◌, List, [], ◌∷◌, leb, eqb}
use Rattle.reply.specs.Reply.{Reply, given, guard}
use Rattle.aspt.specs.declared.Structure.{Structure}

-- accepted, with nothing to give
abbrev pub done : Reply Unit
done = given tt

-- the sum of bytes
unfoldable pub sum_of : List ℕ → ℕ
sum_of [] = 0
sum_of (b ∷ bs) = b + sum_of bs

-- none of the types seen
unfoldable pub fresh : (seen : List ℕ) → (class : ℕ) → Bool
fresh [] class = true
fresh (seen ∷ others) class = not (eqb seen class) && fresh others class

-- in type 1 the ID byte is 0x01
unfoldable pub id_fits : Structure → Bool
id_fits st = cond (eqb st.class 1) (eqb st.id 1) true

-- a register offset + 4 is at most 4,096 · pages
abbrev pub in_space : (pages offset : ℕ) → Bool
in_space pages offset = leb (offset + 4) (4096 * pages)

-- each register offset that the type has: type 2 has the first alone
unfoldable pub registers_fit : (pages : ℕ) → Structure → Bool
registers_fit pages st = in_space pages st.first && cond (eqb st.class 2) true (in_space pages st.second && in_space pages st.third)

-- the checks of the register space, and what comes after them
abbrev pub space_checks : {A : Type 0} → (base pages : ℕ) → (rest : Reply A) → Reply A
space_checks base pages rest =
    guard (eqb (base % 4096) 0) 5  -- base address a multiple of 4,096 (5)
    (guard (leb (base + 4096 * pages) (2 ^ 64)) 5 rest)  -- base + 4,096 · pages at most 2^64 (5)

-- the checks of one structure, given the types seen before it, and what comes after them; `sized` where its length is right, `clear` where its reserved
-- bytes are zero: a reader asks them of bytes, and to a writer, whose they are, both are true
unfoldable pub structure_checks : {A : Type 0} → (pages : ℕ) → (seen : List ℕ) → Structure → (sized clear : Bool) → (rest : Reply A) → Reply A
structure_checks pages seen st sized clear rest =
    guard sized 6  -- length 20 (6)
    (guard (leb st.class 2) 6 (guard (fresh seen st.class) 6  -- type 0 to 2 and not seen before (6)
    (guard clear 5  -- reserved bytes zero (5)
    (guard (id_fits st) 5  -- in type 1 the byte at 4 equal to 0x01 (5)
    (guard (registers_fit pages st) 7 rest)))))  -- each register offset + 4 at most 4,096 · pages (7)

-- the checks of the three structures, one after the other; `sized i` and `clear i` are those of structure i
unfoldable pub structures_checks : {A : Type 0} → (pages : ℕ) → (a b c : Structure) → (sized clear : ℕ → Bool) → (rest : Reply A) → Reply A
structures_checks pages a b c sized clear rest =
    structure_checks pages [] a (sized 0) (clear 0)
    (structure_checks pages (a.class ∷ []) b (sized 1) (clear 1)
    (structure_checks pages (a.class ∷ b.class ∷ []) c (sized 2) (clear 2) rest))

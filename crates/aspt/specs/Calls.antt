-- What a read gives, and what a table that is to be written is asked. Assumes nothing: these are definitions.
use Rattle.std.specs.Prelude.{ℕ, ◌%◌, true, List, length, take, leb, eqb}
use Rattle.reply.specs.Reply.{Reply, given, guard}
use Rattle.le.specs.Field.{get}
use Rattle.aspt.specs.Header as header
use Rattle.aspt.specs.Header.{table_length}
use Rattle.aspt.specs.Rules.{done, sum_of, space_checks, structure_checks, structures_checks}
use Rattle.aspt.specs.Bytes.{structure_part, structure_in, length_fits, reserved_zero, table_in}
use Rattle.aspt.specs.declared.Table.{Table}

-- the checks of the 52 bytes before the structures, in 112 bytes, and what comes after them
unfoldable pub header_checks : {A : Type 0} → (s : List ℕ) → (rest : Reply A) → Reply A
header_checks s rest =
    guard (eqb (get header.signature s 0) header.aspt) 2  -- 'ASPT' (2)
    (guard (eqb (get header.whole_length s 0) table_length) 3  -- Length 112 (3)
    (guard (eqb (get header.revision s 0) 2) 5  -- Revision 2 (5)
    (guard (eqb (sum_of s % 256) 0) 4  -- all 112 bytes sum to 0 modulo 256 (4)
    (space_checks (get header.base s 0) (get header.pages s 0)  -- base address and end of the register space (5)
    (guard (eqb (get header.count s 0) 3) 3 rest)))))  -- count 3 (3)

-- the checks of one structure as its part p of the table has it
abbrev pub part_checks : {A : Type 0} → (pages : ℕ) → (seen : List ℕ) → (p : List ℕ) → (rest : Reply A) → Reply A
part_checks pages seen p rest = structure_checks pages seen (structure_in p) (length_fits p) (reserved_zero p) rest

-- the checks of the three, as 112 bytes have them
abbrev pub parts_checks : {A : Type 0} → (s : List ℕ) → (rest : Reply A) → Reply A
parts_checks s rest =
    structures_checks (get header.pages s 0) (structure_in (structure_part 0 s)) (structure_in (structure_part 1 s)) (structure_in (structure_part 2 s))
    (λ i. length_fits (structure_part i s)) (λ i. reserved_zero (structure_part i s)) rest

-- the table that 112 bytes hold
unfoldable pub table_of : (s : List ℕ) → Reply Table
table_of s = header_checks s (parts_checks s (given (table_in s)))

-- reading from lent bytes
unfoldable pub read_of : (s : List ℕ) → Reply Table
read_of s = guard (leb table_length (length s)) 1 (table_of (take table_length s))  -- 112 bytes lent; more are ignored (1)

-- the checks of a table that is to be written; length and reserved bytes are the writer's
unfoldable pub admit_of : Table → Reply Unit
admit_of t =
    space_checks t.base t.pages
    (structures_checks t.pages t.first t.second t.third (λ _. true) (λ _. true) done)

-- What a GUID table and each of its entries end with, and how far from an image's end a table ends. Assumes nothing: these are definitions.
use Rattle.std.specs.Prelude.{ℕ, ◌+◌}
use Rattle.le.specs.Field.{Field, field}

-- byte length and byte offset of each field of an end: a length, and the two halves of a GUID
abbrev pub whole_length : Field
whole_length = field 2 0

abbrev pub low : Field
low = field 8 2

abbrev pub high : Field
high = field 8 10

-- an end's bytes; so many has the least entry, and the least table
abbrev pub end_length : ℕ
end_length = 18

-- the bytes behind a table, to the image's end
abbrev pub behind_table : ℕ
behind_table = 32

-- the least L: a table's end, and the bytes behind it
abbrev pub shortest : ℕ
shortest = end_length + behind_table

-- the largest total
abbrev pub largest : ℕ
largest = 65_535

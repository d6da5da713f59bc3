-- How the numbers of an entry to be written are taken. Assumes nothing: these are definitions.
use Rattle.std.specs.Prelude.{ℕ}
use Rattle.build.specs.declared.Fields.{Fields}

-- an entry from its five numbers
abbrev pub fields_for : (class sub size location mode : ℕ) → Fields
fields_for class sub size location mode = record { class = class; subprogram = sub; size = size; location = location; mode = mode }

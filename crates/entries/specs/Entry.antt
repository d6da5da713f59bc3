-- An entry of a directory, and the lookup by type and subprogram. Assumes nothing: these are definitions.
use Rattle.std.specs.Prelude.{ℕ, ◌+◌, List, Bool, ◌&&◌, cond, ltb, eqb}
use Rattle.le.specs.Le.{bits_from, bits_below}
use Rattle.le.specs.Field.{get}
use Rattle.reply.specs.Reply.{Reply, given, refused, alone, tested, guard}
use Rattle.reply.specs.Scan.{scan}
use Rattle.reply.specs.Some.{some_below}
use Rattle.directory.specs.Entry as entry
use Rattle.directory.specs.Directory.{entry_place}
use Rattle.directory.specs.declared.Kind.{Kind}
use Rattle.directory.specs.declared.Directory.{Directory}
use Rattle.entries.specs.declared.Entry.{Entry}
use Rattle.entries.specs.declared.Lead.{Lead}
use Rattle.entries.specs.declared.Match.{Match}

-- the fields of the entry that begins at a place
abbrev pub fields_at : (image : List ℕ) → (place : ℕ) → Entry
fields_at image place = record {
  class = get entry.class image place;
  subprogram = get entry.subprogram image place;
  size = get entry.size image place;
  location = bits_below 62 (get entry.location image place);
  mode = bits_below 2 (bits_from 62 (get entry.location image place));
}

-- the fields of entry i of a directory
abbrev pub entry_of : Kind → (image : List ℕ) → Directory → (i : ℕ) → Entry
entry_of kind image d i = fields_at image (entry_place kind d.place.0 i)

-- entry i of a directory: at or above n, 8
abbrev pub entry_in : Kind → (image : List ℕ) → Directory → (i : ℕ) → Reply Entry
entry_in kind image d i = guard (ltb i d.total) 8 (given (entry_of kind image d i))

-- entry i as a lead
abbrev pub lead_of : Kind → (image : List ℕ) → Directory → (i : ℕ) → Lead
lead_of kind image d i = record { index = i; entry = entry_of kind image d i }

-- entry i, if it leads to level two, or what the entries behind it answer
abbrev pub lead_step : Kind → (image : List ℕ) → Directory → (i : ℕ) → (rest : Reply Lead) → Reply Lead
lead_step kind image d i rest = cond (eqb (entry_of kind image d i).class kind.lead) (given (lead_of kind image d i)) rest

-- the lowest entry that leads to level two, with its index; none: 8
abbrev pub lead_in : Kind → (image : List ℕ) → Directory → Reply Lead
lead_in kind image d = scan (lead_step kind image d) (λ _. refused 8 alone) d.total 0

-- an entry has this type and subprogram
abbrev pub matches : Entry → (class sub : ℕ) → Bool
matches e class sub = eqb e.class class && eqb e.subprogram sub

-- some entry of a directory has this type and subprogram
abbrev pub holds_in : Kind → (image : List ℕ) → Directory → (class sub : ℕ) → Bool
holds_in kind image d class sub = some_below (λ j. matches (entry_of kind image d j) class sub) d.total

-- a match at index i, after i + 1 entries tested
abbrev pub found_at : (i : ℕ) → Reply Match
found_at i = given (record { index = i; tested = i + 1 })

-- no such entry among the n tested
abbrev pub nowhere : (n : ℕ) → Reply Match
nowhere n = refused 8 (tested n)

-- entry i, if it matches, or what the entries behind it answer
abbrev pub find_step : Kind → (image : List ℕ) → Directory → (class sub i : ℕ) → (rest : Reply Match) → Reply Match
find_step kind image d class sub i rest = cond (matches (entry_of kind image d i) class sub) (found_at i) rest

-- the lookup in one directory: the lowest matching index, with the number of entries tested
abbrev pub find_in : Kind → (image : List ℕ) → Directory → (class sub : ℕ) → Reply Match
find_in kind image d class sub = scan (find_step kind image d class sub) nowhere d.total 0

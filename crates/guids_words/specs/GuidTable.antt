-- How what the calls on a GUID table give is laid out in lent words. Assumes nothing: these are definitions.
use Rattle.std.specs.Prelude.{ℕ, List, [], ◌∷◌}
use Rattle.guids.specs.declared.Guid.{Guid}
use Rattle.guids.specs.declared.GuidEntry.{GuidEntry}
use Rattle.guids.specs.declared.GuidMatch.{GuidMatch}
use Rattle.guids.specs.declared.Totals.{Totals}

-- a GUID, by its two halves
abbrev pub guid_of : (low high : ℕ) → Guid
guid_of low high = record { low = low; high = high }

-- a GUID table: two words, its total and the number of its entries
abbrev pub lay_totals : Totals → List ℕ
lay_totals t = t.total ∷ t.entries ∷ []

-- a GUID lookup's match: three words, its data's place and length, and the number of entries tested
abbrev pub lay_guid_match : GuidMatch → List ℕ
lay_guid_match m = m.place ∷ m.length ∷ m.tested ∷ []

-- an entry of a GUID table: four words, the two halves of its GUID, and its data's place and length
abbrev pub lay_guid_entry : GuidEntry → List ℕ
lay_guid_entry e = e.guid.low ∷ e.guid.high ∷ e.place ∷ e.length ∷ []

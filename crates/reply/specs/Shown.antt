-- What is printed of a refusal, and of one with the place where it was met, byte by byte. Assumes nothing: these are definitions.
use Rattle.std.specs.Prelude.{ℕ, List, [], ◌++◌, codes, decimal}
use Rattle.reply.specs.Number.{refusal_number}
use Rattle.reply.specs.declared.Refusal.{Refusal}
use Rattle.reply.specs.declared.Met.{Met}
use Rattle.reply.specs.declared.Met.TheVariants as place
use Rattle.reply.specs.declared.Fault.{Fault}

-- a refusal, by its number
abbrev pub refusal_text : Refusal → List ℕ
refusal_text refusal = codes "refused " ++ decimal (refusal_number refusal)

-- where it was met: nothing, the level of a header, or the level and index of an entry
abbrev pub met_text : Met → List ℕ
met_text place.Alone = []
met_text (place.Header level directory) = codes " level=" ++ decimal level
met_text (place.Entry level index directory) = codes " level=" ++ decimal level ++ codes " index=" ++ decimal index

abbrev pub fault_text : Fault → List ℕ
fault_text fault = refusal_text fault.refusal ++ met_text fault.met

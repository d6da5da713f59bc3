-- What the answers tell, and by which number. Assumes nothing: these are statements.
use Rattle.std.specs.Prelude.{ℕ, ◌≡◌, List}
use Rattle.reply.specs.Reply.{OneToOne, told}
use Rattle.efs.specs.declared.Rules.{Rules}
use Rattle.wrong.specs.Wrong.{header_wrong, entry_wrong}
use Rattle.wrong.specs.declared.WrongField.{WrongField}

-- no two answers tell the same
abbrev pub ToldApart : Type 0
ToldApart = OneToOne (told {A = WrongField})

-- what is told has the number of the refusal
pub record SameNumber : Type 0 where
  pub header : (r : Rules) (image : List ℕ) (number level o : ℕ) → (header_wrong r image number level o).number ≡ number
  pub entry : (r : Rules) (image : List ℕ) (number i o : ℕ) → (entry_wrong r image number i o).number ≡ number

-- The version of the firmware binary that a part of an image holds. Assumes nothing: these are definitions.
use Rattle.std.specs.Prelude.{ℕ, List}
use Rattle.reply.specs.Reply.{Reply, given, then}
use Rattle.entries.specs.Part.{bytes_of}
use Rattle.entries.specs.declared.Part.{Part}
use Rattle.version.specs.Version.{version_of}

-- that of the part's bytes; where the part is refused, its refusal
abbrev pub version_in : (image : List ℕ) → Reply Part → Reply ℕ
version_in image part = then part (λ p. version_of (bytes_of image (given p)))

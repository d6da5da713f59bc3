-- Which bytes begin with a firmware header, as plain facts; that exactly these have a version; and that no other byte matters. Assumes nothing: these are statements.
use Rattle.std.specs.Prelude.{ℕ, ◌<◌, ◌≤◌, ◌≡◌, List, length, get_or}
use Rattle.le.specs.Field.{get}
use Rattle.reply.specs.Reply.{given}
use Rattle.version.specs.Header as header
use Rattle.version.specs.Header.{header_length}
use Rattle.version.specs.Version.{version_of}

-- the bytes begin with a header that holds this version
pub record Holds (s : List ℕ) (version : ℕ) : Type 0 where
  pub present : header_length ≤ length s
  pub marked : get header.mark s 0 ≡ header.ps1
  pub holds : get header.version s 0 ≡ version

-- a version is given exactly where a header holds it
pub record VersionAcceptance : Type 0 where
  pub only : (s : List ℕ) (version : ℕ) → version_of s ≡ given version → Holds s version
  pub all : (s : List ℕ) (version : ℕ) → Holds s version → version_of s ≡ given version

-- the answer depends on the header's bytes alone
abbrev pub VersionIndependence : Type 0
VersionIndependence = (s t : List ℕ) → header_length ≤ length s → header_length ≤ length t → ((j : ℕ) → j < header_length → get_or s j 0 ≡ get_or t j 0) → version_of s ≡ version_of t

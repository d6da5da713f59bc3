-- The firmware version in a firmware binary's header, as source document 001 has it. Assumes nothing: these are definitions.
use Rattle.std.specs.Prelude.{ℕ, List, length, leb, eqb}
use Rattle.le.specs.Field.{get}
use Rattle.reply.specs.Reply.{Reply, given, guard}
use Rattle.version.specs.Header as header

-- the version in the header that a firmware binary begins with
unfoldable pub version_of : (s : List ℕ) → Reply ℕ
version_of s =
    guard (leb header.header_length (length s)) 1  -- the header's 256 bytes present (1)
    (guard (eqb (get header.mark s 0) header.ps1) 2  -- its mark at 0x10 (2)
    (given (get header.version s 0)))  -- the four bytes at 0x60

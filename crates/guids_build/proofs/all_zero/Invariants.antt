use Rattle.std.proofs.Common.{◌≡◌, drop}
use Rattle.guids_build.specs.Write.{all_zero}
use Rattle.guids_build.proofs.all_zero.Given as goal

abbrev pub invariant-loop-byte : goal.invariant-loop-byte
invariant-loop-byte l = all_zero (drop l.byte-index l.bytes) ≡ all_zero l.bytes

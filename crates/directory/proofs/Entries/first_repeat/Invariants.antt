use mathlib.Core.Path.{◌≡◌}
use mathlib.Core.Bool.{false}
use Prim.Native.Nat.{ℕ, ◌<◌}
use Rattle.directory.specs.Directory.{repeats_earlier}
use Rattle.directory.proofs.Heads.{Seen}
use Rattle.directory.proofs.Entries.first_repeat.Given as goal

abbrev pub invariant-loop-i : goal.invariant-loop-i
invariant-loop-i l = record {
  none : (j : ℕ) → j < l.i → repeats_earlier l.self.kind l.self.image.now l.self.at.0 j ≡ false;
  seen : Seen l.self.kind l.self.image.now l.self.at.0 1024 l.i l.seen;
}

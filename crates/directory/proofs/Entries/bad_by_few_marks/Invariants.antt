use mathlib.Core.Path.{◌≡◌}
use mathlib.Core.Bool.{false}
use Rattle.reply.specs.Some.{some_below}
use Rattle.directory.specs.Looks.{bad_at}
use Rattle.directory.proofs.Heads.{Seen}
use Rattle.directory.proofs.Entries.bad_by_few_marks.Given as goal

abbrev pub invariant-loop-i : goal.invariant-loop-i
invariant-loop-i l = l.bad ≡ false → (some_below (bad_at l.self.kind l.self.level l.self.image.now l.self.at.0) l.i ≡ false) × Seen l.self.kind l.self.image.now l.self.at.0 64 l.i l.seen

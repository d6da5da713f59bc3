use mathlib.Core.Path.{◌≡◌}
use Rattle.reply.specs.Some.{some_below}
use Rattle.directory.specs.Looks.{bad_at}
use Rattle.directory.proofs.Heads.{Seen}
use Rattle.directory.proofs.Entries.bad_by_marks.Given as goal

abbrev pub invariant-loop-i : goal.invariant-loop-i
invariant-loop-i l = record {
  tells : l.bad ≡ some_below (bad_at l.self.kind l.self.level l.self.image.now l.self.at.0) l.i;
  seen : Seen l.self.kind l.self.image.now l.self.at.0 1024 l.i l.seen;
}

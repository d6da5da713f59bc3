use mathlib.Core.Path.{◌≡◌}
use Prim.Native.Nat.{◌-◌, ◌≤◌}
use lib.ListN.{length}
use Rattle.reply.specs.Reply.{refused, alone}
use Rattle.reply.specs.Scan.{scan}
use Rattle.efs.specs.Efs.{efs_place, efs_step}
use Rattle.efs.proofs.efs_place.Given as goal

abbrev pub invariant-loop-candidate : goal.invariant-loop-candidate
invariant-loop-candidate l = (l.candidate-index ≤ length l.candidates) × (scan (efs_step l.window l.candidates l.image) (λ _. refused 2 alone) (length l.candidates - l.candidate-index) l.candidate-index ≡ efs_place l.window l.candidates l.image)

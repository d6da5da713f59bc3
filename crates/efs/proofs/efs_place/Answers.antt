use mathlib.Core.Path.{sym, ap, ◌∙◌}
use native.Mathlib.Omega.{arith}
use lib.ListN.{length}
use Rattle.reply.specs.Reply.{Reply, given, refused, alone, told_alone}
use Rattle.reply.proofs.ScanLaws.{scan_start, scan_end, scan_stop, scan_pass}
use Rattle.window.specs.declared.Offset.{Offset}
use Rattle.efs.specs.Efs.{efs_step, or_else}
use Rattle.efs.proofs.efs_place.Goals as goal

pub loop-candidate-init : goal.loop-candidate-init
loop-candidate-init c = let a = c.args in
    (omega arith, scan_start (efs_step a.window a.candidates.now a.image.now) (λ _. refused 2 alone) (length a.candidates.now))

pub returns-in-Ok : goal.returns-in-Ok
returns-in-Ok c = let a = c.args in
    sym (scan_stop (efs_step a.window a.candidates.now a.image.now) (λ _. refused 2 alone) (length a.candidates.now) c.loop-candidate.candidate-index (given c.in-Ok.at) (omega arith) (λ rest. ap (λ (x : Reply Offset). or_else x rest) (sym c.candidate_at.ensures ∙ ap told_alone c.in-Ok.is))) ∙ c.loop-candidate.invariant.1

pub loop-candidate-preserved : goal.loop-candidate-preserved
loop-candidate-preserved c = let a = c.args in
    (omega arith, sym (scan_pass (efs_step a.window a.candidates.now a.image.now) (λ _. refused 2 alone) (length a.candidates.now) c.loop-candidate.candidate-index (omega arith) (λ rest. ap (λ (x : Reply Offset). or_else x rest) (sym c.candidate_at.ensures ∙ ap told_alone c.in_default.is))) ∙ c.loop-candidate.invariant.1)

pub returns : goal.returns
returns c = let a = c.args in
    sym (scan_end (efs_step a.window a.candidates.now a.image.now) (λ _. refused 2 alone) (length a.candidates.now) c.loop-candidate.candidate-index (omega arith)) ∙ c.loop-candidate.invariant.1

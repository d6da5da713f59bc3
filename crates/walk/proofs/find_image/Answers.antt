use mathlib.Core.Path.{sym, ap, ◌∙◌}
use native.Mathlib.Omega.{arith}
use Rattle.reply.specs.Reply.{told}
use Rattle.efs.specs.Rules.{rules_of}
use Rattle.flash.proofs.Ways.{opened_small}
use Rattle.window.proofs.Length.{allowed_test}
use Rattle.walk.proofs.Steps.{opened}
use Rattle.walk.proofs.find_image.Goals as goal

pub walk_directory-requires : goal.walk_directory-requires
walk_directory-requires c = let s = c.args.image.now in
    let d = c.in_ok-directory.directory in
    let e = c.in_ok-directory.ensures in
    let o = opened_small (rules_of s) s d 1 (sym c.directory.ensures ∙ ap told (opened c.directory.result d _ e.variant e.cases)) in
    let few = o.1 in
    rw c.rules_of.ensures (record { sized = allowed_test s o.0; most = omega arith; levels = omega arith; few = omega arith; entries = omega arith; count = omega arith })

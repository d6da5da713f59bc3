use borrow.Author.Tests.{le-leb}
use mathlib.Core.Path.{ap, ◌∙◌}
use mathlib.Core.Bool.{not}
use Rattle.aspt.proofs.Checks.{fresh_by}
use Rattle.aspt.proofs.class_fits.Goals as goal

pub returns-then-class-le-ACPI : goal.returns-then-class-le-ACPI
returns-then-class-le-ACPI c = rw (le-leb _ _ c.if-class-le-ACPI.true) (ap not c.contains.ensures.value ∙ fresh_by c.args.seen.now c.args.class)

-- A directory walk falls to its entry walk, and an entry walk to what it leads to, a level deeper, and to the entries behind it.
use Rattle.std.proofs.Common.{◌+◌, ◌-◌, ◌*◌}
use Rattle.walk.proofs.+walk_directory_walk_entry.Given as goal

abbrev pub decreases-walk_directory : goal.decreases-walk_directory
decreases-walk_directory l = l.by.depth * 2000 + l.by.directory.total * 2 + 1

abbrev pub decreases-walk_entry : goal.decreases-walk_entry
decreases-walk_entry l = l.by.depth * 2000 + (l.by.directory.total - l.from) * 2

use Prim.Native.Nat.{◌+◌, ◌*◌, ◌≤◌}
use native.Mathlib.Omega.{arith}
use lib.ListN.{length}
use Rattle.lent.proofs.Laws.{number_12, words_12}
use Rattle.efs.specs.Rules.{rules_of}
use Rattle.all_entries.specs.AllEntries.{lay_entries}
use Rattle.all_entries.proofs.Rows.{entries_long, entries_number, entries_words}
use Rattle.all_entries.proofs.put_entries.Goals as goal

pub returns-then-words-total : goal.returns-then-words-total
returns-then-words-total c = let a = c.args in
    let s = a.image.now in
    let laid = lay_entries (rules_of s) s a.d in
    let long = entries_long (rules_of s) s a.d in
    record { value = number_12 laid a.words.now 0 (omega (arith, long)); words_after = words_12 laid a.words.now (omega (arith, long)) }

pub returns : goal.returns
returns c = let a = c.args in
    let s = a.image.now in
    let room : 3 + 8 * a.d.total ≤ length a.words.now = omega arith in
    let head = c.directory_words.ensures in
    let given = c.give.ensures in
    record { value = entries_number (rules_of s) s a.d a.words.now room _ _ head c.put_rows.ensures _ given.value; words_after = entries_words (rules_of s) s a.d a.words.now room _ _ head c.put_rows.ensures _ given.words_after }

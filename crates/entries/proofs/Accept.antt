-- An entry is given exactly where the index is below the total. Assumes nothing.
use mathlib.Core.Path.{◌≡◌}
use mathlib.Core.List.{List}
use Prim.Native.Nat.{ℕ, ◌<◌, ◌≤◌}
use borrow.Author.Tests.{ltb-true, lt-ltb, le-ltb}
use lib.Dec.{ltb}
use Rattle.reply.specs.Reply.{given, refused, alone}
use Rattle.reply.proofs.ReplyLaws.{past, passed, failed}
use Rattle.entries.specs.Entry.{entry_of, entry_in}
use Rattle.directory.specs.declared.Kind.{Kind}
use Rattle.directory.specs.declared.Directory.{Directory}
use Rattle.entries.specs.declared.Entry.{Entry}
use Rattle.entries.specs.Good.{EntryAcceptance}

module _ (kind : Kind) (s : List ℕ) (d : Directory) (i : ℕ) where
  pub only_entry : (e : Entry) → entry_in kind s d i ≡ given e → (i < d.total) × (entry_of kind s d i ≡ e)
  only_entry e h = let g = past (ltb i d.total) _ _ _ h in (ltb-true _ _ g.0, cc g.1)

  pub all_entry : i < d.total → entry_in kind s d i ≡ given (entry_of kind s d i)
  all_entry h = passed _ _ _ _ (lt-ltb _ _ h)

  behind_none : d.total ≤ i → entry_in kind s d i ≡ refused 8 alone
  behind_none h = failed _ _ _ _ (le-ltb _ _ h)

pub entry_acceptance : EntryAcceptance
entry_acceptance = record { only = only_entry; all = all_entry; behind = behind_none }

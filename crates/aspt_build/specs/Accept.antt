-- Which tables are written, as plain facts. Assumes nothing: these are statements.
use Rattle.std.specs.Prelude.{ℕ, ◌≤◌, ◌≡◌, List, length}
use Rattle.aspt.specs.Header.{table_length}
use Rattle.aspt.specs.Rules.{done}
use Rattle.aspt.specs.Good.{GoodTable}
use Rattle.aspt.specs.declared.Table.{Table}
use Rattle.aspt_build.specs.Write.{write_of}

-- a table is written exactly where it is good and has room
pub record WriteAcceptance : Type 0 where
  pub only : (t : Table) (s : List ℕ) → write_of t s ≡ done → GoodTable t × (table_length ≤ length s)
  pub all : (t : Table) (s : List ℕ) → GoodTable t → table_length ≤ length s → write_of t s ≡ done

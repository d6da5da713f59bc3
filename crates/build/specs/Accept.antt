-- When a start and an extend are accepted, as plain facts; and that exactly these are given. Assumes nothing: these are statements.
use Rattle.std.specs.Prelude.{ℕ, ◌+◌, ◌*◌, ◌^◌, ◌<◌, ◌≤◌, ◌≡◌, ◌⊎◌, List, length}
use Rattle.reply.specs.Reply.{given, OneToOne, told}
use Rattle.directory.specs.Directory.{psp_kind, directory_of}
use Rattle.directory.specs.Good.{GoodDirectory}
use Rattle.entries.specs.Good.{Matches}
use Rattle.build.specs.declared.Fields.{Fields}
use Rattle.build.specs.Write.{start_of, extend_of}

-- no two answers tell the same
pub record ToldApart : Type 0 where
  pub total : OneToOne (told {A = ℕ})

-- a directory of this level can be started in s
pub record Startable (level : ℕ) (s : List ℕ) : Type 0 where
  pub either : (level ≡ 1) ⊎ (level ≡ 2)
  pub room : 16 ≤ length s

-- an entry that a directory of this level may hold: its location has 62 bits, its mode two, and it is no 0x40 but in level one
pub record Fits (level : ℕ) (f : Fields) : Type 0 where
  pub location : f.location < 2 ^ 62
  pub mode : f.mode ≤ 3
  pub may_stand_lem : (level ≡ 1 → ⊥) → f.class ≡ 0x40 → ⊥

-- s begins with a good directory of this level and n entries, which can be extended by f: none of them has its type and subprogram
pub record Extendable (f : Fields) (s : List ℕ) (level n : ℕ) : Type 0 where
  pub good : GoodDirectory psp_kind 512 s (directory_of 0 level n)
  pub fits : Fits level f
  pub new : (j : ℕ) → j < n → Matches psp_kind s (directory_of 0 level n) f.class f.subprogram j → ⊥
  pub few : n < 512
  pub room : 16 + n * 16 + 16 ≤ length s

-- a start and an extend are given exactly there, with the new total
pub record WriteAcceptance : Type 0 where
  pub start_only : (level : ℕ) (s : List ℕ) (total : ℕ) → start_of level s ≡ given total → Startable level s × (total ≡ 0)
  pub start_all : (level : ℕ) (s : List ℕ) → Startable level s → start_of level s ≡ given 0
  pub extend_only : (f : Fields) (s : List ℕ) (total : ℕ) → extend_of f s ≡ given total → (level : ℕ) × (n : ℕ) × Extendable f s level n × (total ≡ n + 1)
  pub extend_all_lem : (f : Fields) (s : List ℕ) (level n : ℕ) → Extendable f s level n → extend_of f s ≡ given (n + 1)

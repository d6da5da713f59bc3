-- What a flash image with a good directory of a level is, as plain facts; and that exactly these are given. Assumes nothing: these are statements.
use Rattle.std.specs.Prelude.{ℕ, ◌≤◌, ◌≡◌, List}
use Rattle.reply.specs.Reply.{given}
use Rattle.reply.specs.Scan.{Lowest}
use Rattle.window.specs.Window.{four_gib}
use Rattle.entries.specs.Entry.{entry_of}
use Rattle.directory.specs.Good.{GoodDirectory}
use Rattle.entries.specs.Good.{Leads, BeginsAt}
use Rattle.window.specs.Inside.{GoodLength}
use Rattle.efs.specs.Good.{GoodPointer}
use Rattle.directory.specs.declared.Directory.{Directory}
use Rattle.efs.specs.declared.Rules.{Rules}
use Rattle.flash.specs.Flash.{flash_directory}

-- a good directory of level one: where the pointer of the first EFS that counts leads
pub record GoodOne (r : Rules) (image : List ℕ) (d : Directory) : Type 0 where
  pub pointer : GoodPointer r image d.place.0
  pub directory : GoodDirectory r.kind r.limit image d
  pub level : d.level ≡ 1

-- a good directory of level two, by the lowest lead of level one
pub record GoodTwo (r : Rules) (image : List ℕ) (d : Directory) : Type 0 where
  pub above : Directory
  pub one : GoodOne r image above
  pub lead : ℕ
  pub leads : Lowest (Leads r.kind image above) above.total lead
  pub begins : BeginsAt r.window above.place.0 (entry_of r.kind image above lead) d.place.0
  pub directory : GoodDirectory r.kind r.limit image d
  pub level : d.level ≡ 2

-- a good directory of a level
pub data GoodLevel (r : Rules) (image : List ℕ) (d : Directory) : ℕ → Type 0 where
  of_one : GoodOne r image d → GoodLevel r image d 1
  of_two : GoodTwo r image d → GoodLevel r image d 2

-- the directory of a level is given exactly where it is good
pub record FlashAcceptance (r : Rules) (level : ℕ) (image : List ℕ) (d : Directory) : Type 0 where
  pub only : flash_directory r level image ≡ given d → GoodLength image × GoodLevel r image d level
  pub all : GoodLength image → GoodLevel r image d level → flash_directory r level image ≡ given d

-- so it is by all rules with a window that fits below 4 GiB
abbrev pub LevelsAccepted : Type 0
LevelsAccepted = (r : Rules) (level : ℕ) (image : List ℕ) (d : Directory) → r.window ≤ four_gib → FlashAcceptance r level image d

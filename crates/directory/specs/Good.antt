-- What a good directory is, and two entries that repeat, as plain facts; and that exactly these are given. Assumes nothing: these are statements.
use Rattle.std.specs.Prelude.{ℕ, ◌<◌, ◌≤◌, ◌≡◌, ◌⊎◌, List, false, length}
use Rattle.le.specs.Le.{bits_from}
use Rattle.le.specs.Field.{get}
use Rattle.reply.specs.Reply.{Carried, given, refused, OneToOne, told}
use Rattle.directory.specs.Directory.{cookie_of, total_at, entry_place, checksum_at, class_at, subprogram_at, directory_at, directory_by_cookie}
use Rattle.directory.specs.Header as header
use Rattle.directory.specs.Entry as entry
use Rattle.directory.specs.Repeat.{repeated_at}
use Rattle.directory.specs.declared.Kind.{Kind}
use Rattle.directory.specs.declared.Directory.{Directory}
use Rattle.directory.specs.declared.Repeat.{Repeat}

-- no two answers of a call tell the same
pub record ToldApart : Type 0 where
  pub directory : OneToOne (told {A = Directory})
  pub repeated : OneToOne (told {A = Repeat})

-- entry i: reserved bits zero, and no lead but in level one
pub record GoodEntry (kind : Kind) (level : ℕ) (image : List ℕ) (o i : ℕ) : Type 0 where
  pub reserved : bits_from kind.used (get entry.flags image (entry_place kind o i)) ≡ 0
  pub may_stand_lem : (level ≡ 1 → ⊥) → class_at kind image o i ≡ kind.lead → ⊥

-- entries j and i have one type and subprogram
abbrev pub Alike : Kind → (image : List ℕ) → (o i j : ℕ) → Type 0
Alike kind image o i j = (class_at kind image o j ≡ class_at kind image o i) × (subprogram_at kind image o j ≡ subprogram_at kind image o i)

-- entry i repeats no earlier one, in a directory of a kind that may not repeat
abbrev pub First : Kind → (image : List ℕ) → (o i : ℕ) → Type 0
First kind image o i = kind.repeats ≡ false → (j : ℕ) → j < i → Alike kind image o i j → ⊥

-- the directory d
pub record GoodDirectory (kind : Kind) (limit : ℕ) (image : List ℕ) (d : Directory) : Type 0 where
  pub level : (d.level ≡ 1) ⊎ (d.level ≡ 2)
  pub cookie : get header.cookie image d.place.0 ≡ cookie_of kind d.level
  pub total : total_at image d.place.0 ≡ d.total
  pub few : d.total ≤ limit
  pub present : entry_place kind d.place.0 d.total ≤ length image
  pub checksum : get header.checksum image d.place.0 ≡ checksum_at kind image d.place.0 d.total
  pub reserved : get header.reserved image d.place.0 ≡ 0
  pub entries : (i : ℕ) → i < d.total → GoodEntry kind d.level image d.place.0 i
  pub first : (i : ℕ) → i < d.total → First kind image d.place.0 i

-- a directory of the level asked for is given exactly where it is good
pub record Acceptance : Type 0 where
  pub only : (kind : Kind) (limit level : ℕ) (image : List ℕ) (o : ℕ) (d : Directory) → directory_at kind limit level image o ≡ given d →
      GoodDirectory kind limit image d × (d.place.0 ≡ o) × (d.level ≡ level)
  pub all : (kind : Kind) (limit : ℕ) (image : List ℕ) (d : Directory) → GoodDirectory kind limit image d → directory_at kind limit d.level image d.place.0 ≡ given d

-- by its cookie, a directory is given exactly where it is good; of a kind whose cookies differ
pub record CookieAcceptance : Type 0 where
  pub only : (kind : Kind) (limit : ℕ) (image : List ℕ) (o : ℕ) (d : Directory) → directory_by_cookie kind limit image o ≡ given d → GoodDirectory kind limit image d × (d.place.0 ≡ o)
  pub all : (kind : Kind) (limit : ℕ) (image : List ℕ) (d : Directory) → (kind.one ≡ kind.two → ⊥) → GoodDirectory kind limit image d →
      directory_by_cookie kind limit image d.place.0 ≡ given d

-- entry i is the first of n that repeats an earlier one, and that is entry j
pub record FirstRepeat (kind : Kind) (image : List ℕ) (o n i j : ℕ) : Type 0 where
  pub inside : i < n
  pub earlier : j < i
  pub alike : Alike kind image o i j
  pub none_before : (k l : ℕ) → k < i → l < k → Alike kind image o k l → ⊥

-- two entries are named exactly where the directory is refused with 18, and they are the first that repeats and the one it repeats
pub record NamesBoth : Type 0 where
  pub only : (kind : Kind) (limit level : ℕ) (image : List ℕ) (o : ℕ) (r : Repeat) → repeated_at kind limit level image o ≡ given r →
      (carried : Carried) × (directory_at kind limit level image o ≡ refused 18 carried) × FirstRepeat kind image o (total_at image o) r.entry r.earlier
  pub all : (kind : Kind) (limit level : ℕ) (image : List ℕ) (o : ℕ) (carried : Carried) → directory_at kind limit level image o ≡ refused 18 carried →
      (r : Repeat) × (repeated_at kind limit level image o ≡ given r)

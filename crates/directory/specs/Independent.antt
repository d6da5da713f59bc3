-- What lies outside a directory has no part in what is answered of it. Assumes nothing: these are statements.
use Rattle.std.specs.Prelude.{ℕ, ◌<◌, ◌≤◌, ◌≡◌, List, length, get_or}
use Rattle.directory.specs.Directory.{total_at, entry_place, directory_at, directory_by_cookie}
use Rattle.directory.specs.declared.Kind.{Kind}
use Rattle.directory.specs.declared.Directory.{Directory}

-- two images of one length with the same bytes from a up to b
pub record Agree (image other : List ℕ) (a b : ℕ) : Type 0 where
  pub long : length image ≡ length other
  pub same : (j : ℕ) → a ≤ j → j < b → get_or image j 0 ≡ get_or other j 0

-- where a directory ends
abbrev pub end_of : Kind → Directory → ℕ
end_of kind d = entry_place kind d.place.0 d.total

-- images that agree on a directory's bytes have the same replies of it, given or refused; of a kind whose entries have 16 bytes or more
pub record Independence : Type 0 where
  -- up to the end that its total tells
  pub directory : (kind : Kind) (limit level : ℕ) (image other : List ℕ) (o : ℕ) → 16 ≤ kind.entry → Agree image other o (entry_place kind o (total_at image o)) →
      directory_at kind limit level image o ≡ directory_at kind limit level other o
  pub by_cookie : (kind : Kind) (limit : ℕ) (image other : List ℕ) (o : ℕ) → 16 ≤ kind.entry → Agree image other o (entry_place kind o (total_at image o)) →
      directory_by_cookie kind limit image o ≡ directory_by_cookie kind limit other o

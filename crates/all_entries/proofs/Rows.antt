-- The rows of a directory's entries, as the code writes them. Assumes nothing.
use mathlib.Core.Path.{◌≡◌, refl, sym, ap, ◌∙◌}
use mathlib.Core.List.{List, [], ◌∷◌, ◌++◌, append_assoc, append-nil}
use Prim.Native.Nat.{ℕ, zero, suc, ◌+◌, ◌*◌, ◌-◌, ◌≤◌}
use native.Mathlib.Omega.{arith}
use lib.ListN.{length, get_or, take, drop, length-append, take-append-drop, drop_of_length-le}
use lib.Seq.{length-take-le, take_at, drop_at, drop-drop}
use Rattle.reply.specs.Reply.{Reply, given, refused}
use Rattle.lent.specs.Lent.{number_for, words_for}
use Rattle.lent.proofs.Laws.{number_fits, words_fits}
use Rattle.window.specs.Length.{longest, sized}
use Rattle.window.specs.Window.{nearest_to}
use Rattle.window.specs.declared.Offset.{Offset}
use Rattle.window.proofs.Length.{sized_passed}
use Rattle.directory.specs.Directory.{psp_kind, entry_place}
use Rattle.directory.specs.declared.Directory.{Directory}
use Rattle.entries.specs.Entry.{fields_at, entry_of}
use Rattle.entries.specs.Part.{part_of}
use Rattle.entries.specs.declared.Entry.{Entry}
use Rattle.entries.specs.declared.Part.{Part}
use Rattle.entries.proofs.Cases.{fields_part}
use Rattle.efs.specs.Rules.{rules_of}
use Rattle.efs.specs.declared.Rules.{Rules}
use Rattle.place.specs.Place.{check_at}
use Rattle.place.proofs.View.{place_acceptance, nearest_directory}
use Rattle.flash_words.specs.Images.{lay_directory, lay_entry}
use Rattle.all_entries.specs.AllEntries.{lay_part_or, lay_row, row_at, rows_from, lay_entries}

-- an entry, and its part's three words, read one by one
pub row_laid : (e : Entry) (part : Reply Part) (last : List ℕ) → last ≡ lay_part_or part → lay_entry e ++ (get_or last 0 0 ∷ get_or last 1 0 ∷ get_or last 2 0 ∷ []) ≡ lay_row e part
row_laid e part last is = ap (λ (l : List ℕ). lay_entry e ++ (get_or l 0 0 ∷ get_or l 1 0 ∷ get_or l 2 0 ∷ [])) is ∙ by part
  where
    by : (part : Reply Part) → lay_entry e ++ (get_or (lay_part_or part) 0 0 ∷ get_or (lay_part_or part) 1 0 ∷ get_or (lay_part_or part) 2 0 ∷ []) ≡ lay_row e part
    by (given p) = refl
    by (refused number carried) = refl

-- a row has eight words
row_long : (e : Entry) (part : Reply Part) → length (lay_row e part) ≡ 8
row_long e (given p) = refl
row_long e (refused number carried) = refl

-- a row, of what the code reads at the entry's place
module _ (s : List ℕ) (d : Directory) (i : ℕ) (rules : Rules) (is : rules ≡ rules_of s) (at : Offset) (here : at ≡ d.place) (from : ℕ) (found : from ≡ entry_place rules.kind at.0 i) where
  pub entry_from : from ≡ entry_place psp_kind d.place.0 i
  entry_from = found ∙ (ap (λ (r : Rules). entry_place r.kind at.0 i) is ∙ ap (λ (o : Offset). entry_place psp_kind o.0 i) here)

  module _ (long : length s ≤ longest) (inside : entry_place psp_kind d.place.0 i + 16 ≤ length s) (e : Entry) (read : e ≡ fields_at (take (from + 16 - from) (drop from s)) 0) where
    the_entry : e ≡ entry_of psp_kind s d i
    the_entry = read ∙ (fields_part s from (from + 16) refl ∙ ap (fields_at s) entry_from)

    pub row_put : (part : Reply Part) (values : List ℕ) → part ≡ sized s (part_of rules.kind rules.window s at.0 e) → values ≡ lay_row e part →
        values ≡ row_at (rules_of s) s d i
    row_put part values told laid =
        let lies : part ≡ part_of psp_kind (length s) s d.place.0 e =
        told ∙ (sized_passed s _ (record { from = omega arith; to = long })
        ∙ (ap (λ (r : Rules). part_of r.kind r.window s at.0 e) is ∙ ap (λ (o : Offset). part_of psp_kind (length s) s o.0 e) here)) in
        laid ∙ (ap (lay_row e) lies ∙ ap (λ (e : Entry). lay_row e (part_of psp_kind (length s) s d.place.0 e)) the_entry)

module _ (r : Rules) (s : List ℕ) (d : Directory) where
  pub row_at_long : (i : ℕ) → length (row_at r s d i) ≡ 8
  row_at_long i = row_long (entry_of r.kind s d i) (part_of r.kind r.window s d.place.0 (entry_of r.kind s d i))

  rows_long : (m i : ℕ) → length (rows_from r s d m i) ≡ 8 * m
  unfolding rows_from
  rows_long zero i = refl
  rows_long (suc m) i = length-append (row_at r s d i) (rows_from r s d m (i + 1)) ∙ omega (arith, row_at_long i, rows_long m (i + 1))

  pub entries_long : length (lay_entries r s d) ≡ 3 + 8 * d.total
  entries_long = length-append (lay_directory d) (rows_from r s d d.total 0) ∙ omega (arith, rows_long d.total 0)

  -- one row more, at the end
  rows_more : (m i j : ℕ) → j ≡ i + m → rows_from r s d m i ++ row_at r s d j ≡ rows_from r s d (suc m) i
  unfolding rows_from
  rows_more zero i j h = let e : j ≡ i = omega (arith, h) in ap (row_at r s d) e ∙ sym (append-nil (row_at r s d i))
  rows_more (suc m) i j h = append_assoc (row_at r s d i) (rows_from r s d m (i + 1)) (row_at r s d j) ∙ ap (λ (l : List ℕ). row_at r s d i ++ l) (rows_more m (i + 1) j (omega (arith, h)))

  module _ (words : List ℕ) where
    -- the words with the rows of the first i entries behind the first three
    abbrev pub filled : (i : ℕ) → List ℕ
    filled i = (take 3 words ++ rows_from r s d i 0) ++ drop (3 + 8 * i) words

    pub filled_none : words ≡ filled 0
    unfolding rows_from
    filled_none = sym (ap (λ (l : List ℕ). l ++ drop 3 words) (append-nil (take 3 words)) ∙ take-append-drop 3 words)

    module _ (i : ℕ) (room : 3 + 8 * i ≤ length words) where
      head_long : length (take 3 words ++ rows_from r s d i 0) ≡ 3 + 8 * i
      head_long = length-append (take 3 words) (rows_from r s d i 0) ∙ omega (arith, length-take-le 3 words (omega arith), rows_long i 0)

      -- the next row put into its own eight words
      pub filled_more : (held row : List ℕ) → held ≡ filled i → row ≡ row_at r s d i →
          take (3 + 8 * i) held ++ (row ++ drop (3 + 8 * i + 8 - (3 + 8 * i)) (drop (3 + 8 * i) held)) ≡ filled (i + 1)
      filled_more held row inv is =
          let at = 3 + 8 * i in
          let done = take 3 words ++ rows_from r s d i 0 in
          let before : take at held ≡ done = ap (take at) inv ∙ take_at done (drop at words) at head_long in
          let behind : drop at held ≡ drop at words = ap (drop at) inv ∙ drop_at done (drop at words) at head_long in
          let rest : drop (at + 8 - at) (drop at held) ≡ drop (3 + 8 * (i + 1)) words =
          ap (drop (at + 8 - at)) behind ∙ (drop-drop (at + 8 - at) at words ∙ ap (λ (k : ℕ). drop k words) (let q : at + (at + 8 - at) ≡ 3 + 8 * (i + 1) = omega arith in q)) in
          let next : suc i ≡ i + 1 = omega arith in
          rw (before, rest, is)
          (sym (append_assoc done (row_at r s d i) (drop (3 + 8 * (i + 1)) words))
          ∙ ap (λ (l : List ℕ). l ++ drop (3 + 8 * (i + 1)) words)
          (append_assoc (take 3 words) (rows_from r s d i 0) (row_at r s d i)
          ∙ ap (λ (l : List ℕ). take 3 words ++ l) (rows_more i 0 i (omega arith) ∙ ap (λ (m : ℕ). rows_from r s d m 0) next)))

      head_fits : length (lay_directory d) ≤ length (filled i)
      head_fits = omega (arith, head_long, length-append (take 3 words ++ rows_from r s d i 0) (drop (3 + 8 * i) words))

      -- the directory put before its rows
      head_put : words_for (lay_directory d) (filled i) ≡ (lay_directory d ++ rows_from r s d i 0) ++ drop (3 + 8 * i) words
      head_put =
          let rows = rows_from r s d i 0 ++ drop (3 + 8 * i) words in
          sym (words_fits (lay_directory d) (filled i) head_fits)
          ∙ ap (λ (l : List ℕ). lay_directory d ++ l) (ap (drop 3) (append_assoc (take 3 words) (rows_from r s d i 0) (drop (3 + 8 * i) words)) ∙ drop_at (take 3 words) rows 3 (length-take-le 3 words (omega arith)))

    -- what is left, of the number and of the words
    module _ (room : 3 + 8 * d.total ≤ length words) (values held : List ℕ) (head : values ≡ lay_directory d) (rows : held ≡ filled d.total) where
      fits : length (lay_entries r s d) ≤ length words
      fits = omega (arith, entries_long, room)

      pub entries_number : (n : ℕ) → n ≡ number_for 0 values held → n ≡ number_for 0 (lay_entries r s d) words
      entries_number n is =
          is ∙ (ap (λ (l : List ℕ). number_for 0 l held) head ∙ (ap (number_for 0 (lay_directory d)) rows ∙ (sym (number_fits (lay_directory d) (filled d.total) 0 (head_fits d.total room)) ∙ number_fits (lay_entries r s d) words 0 fits)))

      pub entries_words : (after : List ℕ) → after ≡ words_for values held → after ≡ words_for (lay_entries r s d) words
      entries_words after is =
          is
          ∙ (ap (λ (l : List ℕ). words_for l held) head
          ∙ (ap (words_for (lay_directory d)) rows
          ∙ (head_put d.total room ∙ (ap (λ (k : ℕ). lay_entries r s d ++ drop k words) (sym entries_long) ∙ words_fits (lay_entries r s d) words fits))))

-- a directory that is given at a place lies in the image, and so do its entries
pub in_image_lem : (s : List ℕ) (place : ℕ) (d : Directory) → check_at (rules_of s) s place ≡ given d → (length s ≤ longest) × (entry_place psp_kind d.place.0 d.total ≤ length s) × (d.total ≤ 512)
in_image_lem s place d e = let g = place_acceptance.only (rules_of s) s place d e in (g.long.to, g.good.present, g.good.few)

-- so does one at the offset nearest to a place
pub near_in_image : (s : List ℕ) (o : Offset) (place : ℕ) (d : Directory) → o ≡ nearest_to place → given d ≡ check_at (rules_of s) s o.0 →
    (length s ≤ longest) × (entry_place psp_kind d.place.0 d.total ≤ length s) × (d.total ≤ 512)
near_in_image s o place d near g = in_image_lem s place d (sym (g ∙ nearest_directory (rules_of s) s o place near))

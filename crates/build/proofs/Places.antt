-- Where each number of a directory's bytes stands, and what a write over one of them leaves. Assumes nothing.
use mathlib.Core.Path.{◌≡◌, refl, sym, ap, ◌∙◌}
use mathlib.Core.List.{List, [], ◌∷◌, ◌++◌, append_assoc, append-nil}
use mathlib.Core.Bool.{Bool, true, false, cond}
use Prim.Native.Nat.{ℕ, ◌+◌, ◌*◌, ◌-◌, ◌/◌, ◌%◌, ◌^◌, ◌<◌, ◌≤◌}
use native.Mathlib.Omega.{arith}
use lib.ListN.{length, take, drop, length-append, take-append-drop}
use lib.Seq.{take_at, length-take-le}
use lib.Dec.{eqb}
use Rattle.le.specs.Le.{le_at, le_bytes, put_bytes, put_at, Bytes, bytes_of}
use Rattle.le.specs.Back.{Held}
use Rattle.le.proofs.Laws.{le_small}
use Rattle.le.proofs.Back.{put_over}
use Rattle.le.proofs.Numbers.{held, held_again}
use Rattle.fletcher.specs.Fletcher.{fletcher_of}
use Rattle.reply.specs.Reply.{given}
use Rattle.directory.specs.Directory.{psp_kind, cookie_of, checksum_at}
use Rattle.entries.specs.Entry.{fields_at}
use Rattle.build.specs.declared.Fields.{Fields}
use Rattle.build.specs.Write.{entry_fields, entry_bytes, header_fields, entries_bytes, summed_bytes, directory_bytes, lengthened, extended_by}
use Rattle.build.specs.Back.{Sized, fields_of}

-- an entry's bytes are those of its fields
pub entry_numbers : (f : Fields) → entry_bytes f ≡ bytes_of (entry_fields f)
unfolding entry_bytes
entry_numbers f = refl

pub length_entry_bytes : (f : Fields) → length (entry_bytes f) ≡ 16
unfolding entry_bytes bytes_of le_bytes
length_entry_bytes f = refl

-- a directory's first sixteen bytes, with any numbers, and what stands behind them
abbrev pub headed : ℕ → ℕ → ℕ → List ℕ → List ℕ
headed cookie sum total rest = bytes_of (header_fields cookie sum total) ++ rest

module _ (cookie sum total : ℕ) (rest : List ℕ) where
  pub headed_reads : cookie < 2 ^ 32 → sum < 2 ^ 32 → total < 2 ^ 32 → Held (header_fields cookie sum total) (headed cookie sum total rest) 0
  headed_reads c k n = held (header_fields cookie sum total) (headed cookie sum total rest) [] rest 0 refl refl (c, (k, (n, (omega arith, tt))))

  pub headed_summed : drop 8 (headed cookie sum total rest) ≡ le_bytes 4 total ++ (le_bytes 4 0 ++ rest)
  unfolding bytes_of le_bytes
  headed_summed = refl

  pub put_total : (n : ℕ) → put_at 4 n (headed cookie sum total rest) 8 ≡ headed cookie sum n rest
  unfolding bytes_of le_bytes
  put_total n = put_over (headed cookie sum total rest) (le_bytes 4 cookie ++ le_bytes 4 sum) (le_bytes 4 0 ++ rest) 8 refl (le_bytes 4 n) (le_bytes 4 total) refl refl

  pub put_sum : (k : ℕ) → put_at 4 k (headed cookie sum total rest) 4 ≡ headed cookie k total rest
  unfolding bytes_of le_bytes
  put_sum k = put_over (headed cookie sum total rest) (le_bytes 4 cookie) (le_bytes 4 total ++ (le_bytes 4 0 ++ rest)) 4 refl (le_bytes 4 k) (le_bytes 4 sum) refl refl

pub cookie_small : (level : ℕ) → cookie_of psp_kind level < 2 ^ 32
cookie_small level = by (eqb level 1)
  where
    by : (b : Bool) → cond b 0x5053_5024 0x324C_5024 < 2 ^ 32
    by true = omega arith
    by false = omega arith

pub length_entries : (fs : List Fields) → length (entries_bytes fs) ≡ length fs * 16
unfolding entries_bytes
length_entries [] = refl
length_entries (f ∷ fs) = length-append (entry_bytes f) (entries_bytes fs) ∙ omega (arith, length_entry_bytes f, length_entries fs)

pub entries_more : (gs fs : List Fields) → entries_bytes (gs ++ fs) ≡ entries_bytes gs ++ entries_bytes fs
unfolding entries_bytes
entries_more [] fs = refl
entries_more (g ∷ gs) fs = ap (λ (x : List ℕ). entry_bytes g ++ x) (entries_more gs fs) ∙ sym (append_assoc (entry_bytes g) (entries_bytes gs) (entries_bytes fs))

pub entries_last : (gs : List Fields) (f : Fields) (r : List ℕ) → entries_bytes gs ++ (entry_bytes f ++ r) ≡ entries_bytes (gs ++ (f ∷ [])) ++ r
unfolding entries_bytes
entries_last gs f r =
    sym (ap (λ (x : List ℕ). x ++ r) (entries_more gs (f ∷ []) ∙ ap (λ (x : List ℕ). entries_bytes gs ++ x) (append-nil (entry_bytes f))) ∙ append_assoc (entries_bytes gs) (entry_bytes f) r)

-- a directory's bytes, and what stands behind them
pub directory_headed : (level : ℕ) (fs : List Fields) (r : List ℕ) →
    directory_bytes level fs ++ r ≡ headed (cookie_of psp_kind level) (fletcher_of (summed_bytes fs)) (length fs) (entries_bytes fs ++ r)
unfolding directory_bytes bytes_of le_bytes
directory_headed level fs r = refl

pub length_directory : (level : ℕ) (fs : List Fields) → length (directory_bytes level fs) ≡ 16 + length fs * 16
unfolding directory_bytes bytes_of le_bytes
length_directory level fs = omega (arith, length_entries fs)

-- the same, number by number
pub summed_numbers : (fs : List Fields) → summed_bytes fs ≡ le_bytes 4 (length fs) ++ le_bytes 4 0 ++ entries_bytes fs
unfolding bytes_of le_bytes
summed_numbers fs = refl

pub directory_numbers : (level : ℕ) (fs : List Fields) → directory_bytes level fs ≡ le_bytes 4 (cookie_of psp_kind level) ++ le_bytes 4 (fletcher_of (summed_bytes fs)) ++ summed_bytes fs
unfolding directory_bytes bytes_of le_bytes
directory_numbers level fs = refl

-- what the checksum is taken over
pub directory_summed : (level : ℕ) (fs : List Fields) (sum : ℕ) (r : List ℕ) → checksum_at psp_kind (headed (cookie_of psp_kind level) sum (length fs) (entries_bytes fs ++ r)) 0 (length fs) ≡ fletcher_of (summed_bytes fs)
unfolding bytes_of le_bytes
directory_summed level fs sum r =
    let long : length (summed_bytes fs) ≡ 8 + length fs * 16 = omega (arith, length_entries fs) in
    let shape : le_bytes 4 (length fs) ++ (le_bytes 4 0 ++ (entries_bytes fs ++ r)) ≡ summed_bytes fs ++ r = refl in
    ap (λ (x : List ℕ). fletcher_of (take (8 + length fs * 16) x)) (headed_summed (cookie_of psp_kind level) sum (length fs) (entries_bytes fs ++ r) ∙ shape)
    ∙ ap fletcher_of (take_at (summed_bytes fs) r (8 + length fs * 16) long)

-- an extend of a directory's bytes: those with the entry more, and sixteen bytes less behind
pub extended_bytes : (level : ℕ) (gs : List Fields) (f : Fields) (r : List ℕ) → 16 ≤ length r →
    extended_by f (directory_bytes level gs ++ r) (given (length gs + 1)) ≡ directory_bytes level (gs ++ (f ∷ [])) ++ drop 16 r
extended_bytes level gs f r h =
    let n = length gs + 1 in
    let fs = gs ++ (f ∷ []) in
    let c = cookie_of psp_kind level in
    let k = fletcher_of (summed_bytes gs) in
    let d = directory_bytes level gs in
    let long : length fs ≡ n = length-append gs (f ∷ []) in
    let place : 16 + (n - 1) * 16 ≡ 16 + length gs * 16 = omega arith in
    let entry : put_bytes (entry_bytes f) (d ++ r) (16 + (n - 1) * 16) ≡ d ++ (entry_bytes f ++ drop 16 r) =
    put_over (d ++ r) d (drop 16 r) (16 + (n - 1) * 16) (length_directory level gs ∙ sym place) (entry_bytes f) (take 16 r) (ap (λ (x : List ℕ). d ++ x) (sym (take-append-drop 16 r)))
    (length-take-le 16 r h ∙ sym (length_entry_bytes f)) in
    let rest : entries_bytes gs ++ (entry_bytes f ++ drop 16 r) ≡ entries_bytes fs ++ drop 16 r = entries_last gs f (drop 16 r) in
    let whole : lengthened f (d ++ r) n ≡ headed c k (length fs) (entries_bytes fs ++ drop 16 r) =
    ap (λ (x : List ℕ). put_at 4 n x 8) (entry ∙ directory_headed level gs (entry_bytes f ++ drop 16 r)) ∙ put_total c k (length gs) (entries_bytes gs ++ (entry_bytes f ++ drop 16 r)) n
    ∙ rw (rest, long) refl in
    ap (λ (x : List ℕ). put_at 4 (checksum_at psp_kind x 0 n) x 4) whole
    ∙ ap (λ (m : ℕ). put_at 4 (checksum_at psp_kind (headed c k (length fs) (entries_bytes fs ++ drop 16 r)) 0 m) (headed c k (length fs) (entries_bytes fs ++ drop 16 r)) 4) (sym long)
    ∙ put_sum c k (length fs) (entries_bytes fs ++ drop 16 r) _ ∙ ap (λ (x : ℕ). headed c x (length fs) (entries_bytes fs ++ drop 16 r)) (directory_summed level fs k (drop 16 r))
    ∙ sym (directory_headed level fs (drop 16 r))

-- an entry behind p reads as it was written, and its reserved bits are zero
pub entry_behind : (f : Fields) (p q : List ℕ) (e : ℕ) → length p ≡ e → Sized f → f.location < 2 ^ 62 → f.mode ≤ 3 →
    (fields_of (fields_at (p ++ (entry_bytes f ++ q)) e) ≡ f) × (le_at 2 (p ++ (entry_bytes f ++ q)) (e + 2) ≡ 0)
entry_behind f p q e at sized location mode =
    let s = p ++ (entry_bytes f ++ q) in
    let h = held (entry_fields f) s p q e (ap (λ (x : List ℕ). p ++ (x ++ q)) (entry_numbers f)) at (sized.class, (sized.subprogram, (omega arith, (sized.size, (omega arith, tt))))) in
    let class : le_at 1 s (e + 0) ≡ f.class = ap (le_at 1 s) (omega arith) ∙ h.0 in
    let subprogram : le_at 1 s (e + 1) ≡ f.subprogram = h.1.0 in
    let size : le_at 4 s (e + 4) ≡ f.size = ap (le_at 4 s) (omega arith) ∙ h.1.1.1.0 in
    let word : le_at 8 s (e + 8) ≡ f.location + f.mode * 2 ^ 62 = ap (le_at 8 s) (omega arith) ∙ h.1.1.1.1.0 in
    let low : le_at 8 s (e + 8) % 0x4000_0000_0000_0000 ≡ f.location = omega arith in
    let top : le_at 8 s (e + 8) / 0x4000_0000_0000_0000 ≡ f.mode = omega arith in
    let high : le_at 8 s (e + 8) / 0x4000_0000_0000_0000 % 4 ≡ f.mode = ap (λ (k : ℕ). k % 4) top ∙ omega arith in
    (λ j. record { class = class j; subprogram = subprogram j; size = size j; location = low j; mode = high j }, ap (le_at 2 s) (omega arith) ∙ h.1.1.0)

-- in bytes, an entry that was read, with its reserved bits zero, is written again
pub entry_again : (s : List ℕ) → Bytes s → (e : ℕ) → e + 16 ≤ length s → le_at 2 s (e + 2) ≡ 0 → entry_bytes (fields_of (fields_at s e)) ≡ take 16 (drop e s)
unfolding bytes_of le_bytes
entry_again s bytes e h zeros =
    let two : e + 1 + 1 ≡ e + 2 = omega arith in
    let size : le_at 4 s (e + 1 + 1 + 2) ≡ le_at 4 s (e + 4) = ap (le_at 4 s) (omega arith) in
    let eight : le_at 8 s (e + 1 + 1 + 2 + 4) ≡ le_at 8 s (e + 8) = ap (le_at 8 s) (omega arith) in
    let word : le_at 8 s (e + 8) ≡ le_at 8 s (e + 8) % 2 ^ 62 + le_at 8 s (e + 8) / 2 ^ 62 % 2 ^ 2 * 2 ^ 62 = omega (arith, le_small s bytes 8 (e + 8)) in
    entry_numbers (fields_of (fields_at s e))
    ∙ held_again (entry_fields (fields_of (fields_at s e))) s e bytes h (ap (le_at 1 s) (omega arith), (refl, (ap (le_at 2 s) two ∙ zeros, (size, (eight ∙ word, tt)))))

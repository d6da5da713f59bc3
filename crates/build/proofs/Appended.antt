-- What an append leaves: the entry, the total, and a checksum that is made of the one before it and the entry's own. Assumes nothing.
use mathlib.Core.Path.{◌≡◌, refl, sym, ap, ◌∙◌}
use mathlib.Core.List.{List, ◌∷◌, ◌++◌}
use Prim.Native.Nat.{ℕ, suc, ◌+◌, ◌*◌, ◌-◌, ◌<◌, ◌≤◌}
use native.Mathlib.Omega.{arith}
use lib.ListN.{length, get_or, take, drop}
use Rattle.le.specs.Le.{le_at, le_bytes, put_bytes, put_at}
use Rattle.le.proofs.Laws.{le_split}
use Rattle.le.proofs.Put.{length_le_bytes}
use Rattle.le.proofs.Back.{put_long, byte_before, byte_same, byte_after}
use Rattle.fletcher.specs.Fletcher.{words_at, field_of, fletcher_of}
use Rattle.fletcher.specs.Join.{joined_of, raised_of}
use Rattle.fletcher.proofs.Laws.{words_add, words_length, words_same, fletcher_part}
use Rattle.fletcher.proofs.Join.{made_of_checksums}
use Rattle.reply.specs.Reply.{given}
use Rattle.directory.specs.Directory.{psp_kind, total_at, checksum_at}
use Rattle.build.specs.declared.Fields.{Fields}
use Rattle.build.specs.Write.{entry_bytes, lengthened, extended_by}
use Rattle.build.proofs.Places.{length_entry_bytes}
use Rattle.build.proofs.Cases.{part_put}

-- the words that the checksum of n entries is taken over begin with the total's two
head_words : (n : ℕ) (s : List ℕ) → words_at (4 + n * 8) s 8 ≡ le_at 2 s 8 ∷ le_at 2 s 10 ∷ words_at (2 + n * 8) s 12
unfolding words_at
head_words n s = let e : 4 + n * 8 ≡ suc (suc (2 + n * 8)) = omega arith in rw e

module _ (f : Fields) (s : List ℕ) (n : ℕ) (few : n < 512) (room : 16 + n * 16 + 16 ≤ length s) where
  abbrev entered : List ℕ
  entered = put_bytes (entry_bytes f) s (16 + n * 16)

  abbrev longer : List ℕ
  longer = put_at 4 (n + 1) entered 8

  long : length longer ≡ length s
  long = put_long (le_bytes 4 (n + 1)) entered 8 ∙ put_long (entry_bytes f) s (16 + n * 16)

  four : 8 + length (le_bytes 4 (n + 1)) ≤ length entered
  four = omega (arith, length_le_bytes 4 (n + 1), put_long (entry_bytes f) s (16 + n * 16))

  -- what stands between the total and the entry is kept
  kept : (j : ℕ) → 12 ≤ j → j < 12 + (2 + n * 8) * 2 → get_or longer j 0 ≡ get_or s j 0
  kept j a b =
      byte_after (le_bytes 4 (n + 1)) entered 8 four j (omega (arith, length_le_bytes 4 (n + 1)))
      ∙ byte_before (entry_bytes f) s (16 + n * 16) (omega (arith, length_entry_bytes f)) j (omega arith)

  abbrev rest : List ℕ
  rest = words_at (2 + n * 8) s 12

  words_then : words_at (4 + n * 8) longer 8 ≡ (n + 1) ∷ 0 ∷ rest
  unfolding le_at le_bytes
  words_then =
      let byte : (i : ℕ) → i < 4 → get_or longer (8 + i) 0 ≡ get_or (le_bytes 4 (n + 1)) i 0 = λ i h. byte_same (le_bytes 4 (n + 1)) entered 8 four i h in
      let one : le_at 2 longer 8 ≡ n + 1 = omega (arith, byte 0 (omega arith), byte 1 (omega arith)) in
      let two : le_at 2 longer 10 ≡ 0 = omega (arith, byte 2 (omega arith), byte 3 (omega arith)) in
      head_words n longer ∙ rw (one, two, words_same (2 + n * 8) longer s 12 kept)

  module _ (number : total_at s 0 ≡ n) where
    words_now : words_at (4 + n * 8) s 8 ≡ n ∷ 0 ∷ rest
    words_now =
        let one : le_at 2 s 8 ≡ n = omega (arith, le_split 2 2 s 8) in
        let two : le_at 2 s 10 ≡ 0 = omega (arith, le_split 2 2 s 8) in
        head_words n s ∙ rw (one, two)

    -- the old checksum with the total one larger, then the entry's words
    renewed : joined_of (raised_of (checksum_at psp_kind s 0 n) (4 + n * 8)) 8 (fletcher_of (take 16 (drop (16 + n * 16) longer))) ≡ checksum_at psp_kind longer 0 (n + 1)
    renewed =
        let at = 16 + n * 16 in
        let made = made_of_checksums in
        let now : checksum_at psp_kind s 0 n ≡ field_of (n ∷ 0 ∷ rest) = fletcher_part (4 + n * 8) s 8 (8 + n * 16) (omega arith) (omega arith) ∙ ap field_of words_now in
        let weight : length (n ∷ 0 ∷ rest) ≡ 4 + n * 8 = omega (arith, words_length (2 + n * 8) s 12) in
        let raised : raised_of (checksum_at psp_kind s 0 n) (4 + n * 8) ≡ field_of (words_at (4 + n * 8) longer 8) =
        ap (λ (k : ℕ). raised_of k (4 + n * 8)) now ∙ ap (raised_of (field_of (n ∷ 0 ∷ rest))) (sym weight) ∙ made.raised n (0 ∷ rest) ∙ ap field_of (sym words_then) in
        let entry : fletcher_of (take 16 (drop at longer)) ≡ field_of (words_at 8 longer at) = fletcher_part 8 longer at 16 refl (omega (arith, long)) in
        let count : 4 + n * 8 + 8 ≡ 4 + (n + 1) * 8 = omega arith in
        let place : 8 + (4 + n * 8) * 2 ≡ at = omega arith in
        let all : words_at (4 + n * 8) longer 8 ++ words_at 8 longer at ≡ words_at (4 + (n + 1) * 8) longer 8 =
        sym (ap (λ (m : ℕ). words_at m longer 8) (sym count) ∙ words_add (4 + n * 8) 8 longer 8 ∙ ap (λ (o : ℕ). words_at (4 + n * 8) longer 8 ++ words_at 8 longer o) place) in
        rw (raised, entry)
        (ap (λ (k : ℕ). joined_of (field_of (words_at (4 + n * 8) longer 8)) k (field_of (words_at 8 longer at))) (sym (words_length 8 longer at))
        ∙ made.joined (words_at (4 + n * 8) longer 8) (words_at 8 longer at)
        ∙ ap field_of all ∙ sym (fletcher_part (4 + (n + 1) * 8) longer 8 (8 + (n + 1) * 16) (omega arith) (omega (arith, long))))

-- an entry through a part, the total, and the checksum that is made of the old one
pub append_put : (f : Fields) (s ys t u : List ℕ) (total at old words before entry sum : ℕ) → 1 ≤ total → total ≤ 512 → 16 + total * 16 ≤ length s → at ≡ 16 + (total - 1) * 16 →
    total_at s 0 ≡ total - 1 → le_at 4 s 4 ≡ checksum_at psp_kind s 0 (total - 1) →
    old ≡ le_at 4 s 4 → words ≡ 4 + (total - 1) * 8 → before ≡ raised_of old words →
    ys ≡ put_bytes (entry_bytes f) (take (length s - at) (drop at s)) 0 →
    t ≡ put_at 4 total (take at s ++ (ys ++ drop (length s - at) (drop at s))) 8 →
    entry ≡ fletcher_of (take (at + 16 - at) (drop at t)) → sum ≡ joined_of before 8 entry → u ≡ put_at 4 sum t 4 → u ≡ extended_by f s (given total)
append_put f s ys t u total at old words before entry sum one most room place number checksum is-old is-words is-before part whole is-entry is_sum field =
    let n = total - 1 in
    let next : n + 1 ≡ total = omega arith in
    let entered : take at s ++ (ys ++ drop (length s - at) (drop at s)) ≡ put_bytes (entry_bytes f) s (16 + n * 16) =
    part_put (entry_bytes f) s ys at (omega (arith, length_entry_bytes f)) part ∙ ap (put_bytes (entry_bytes f) s) place in
    let longer : t ≡ lengthened f s total = whole ∙ ap (λ (x : List ℕ). put_at 4 total x 8) entered in
    let sixteen : at + 16 - at ≡ 16 = omega arith in
    let renew = renewed f s n (omega arith) (omega arith) number in
    let is : sum ≡ checksum_at psp_kind (lengthened f s total) 0 total =
    is_sum ∙ rw (is-before, is-old, is-words, checksum, is-entry, sixteen, place, longer) (rw next at renew) in
    field ∙ rw (is, longer)

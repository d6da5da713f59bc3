-- What each row of writes comes to. Assumes nothing.
use mathlib.Core.Path.{◌≡◌, sym, ap, ◌∙◌}
use mathlib.Core.List.{List, [], ◌++◌, append_assoc, append-nil}
use Prim.Native.Nat.{ℕ, ◌+◌, ◌*◌, ◌-◌, ◌^◌, ◌≤◌}
use native.Mathlib.Nat.{zero-add}
use native.Mathlib.Omega.{arith}
use lib.ListN.{length, take, drop, length-drop, drop_of_length-le}
use lib.Seq.{take_all, drop-drop}
use Rattle.le.specs.Le.{le_at, le_bytes, put_bytes, put_at, bytes_of}
use Rattle.le.proofs.Put.{put_some}
use Rattle.le.proofs.Numbers.{puts_all}
use Rattle.fletcher.specs.Fletcher.{words_at, sum_of, weighted_of, fletcher_of}
use Rattle.reply.specs.Reply.{given}
use Rattle.directory.specs.Directory.{psp_kind, cookie_of}
use Rattle.directory.specs.declared.Kind.{Kind}
use Rattle.build.specs.declared.Fields.{Fields}
use Rattle.build.specs.Write.{entry_fields, entry_bytes, entries_bytes, header_fields, directory_bytes, started_by}
use Rattle.build.proofs.Places.{entry_numbers}

-- a header's four numbers, written in order
pub header_put : (kind : Kind) (level cookie : ℕ) (s t u v w : List ℕ) → 16 ≤ length s → kind ≡ psp_kind → cookie ≡ cookie_of kind level →
    t ≡ put_at 4 cookie s 0 → u ≡ put_at 4 0xFFFF_FFFF t 4 → v ≡ put_at 4 0 u 8 → w ≡ put_at 4 0 v 12 → w ≡ started_by level s (given 0)
unfolding le_at le_bytes bytes_of words_at sum_of weighted_of fletcher_of entries_bytes directory_bytes
header_put kind level cookie s t u v w h psp k e1 e2 e3 e4 =
    let written = puts_all (header_fields cookie 0xFFFF_FFFF 0) s 0 h in
    let whole : w ≡ put_bytes (bytes_of (header_fields cookie 0xFFFF_FFFF 0)) s 0 = cc in
    whole ∙ ap (λ (x : ℕ). put_bytes (bytes_of (header_fields x 0xFFFF_FFFF 0)) s 0) (k ∙ ap (λ (kind : Kind). cookie_of kind level) psp)

-- an entry's five numbers, written in order
pub entry_put : (f : Fields) (s t u v w x : List ℕ) → 16 ≤ length s →
    t ≡ put_at 1 f.class s 0 → u ≡ put_at 1 f.subprogram t 1 → v ≡ put_at 2 0 u 2 → w ≡ put_at 4 f.size v 4 → x ≡ put_at 8 (f.location + f.mode * 2 ^ 62) w 8 →
    x ≡ put_bytes (entry_bytes f) s 0
unfolding le_bytes bytes_of
entry_put f s t u v w x h e1 e2 e3 e4 e5 =
    let written = puts_all (entry_fields f) s 0 h in
    let is = entry_numbers f in
    cc

-- a part to the buffer's end, lent to a writer at its start, is the buffer written in its middle
pub part_put : (vs s ys : List ℕ) (at : ℕ) → at + length vs ≤ length s → ys ≡ put_bytes vs (take (length s - at) (drop at s)) 0 →
    take at s ++ (ys ++ drop (length s - at) (drop at s)) ≡ put_bytes vs s at
part_put vs s ys at h e =
    let l : length (drop at s) ≡ length s - at = length-drop at s in
    let all : take (length s - at) (drop at s) ≡ drop at s = take_all (length s - at) (drop at s) (omega arith) in
    let behind : drop (length s - at) (drop at s) ≡ [] = drop_of_length-le (drop at s) {i = length s - at} (omega arith) in
    let put : ys ≡ vs ++ drop (at + length vs) s =
    e ∙ ap (λ (x : List ℕ). put_bytes vs x 0) all ∙ put_some vs (drop at s) 0 (omega arith)
    ∙ ap (λ (k : ℕ). vs ++ drop k (drop at s)) (zero-add (length vs)) ∙ ap (λ (x : List ℕ). vs ++ x) (drop-drop (length vs) at s) in
    rw (behind, append-nil, put) (sym (append_assoc (take at s) vs (drop (at + length vs) s)) ∙ sym (put_some vs s at h))

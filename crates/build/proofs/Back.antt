-- Both round trips. Assumes nothing.
use mathlib.Core.Path.{◌≡◌, sym, ap, subst, ◌∙◌}
use mathlib.Core.Logic.{◌⊎◌}
use mathlib.Core.List.{List, [], ◌∷◌, ◌++◌}
use Prim.Native.Nat.{ℕ, ◌+◌, ◌*◌, ◌≤◌}
use native.Mathlib.Omega.{arith}
use lib.ListN.{length, take, drop, length-drop, take-append-drop}
use lib.Seq.{drop-drop}
use Rattle.le.specs.Le.{put_bytes, Bytes}
use Rattle.le.proofs.Put.{put_front}
use Rattle.reply.specs.Reply.{Reply, given, then}
use Rattle.reply.specs.Scan.{All}
use Rattle.reply.proofs.ReplyLaws.{then_given}
use Rattle.directory.specs.Directory.{psp_kind, entry_place, directory_of, directory_by_cookie}
use Rattle.directory.specs.Good.{GoodDirectory}
use Rattle.directory.specs.declared.Directory.{Directory}
use Rattle.directory.proofs.Accept.{cookie_acceptance}
use Rattle.build.specs.declared.Fields.{Fields}
use Rattle.build.specs.Write.{directory_bytes, start_of, started_by, extend_of, extended_by}
use Rattle.build.specs.Back.{Sized, entries_of, Holds, extend_all, build_of, Buildable, BuildAcceptance, ReadBack, WrittenAgain}
use Rattle.build.proofs.Accept.{start_only, start_all}
use Rattle.build.proofs.Places.{length_directory}
use Rattle.build.proofs.Grow.{Sound, holds, step_only, grown, grows}
use Rattle.build.proofs.Accepted.{told_in, length_from, directory_bytes_lem, told_sound}

-- no entries
empty : (level : ℕ) → (level ≡ 1) ⊎ (level ≡ 2) → Sound level []
empty level either = record { either = either; few = omega arith; sized = tt; fits = tt; apart = λ i j h l same. let z : ⊥ = omega arith in z }

-- what a start leaves
started_bytes : (level : ℕ) (s : List ℕ) → 16 ≤ length s → put_bytes (directory_bytes level []) s 0 ≡ directory_bytes level [] ++ drop 16 s
started_bytes level s room = put_front (directory_bytes level []) s 16 (length_directory level []) room

started : (level : ℕ) (s : List ℕ) (total : ℕ) → start_of level s ≡ given total → Holds level [] (started_by level s (given total))
started level s total e =
    let x = (start_only level s total e).0 in
    rw (started_bytes level s x.room) (holds level [] (empty level x.either) (drop 16 s))

-- what all extends leave, written at once
whole_bytes : (level : ℕ) (fs : List Fields) (s : List ℕ) → 16 + length fs * 16 ≤ length s → directory_bytes level fs ++ drop (length fs * 16) (drop 16 s) ≡ put_bytes (directory_bytes level fs) s 0
whole_bytes level fs s room =
    ap (λ (r : List ℕ). directory_bytes level fs ++ r) (drop-drop (length fs * 16) 16 s) ∙ sym (put_front (directory_bytes level fs) s (16 + length fs * 16) (length_directory level fs) room)

-- a build that is accepted
built_only : (level : ℕ) (fs : List Fields) (s t : List ℕ) → All Sized fs → build_of level fs s ≡ given t →
    Sound level fs × (16 + length fs * 16 ≤ length s) × (t ≡ directory_bytes level fs ++ drop (length fs * 16) (drop 16 s))
built_only level fs s t sized e =
    let x = then_given (start_of level s) (λ total. extend_all fs (started_by level s (given total))) e in
    let g = (start_only level s x.0 x.1).0 in
    let room = g.room in
    let y = grown level fs [] (drop 16 s) t (empty level g.either) sized (ap (extend_all fs) (sym (started_bytes level s room)) ∙ x.2) in
    (y.0, omega (arith, y.1, length-drop 16 s), y.2)

build_only : (level : ℕ) (fs : List Fields) (s t : List ℕ) → All Sized fs → build_of level fs s ≡ given t → Buildable level fs s
build_only level fs s t sized e =
    let x = built_only level fs s t sized e in
    record { either = x.0.either; few = x.0.few; fits = x.0.fits; apart = x.0.apart; room = x.1 }

build_all : (level : ℕ) (fs : List Fields) (s : List ℕ) → All Sized fs → Buildable level fs s → build_of level fs s ≡ given (put_bytes (directory_bytes level fs) s 0)
build_all level fs s sized g =
    let room = g.room in
    ap (λ (x : Reply ℕ). then x (λ total. extend_all fs (started_by level s (given total)))) (start_all level s (record { either = g.either; room = omega arith }))
    ∙ ap (extend_all fs) (started_bytes level s (omega arith))
    ∙ grows level fs [] (drop 16 s) (empty level g.either) sized g.fits g.apart (omega (arith, g.few)) (omega (arith, length-drop 16 s)) ∙ ap given (whole_bytes level fs s room)

pub build_acceptance : BuildAcceptance
build_acceptance = record { only = build_only; all = build_all }

built : (level : ℕ) (fs : List Fields) (s t : List ℕ) → All Sized fs → build_of level fs s ≡ given t → Holds level fs t
built level fs s t sized e =
    let x = built_only level fs s t sized e in
    subst (Holds level fs) (sym x.2) (holds level fs x.0 (drop (length fs * 16) (drop 16 s)))

-- a directory that was accepted stands at the buffer's start, and is good
found_at : (s : List ℕ) (d : Directory) → directory_by_cookie psp_kind 512 s 0 ≡ given d → (P : Directory → Type 0) →
    ((level n : ℕ) → GoodDirectory psp_kind 512 s (directory_of 0 level n) → P (directory_of 0 level n)) → P d
found_at s d found P h =
    let g = cookie_acceptance.only psp_kind 512 s 0 d found in
    let at : directory_of 0 d.level d.total ≡ d = ap (λ (o : ℕ). directory_of o d.level d.total) (sym g.1) in
    subst P at (h d.level d.total (subst (GoodDirectory psp_kind 512 s) (sym at) g.0))

extended : (f : Fields) (s : List ℕ) (d : Directory) (total : ℕ) → Bytes s → Sized f → directory_by_cookie psp_kind 512 s 0 ≡ given d → extend_of f s ≡ given total →
    Holds d.level (entries_of s d ++ (f ∷ [])) (extended_by f s (given total))
extended f s d total bytes sized found e = found_at s d found (λ d. Holds d.level (entries_of s d ++ (f ∷ [])) (extended_by f s (given total))) (λ level n good.
    let told = told_in s level n in
    let rest = drop (16 + n * 16) s in
    let whole : directory_bytes level told ++ rest ≡ s = ap (λ (x : List ℕ). x ++ rest) (directory_bytes_lem s bytes level n good) ∙ take-append-drop (16 + n * 16) s in
    let x = step_only level told f rest total (told_sound s bytes level n good) sized (ap (extend_of f) whole ∙ e) in
    subst (Holds level (told ++ (f ∷ []))) (sym x.2 ∙ ap (λ (y : List ℕ). extended_by f y (given total)) whole) (holds level (told ++ (f ∷ [])) x.0 (drop 16 rest)))

pub read_back : ReadBack
read_back = record { started = started; extended = extended; built = built }

bytes_same : (s : List ℕ) (d : Directory) → Bytes s → directory_by_cookie psp_kind 512 s 0 ≡ given d → take (entry_place psp_kind 0 d.total) s ≡ directory_bytes d.level (entries_of s d)
bytes_same s d bytes found =
    found_at s d found (λ d. take (entry_place psp_kind 0 d.total) s ≡ directory_bytes d.level (entries_of s d)) (λ level n good. sym (directory_bytes_lem s bytes level n good))

again : (s buffer : List ℕ) (d : Directory) → Bytes s → directory_by_cookie psp_kind 512 s 0 ≡ given d → entry_place psp_kind 0 d.total ≤ length buffer →
    build_of d.level (entries_of s d) buffer ≡ given (take (entry_place psp_kind 0 d.total) s ++ drop (entry_place psp_kind 0 d.total) buffer)
again s buffer d bytes found = found_at s d found
    (λ d. entry_place psp_kind 0 d.total ≤ length buffer → build_of d.level (entries_of s d) buffer ≡ given (take (entry_place psp_kind 0 d.total) s ++ drop (entry_place psp_kind 0 d.total) buffer))
    (λ level n good room.
    let told = told_in s level n in
    let long : length told ≡ n = length_from s (directory_of 0 level n) n 0 in
    let sound = told_sound s bytes level n good in
    build_all level told buffer sound.sized
    (record { either = good.level; few = sound.few; fits = sound.fits; apart = sound.apart; room = omega arith })
    ∙ ap given (put_front (directory_bytes level told) buffer (16 + n * 16) (length_directory level told ∙ ap (λ (k : ℕ). 16 + k * 16) long) room
    ∙ ap (λ (x : List ℕ). x ++ drop (16 + n * 16) buffer) (directory_bytes_lem s bytes level n good)))

pub written_again : WrittenAgain
written_again = record { bytes = bytes_same; again = again }

-- A directory of an image, written again. Assumes nothing.
use mathlib.Core.Path.{◌≡◌, refl, sym, ap, subst, ◌∙◌}
use mathlib.Core.List.{List, ◌∷◌, ◌++◌}
use Prim.Native.Nat.{ℕ, zero, suc, ◌+◌, ◌≤◌}
use native.Mathlib.Omega.{arith}
use lib.ListN.{length, drop}
use lib.Seq.{get_or-drop}
use Rattle.le.specs.Le.{Bytes}
use Rattle.reply.specs.Reply.{given, in_entry, met}
use Rattle.reply.proofs.ReplyLaws.{then_given}
use Rattle.directory.specs.Directory.{psp_kind, directory_of, directory_at, directory_by_cookie}
use Rattle.directory.specs.Good.{GoodDirectory}
use Rattle.directory.specs.declared.Kind.{Kind}
use Rattle.directory.specs.declared.Directory.{Directory}
use Rattle.directory.proofs.Accept.{acceptance, cookie_acceptance}
use Rattle.entries.specs.Entry.{lead_in}
use Rattle.entries.specs.Part.{leads_to}
use Rattle.entries.specs.declared.Entry.{Entry}
use Rattle.efs.specs.Efs.{pointer_in}
use Rattle.efs.specs.declared.Rules.{Rules}
use Rattle.flash.specs.Flash.{level_two_at, flash_directory}
use Rattle.flash.proofs.Ways.{Opened, one, two, opened}
use Rattle.build.specs.declared.Fields.{Fields}
use Rattle.build.specs.Write.{directory_bytes}
use Rattle.build.specs.Back.{fields_of, entries_from, entries_of, Holds, build_of}
use Rattle.build.proofs.Grow.{holds}
use Rattle.build.proofs.Accepted.{length_from, told_sound}
use Rattle.build.proofs.Back.{written_again}
use Rattle.build_again.specs.Again.{from_start, told_from_start, length_of, bytes_in, WrittenAgain, PspRules, AcceptedAgain}
use Rattle.build_again.proofs.Moved.{directory_same, entry_same}

-- the entries of a directory, read where it stands and read at the start of the bytes from there on
entries_same : (s : List ℕ) (d : Directory) (m i : ℕ) → entries_from (drop d.place.0 s) (from_start d) m i ≡ entries_from s d m i
unfolding entries_from
entries_same s d zero i = refl
entries_same s d (suc m) i = λ j. fields_of (entry_same psp_kind s d i j) ∷ entries_same s d m (i + 1) j

-- a directory that was accepted where it stands
module _ (image : List ℕ) (d : Directory) (bytes : Bytes image) (e : directory_at psp_kind 512 d.level image d.place.0 ≡ given d) where
  -- the bytes from there on
  abbrev rest : List ℕ
  rest = drop d.place.0 image

  rest_bytes : Bytes rest
  rest_bytes i = rw (get_or-drop d.place.0 image i 0) (bytes (d.place.0 + i))

  good : GoodDirectory psp_kind 512 rest (from_start d)
  good = (acceptance.only psp_kind 512 d.level rest 0 (from_start d) (directory_same psp_kind image d.place.0 512 d.level ∙ ap told_from_start e)).0

  found : directory_by_cookie psp_kind 512 rest 0 ≡ given (from_start d)
  found = cookie_acceptance.all psp_kind 512 rest (from_start d) (λ e. omega arith) good

  told : entries_of rest (from_start d) ≡ entries_of image d
  told = entries_same image d d.total 0

  same_bytes : bytes_in image d ≡ directory_bytes d.level (entries_of image d)
  same_bytes = written_again.bytes rest (from_start d) rest_bytes found ∙ ap (directory_bytes d.level) told

  again : (buffer : List ℕ) → length_of d ≤ length buffer → build_of d.level (entries_of image d) buffer ≡ given (bytes_in image d ++ drop (length_of d) buffer)
  again buffer room = ap (λ (fs : List Fields). build_of d.level fs buffer) (sym told) ∙ written_again.again rest buffer (from_start d) rest_bytes found room

  read_back : (behind : List ℕ) → Holds d.level (entries_of image d) (bytes_in image d ++ behind)
  read_back behind =
      subst (λ (s : List ℕ). Holds d.level (entries_of image d) (s ++ behind)) (sym same_bytes)
      (subst (λ (fs : List Fields). Holds d.level fs (directory_bytes d.level fs ++ behind)) told
      (holds d.level (entries_of rest (from_start d)) (told_sound rest rest_bytes d.level d.total good) behind))

  long : length (entries_of image d) ≡ d.total
  long = length_from image d d.total 0

  written : WrittenAgain image d
  written = record {
    bytes = same_bytes;
    again = again;
    back = λ behind. (read_back behind).good ∙ ap (λ (n : ℕ). given (directory_of 0 d.level n)) long;
    entries = λ behind. ap (λ (n : ℕ). entries_of (bytes_in image d ++ behind) (directory_of 0 d.level n)) (sym long) ∙ (read_back behind).entries;
  }

at : (level : ℕ) (image : List ℕ) (o : ℕ) (d : Directory) → Bytes image → directory_at psp_kind 512 level image o ≡ given d →
    (d.place.0 ≡ o) × (d.level ≡ level) × WrittenAgain image d
at level image o d bytes e =
    let g = acceptance.only psp_kind 512 level image o d e in
    let here : directory_at psp_kind 512 d.level image d.place.0 ≡ given d =
    ap (λ (l : ℕ). directory_at psp_kind 512 l image d.place.0) g.2 ∙ ap (directory_at psp_kind 512 level image) g.1 ∙ e in
    (g.1, g.2, written image d bytes here)

by_cookie : (image : List ℕ) (o : ℕ) (d : Directory) → Bytes image → directory_by_cookie psp_kind 512 image o ≡ given d → (d.place.0 ≡ o) × WrittenAgain image d
by_cookie image o d bytes e =
    let g = cookie_acceptance.only psp_kind 512 image o d e in
    (g.1, written image d bytes (acceptance.all psp_kind 512 image d g.0))

-- a directory that is given within a limit is given within a higher one
wider : (kind : Kind) (limit higher level : ℕ) (image : List ℕ) (o : ℕ) (d : Directory) → limit ≤ higher → directory_at kind limit level image o ≡ given d → directory_at kind higher level image o ≡ given d
wider kind limit higher level image o d h e =
    let g = acceptance.only kind limit level image o d e in
    let few : d.total ≤ limit = g.0.few in
    let good : GoodDirectory kind higher image d = record {
      level = g.0.level;
      cookie = g.0.cookie;
      total = g.0.total;
      few = omega arith;
      present = g.0.present;
      checksum = g.0.checksum;
      reserved = g.0.reserved;
      entries = g.0.entries;
      first = g.0.first;
    } in
    ap (λ (l : ℕ). directory_at kind higher l image o) (sym g.2) ∙ ap (directory_at kind higher d.level image) (sym g.1) ∙ acceptance.all kind higher image d good

module _ (r : Rules) (image : List ℕ) (psp : PspRules r) (bytes : Bytes image) where
  by_rules : (level o : ℕ) (d : Directory) → directory_at r.kind r.limit level image o ≡ given d → (d.level ≡ level) × WrittenAgain image d
  by_rules level o d e =
      let a = at level image o d bytes (wider psp_kind r.limit 512 level image o d psp.limit (ap (λ (kind : Kind). directory_at kind r.limit level image o) (sym psp.kind) ∙ e)) in
      (a.1, a.2)

  led : (above : Directory) (i : ℕ) (e : Entry) (d : Directory) → level_two_at r image above i e ≡ given d → (d.level ≡ 2) × WrittenAgain image d
  led above i e d q =
      let t = then_given (met (in_entry above.level i above.place.0) (leads_to r.window image above.place.0 e)) (λ p. directory_at r.kind r.limit 2 image p.0) q in
      by_rules 2 t.0.0 d t.2

  flash : (level : ℕ) (d : Directory) → flash_directory r level image ≡ given d → (d.level ≡ level) × WrittenAgain image d
  flash level d e = by (opened r image d level e).1
    where
      by : {l : ℕ} → Opened r image d l → (d.level ≡ l) × WrittenAgain image d
      by (one q) =
          let t = then_given (pointer_in r image) (λ p. directory_at r.kind r.limit 1 image p.place.0) q in
          by_rules 1 t.0.place.0 d t.2
      by (two above a q) =
          let t = then_given (lead_in r.kind image above) (λ l. level_two_at r image above l.index l.entry) q in
          led above t.0.index t.0.entry d t.2

pub accepted_again : AcceptedAgain
accepted_again = record {
  at = at;
  by_cookie = by_cookie;
  flash = λ r level image d psp bytes. flash r image psp bytes level d;
  led = λ r image above i e d psp bytes. led r image psp bytes above i e d;
  rules = λ image. record { kind = refl; limit = omega arith };
}

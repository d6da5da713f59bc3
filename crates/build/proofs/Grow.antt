-- A directory's bytes hold what they were made of, and extends make them longer. Assumes nothing.
use mathlib.Core.Path.{◌≡◌, refl, sym, ap, subst, ◌∙◌}
use mathlib.Core.Logic.{◌⊎◌}
use mathlib.Core.List.{List, [], ◌∷◌, ◌++◌, append_assoc, append-nil}
use mathlib.Core.Bool.{Bool, true, false}
use Prim.Native.Nat.{ℕ, zero, suc, ◌+◌, ◌*◌, ◌/◌, ◌<◌, ◌≤◌}
use native.Mathlib.Nat.{zero-add}
use native.Mathlib.Omega.{arith}
use lib.ListN.{length, get_or, drop, length-append, length-drop, get_or-append}
use lib.Seq.{drop-drop, append_snoc, get_or_at, get_or-append_seam}
use lib.Dec.{ltb}
use borrow.Author.Tests.{ltb-true, ltb-false}
use Rattle.le.specs.Le.{le_at, le_bytes, bytes_of}
use Rattle.fletcher.specs.Fletcher.{fletcher_of}
use Rattle.fletcher.proofs.Laws.{fletcher_small}
use Rattle.reply.specs.Reply.{Reply, given, then}
use Rattle.reply.specs.Scan.{All}
use Rattle.reply.proofs.ReplyLaws.{then_given}
use Rattle.directory.specs.Directory.{psp_kind, cookie_of, directory_of, directory_by_cookie}
use Rattle.entries.specs.Entry.{fields_at, entry_of}
use Rattle.directory.specs.Good.{GoodDirectory}
use Rattle.entries.specs.Good.{Matches}
use Rattle.directory.specs.declared.Directory.{Directory}
use Rattle.directory.proofs.Accept.{cookie_acceptance}
use Rattle.build.specs.declared.Fields.{Fields}
use Rattle.build.specs.Write.{entry_bytes, entries_bytes, header_fields, summed_bytes, directory_bytes, extend_of, extended_by}
use Rattle.build.specs.Accept.{Fits}
use Rattle.build.specs.Back.{Sized, blank, Same, Apart, fields_of, entries_from, Holds, extend_all}
use Rattle.build.proofs.Accept.{extend_only, extend_all_lem}
use Rattle.build.proofs.Places.{length_entry_bytes, headed_reads, cookie_small, directory_headed, length_directory, directory_summed, extended_bytes, entry_behind}

-- what holds of each holds of one, and of two lists together
all_at : (P : Fields → Type 0) (fs : List Fields) (i : ℕ) → All P fs → i < length fs → P (get_or fs i blank)
all_at P [] i ps h = absurd (let z : ⊥ = omega arith in z)
all_at P (f ∷ fs) zero ps h = ps.0
all_at P (f ∷ fs) (suc i) ps h = all_at P fs i ps.1 (omega arith)

all_more : (P : Fields → Type 0) (gs fs : List Fields) → All P gs → All P fs → All P (gs ++ fs)
all_more P [] fs ps qs = qs
all_more P (g ∷ gs) fs ps qs = (ps.0, all_more P gs fs ps.1 qs)

-- entries that a directory of this level may hold
pub record Sound (level : ℕ) (fs : List Fields) : Type 0 where
  pub either : (level ≡ 1) ⊎ (level ≡ 2)
  pub few : length fs ≤ 512
  pub sized : All Sized fs
  pub fits : All (Fits level) fs
  pub apart : Apart fs

-- the entry at e is f, with reserved bits zero
abbrev Stands : Fields → List ℕ → ℕ → Type 0
Stands f s e = (fields_of (fields_at s e) ≡ f) × (le_at 2 s (e + 2) ≡ 0)

-- of entries behind p, each stands at its place
stands : (level : ℕ) (fs : List Fields) (p r : List ℕ) (j e : ℕ) → length p ≡ e → All Sized fs → All (Fits level) fs → j < length fs → Stands (get_or fs j blank) (p ++ (entries_bytes fs ++ r)) (e + j * 16)
unfolding entries_bytes
stands level [] p r j e at zs ws h = absurd (let z : ⊥ = omega arith in z)
stands level (f ∷ fs) p r zero e at (z, zs) (w, ws) h =
    let here : e + 0 * 16 ≡ e = omega arith in
    rw (here, append_assoc (entry_bytes f) (entries_bytes fs) r) (entry_behind f p (entries_bytes fs ++ r) e at z w.location w.mode)
stands level (f ∷ fs) p r (suc j) e at (z, zs) (w, ws) h =
    let there : e + suc j * 16 ≡ e + 16 + j * 16 = omega arith in
    let shape : p ++ (entry_bytes f ++ entries_bytes fs ++ r) ≡ p ++ entry_bytes f ++ (entries_bytes fs ++ r) = simp append_assoc in
    rw (there, shape) (stands level fs (p ++ entry_bytes f) r j (e + 16) (length-append p (entry_bytes f) ∙ omega (arith, length_entry_bytes f)) zs ws (omega arith))

-- entries that read as fs, one by one, read as fs
entries_read : (s : List ℕ) (d : Directory) (fs : List Fields) (i : ℕ) → ((j : ℕ) → j < length fs → fields_of (entry_of psp_kind s d (i + j)) ≡ get_or fs j blank) → entries_from s d (length fs) i ≡ fs
unfolding entries_from
entries_read s d [] i h = refl
entries_read s d (f ∷ fs) i h =
    let zero_more : i + 0 ≡ i = omega arith in
    let here : fields_of (entry_of psp_kind s d i) ≡ f = ap (λ (k : ℕ). fields_of (entry_of psp_kind s d k)) (sym zero_more) ∙ h 0 (omega arith) in
    let later : entries_from s d (length fs) (i + 1) ≡ fs =
    entries_read s d fs (i + 1) (λ j l. ap (λ (k : ℕ). fields_of (entry_of psp_kind s d k)) (omega arith) ∙ h (suc j) (omega arith)) in
    λ k. here k ∷ later k

module _ (level : ℕ) (fs : List Fields) (sound : Sound level fs) (r : List ℕ) where
  at : (i : ℕ) → i < length fs → Stands (get_or fs i blank) (directory_bytes level fs ++ r) (16 + i * 16)
  unfolding bytes_of le_bytes
  at i h =
      rw (directory_headed level fs r)
      (stands level fs (bytes_of (header_fields (cookie_of psp_kind level) (fletcher_of (summed_bytes fs)) (length fs))) r i 16 refl sound.sized sound.fits h)

  pub good : GoodDirectory psp_kind 512 (directory_bytes level fs ++ r) (directory_of 0 level (length fs))
  good =
      let c = cookie_of psp_kind level in
      let k = fletcher_of (summed_bytes fs) in
      let n = length fs in
      let few = sound.few in
      let rest = entries_bytes fs ++ r in
      let shape = directory_headed level fs r in
      let reads = headed_reads c k n rest (cookie_small level) (fletcher_small (summed_bytes fs)) (omega arith) in
      record {
        level = sound.either;
        cookie = rw shape reads.0;
        total = rw shape reads.1.1.0;
        few = few;
        present = omega (arith, length-append (directory_bytes level fs) r, length_directory level fs);
        checksum = rw shape (reads.1.0 ∙ sym (directory_summed level fs k r));
        reserved = rw shape reads.1.1.1.0;
        entries = λ i h. record {
          reserved = ap (λ (x : ℕ). x / 1) (at i h).1;
          may_stand_lem = λ l e. (all_at (Fits level) fs i sound.fits h).may_stand_lem l (sym (ap (λ (f : Fields). f.class) (at i h).0) ∙ e);
        };
        first = λ i h no j l a.
            let here = (at i h).0 in
            let there = (at j (omega arith)).0 in
            sound.apart i j h l (
              sym (ap (λ (f : Fields). f.class) there) ∙ a.0 ∙ ap (λ (f : Fields). f.class) here,
              sym (ap (λ (f : Fields). f.subprogram) there) ∙ a.1 ∙ ap (λ (f : Fields). f.subprogram) here,
            );
      }

  pub holds : Holds level fs (directory_bytes level fs ++ r)
  holds = record {
    good = cookie_acceptance.all psp_kind 512 (directory_bytes level fs ++ r) (directory_of 0 level (length fs)) (λ e. omega arith) good;
    entries = entries_read (directory_bytes level fs ++ r) (directory_of 0 level (length fs)) fs 0 (λ j h. ap (λ (k : ℕ). fields_of (fields_at (directory_bytes level fs ++ r) (16 + k * 16))) (zero-add j) ∙ (at j h).0);
  }

  -- an entry at its place has the type and subprogram that it was made of
  pub at_same : (f : Fields) (i : ℕ) → i < length fs → Matches psp_kind (directory_bytes level fs ++ r) (directory_of 0 level (length fs)) f.class f.subprogram i → Same (get_or fs i blank) f
  at_same f i h m = (sym (ap (λ (f : Fields). f.class) (at i h).0) ∙ m.0, sym (ap (λ (f : Fields). f.subprogram) (at i h).0) ∙ m.1)

  pub same_at : (f : Fields) (i : ℕ) → i < length fs → Same (get_or fs i blank) f → Matches psp_kind (directory_bytes level fs ++ r) (directory_of 0 level (length fs)) f.class f.subprogram i
  same_at f i h m = (ap (λ (f : Fields). f.class) (at i h).0 ∙ m.0, ap (λ (f : Fields). f.subprogram) (at i h).0 ∙ m.1)

-- an entry that none of these is like
abbrev New : List Fields → Fields → Type 0
New gs f = (j : ℕ) → j < length gs → Same (get_or gs j blank) f → ⊥

more_apart : (gs : List Fields) (f : Fields) → Apart gs → New gs f → Apart (gs ++ (f ∷ []))
more_apart gs f apart new i j h l same = by (ltb i (length gs)) refl
  where
    long : length (gs ++ (f ∷ [])) ≡ length gs + 1
    long = length-append gs (f ∷ [])

    by : (b : Bool) → ltb i (length gs) ≡ b → ⊥
    by true q =
        let a : i < length gs = ltb-true i (length gs) q in
        let x = get_or-append gs (f ∷ []) blank i a in
        let y = get_or-append gs (f ∷ []) blank j (omega arith) in
        apart i j a l (ap (λ (g : Fields). g.class) (sym y) ∙ same.0 ∙ ap (λ (g : Fields). g.class) x, ap (λ (g : Fields). g.subprogram) (sym y) ∙ same.1 ∙ ap (λ (g : Fields). g.subprogram) x)
    by false q =
        let a : length gs ≤ i = ltb-false i (length gs) q in
        let e : length gs ≡ i = omega (arith, long) in
        let x = get_or_at gs f [] blank i e in
        let y = get_or-append gs (f ∷ []) blank j (omega arith) in
        new j (omega arith) (ap (λ (g : Fields). g.class) (sym y) ∙ same.0 ∙ ap (λ (g : Fields). g.class) x, ap (λ (g : Fields). g.subprogram) (sym y) ∙ same.1 ∙ ap (λ (g : Fields). g.subprogram) x)

-- in a row that is apart, an entry is new to those before it
new_in : (gs fs : List Fields) (f : Fields) → Apart (gs ++ f ∷ fs) → New gs f
new_in gs fs f apart j l same =
    let x = get_or-append_seam gs f fs blank in
    let y = get_or-append gs (f ∷ fs) blank j l in
    apart (length gs) j (omega (arith, length-append gs (f ∷ fs))) l (ap (λ (g : Fields). g.class) y ∙ same.0 ∙ ap (λ (g : Fields). g.class) (sym x), ap (λ (g : Fields). g.subprogram) y ∙ same.1 ∙ ap (λ (g : Fields). g.subprogram) (sym x))

-- one entry more
more_sound : (level : ℕ) (gs : List Fields) (f : Fields) → Sound level gs → length gs < 512 → Sized f → Fits level f → New gs f → Sound level (gs ++ (f ∷ []))
more_sound level gs f sound h z w new = record {
  apart = more_apart gs f sound.apart new;
  either = sound.either;
  few = omega (arith, length-append gs (f ∷ []));
  sized = all_more Sized gs (f ∷ []) sound.sized (z, tt);
  fits = all_more (Fits level) gs (f ∷ []) sound.fits (w, tt);
}

-- an extend of a directory's bytes that is accepted
pub step_only : (level : ℕ) (gs : List Fields) (f : Fields) (r : List ℕ) (total : ℕ) → Sound level gs → Sized f → extend_of f (directory_bytes level gs ++ r) ≡ given total →
    Sound level (gs ++ (f ∷ [])) × (16 ≤ length r) × (extended_by f (directory_bytes level gs ++ r) (given total) ≡ directory_bytes level (gs ++ (f ∷ [])) ++ drop 16 r)
step_only level gs f r total sound sized e =
    let s = directory_bytes level gs ++ r in
    let x = extend_only f s total e in
    let g = x.2 in
    let d = directory_of 0 x.0 x.1 in
    let found : directory_by_cookie psp_kind 512 s 0 ≡ given d = cookie_acceptance.all psp_kind 512 s d (λ q. omega arith) g.good in
    let same : d ≡ directory_of 0 level (length gs) = cc (holds level gs sound r).good in
    let few : length gs < 512 = omega (arith, g.few, ap (λ (d : Directory). d.total) same) in
    let number : total ≡ length gs + 1 = omega (arith, x.3, ap (λ (d : Directory). d.total) same) in
    let room : 16 ≤ length r = omega (arith, g.room, ap (λ (d : Directory). d.total) same, length-append (directory_bytes level gs) r, length_directory level gs) in
    let fits : Fits level f = subst (λ (l : ℕ). Fits l f) (ap (λ (d : Directory). d.level) same) g.fits in
    let total-is : x.1 ≡ length gs = ap (λ (d : Directory). d.total) same in
    let new : New gs f = λ j l m. g.new j (omega arith) (same_at level gs sound r f j l m) in
    (more_sound level gs f sound few sized fits new, room, ap (λ (k : ℕ). extended_by f s (given k)) number ∙ extended_bytes level gs f r room)

-- an entry put in, and the others then, are all of them put in
on : (level : ℕ) (fs gs : List Fields) (f : Fields) (r : List ℕ) →
    directory_bytes level (gs ++ (f ∷ []) ++ fs) ++ drop (length fs * 16) (drop 16 r) ≡ directory_bytes level (gs ++ f ∷ fs) ++ drop (suc (length fs) * 16) r
on level fs gs f r =
    let long : 16 + length fs * 16 ≡ suc (length fs) * 16 = omega arith in
    rw (append_snoc gs f fs, drop-drop (length fs * 16) 16 r, long) refl

-- any list of them
pub grown : (level : ℕ) (fs gs : List Fields) (r t : List ℕ) → Sound level gs → All Sized fs → extend_all fs (directory_bytes level gs ++ r) ≡ given t →
    Sound level (gs ++ fs) × (length fs * 16 ≤ length r) × (t ≡ directory_bytes level (gs ++ fs) ++ drop (length fs * 16) r)
unfolding extend_all
grown level [] gs r t sound zs e = rw append-nil (sound, omega arith, cc)
grown level (f ∷ fs) gs r t sound (z, zs) e =
    let s = directory_bytes level gs ++ r in
    let x = then_given (extend_of f s) (λ total. extend_all fs (extended_by f s (given total))) e in
    let g = step_only level gs f r x.0 sound z x.1 in
    let rest = grown level fs (gs ++ (f ∷ [])) (drop 16 r) t g.0 zs (ap (extend_all fs) (sym g.2) ∙ x.2) in
    (subst (Sound level) (append_snoc gs f fs) rest.0, omega (arith, g.1, rest.1, length-drop 16 r), rest.2 ∙ on level fs gs f r)

-- and entries that can be written are accepted
pub grows : (level : ℕ) (fs gs : List Fields) (r : List ℕ) → Sound level gs → All Sized fs → All (Fits level) fs → Apart (gs ++ fs) → length gs + length fs ≤ 512 → length fs * 16 ≤ length r →
    extend_all fs (directory_bytes level gs ++ r) ≡ given (directory_bytes level (gs ++ fs) ++ drop (length fs * 16) r)
unfolding extend_all
grows level [] gs r sound zs ws apart few room = rw append-nil refl
grows level (f ∷ fs) gs r sound (z, zs) (w, ws) apart few room =
    let new = new_in gs fs f apart in
    let s = directory_bytes level gs ++ r in
    let accepted : extend_of f s ≡ given (length gs + 1) = extend_all_lem f s level (length gs) (record {
      good = good level gs sound r;
      fits = w;
      new = λ j l m. new j l (at_same level gs sound r f j l m);
      few = omega arith;
      room = omega (arith, length-append (directory_bytes level gs) r, length_directory level gs);
    }) in
    ap (λ (x : Reply ℕ). then x (λ total. extend_all fs (extended_by f s (given total)))) accepted
    ∙ ap (extend_all fs) (extended_bytes level gs f r (omega arith))
    ∙ grows level fs (gs ++ (f ∷ [])) (drop 16 r) (more_sound level gs f sound (omega arith) z w new) zs ws (subst Apart (sym (append_snoc gs f fs)) apart) (omega (arith, length-append gs (f ∷ []))) (omega (arith, length-drop 16 r))
    ∙ ap given (on level fs gs f r)

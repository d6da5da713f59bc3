-- What the length of an image decides. Assumes nothing.
use mathlib.Core.Path.{◌≡◌, refl, sym, ap, subst, ◌∙◌}
use mathlib.Core.Logic.{inl, inr}
use mathlib.Core.List.{List}
use mathlib.Core.Bool.{Bool, true, false}
use Prim.Native.Nat.{ℕ, zero, suc, ◌+◌, ◌-◌, ◌<◌, ◌≤◌}
use native.Mathlib.Omega.{arith}
use borrow.Author.Tests.{leb-true, ltb-true, le-leb, lt-leb, lt-ltb, ne_eqb}
use lib.ListN.{length}
use lib.Dec.{leb, ltb}
use Rattle.le.specs.Field.{get}
use Rattle.reply.specs.Reply.{Reply, given, refused, alone, then}
use Rattle.reply.specs.Scan.{scan}
use Rattle.reply.proofs.ReplyLaws.{passed, failed, then_given}
use Rattle.window.specs.Window.{four_gib, window_start, offset_in}
use Rattle.window.specs.Inside.{Shown, GoodLength}
use Rattle.window.specs.declared.Offset.{Offset}
use Rattle.window.proofs.Inside.{offset_given}
use Rattle.window.proofs.Length.{sized_passed, sized_past}
use Rattle.directory.specs.declared.Kind.{Kind}
use Rattle.directory.specs.declared.Directory.{Directory}
use Rattle.entries.specs.Part.{leads_to, part_of}
use Rattle.entries.specs.declared.Entry.{Entry}
use Rattle.entries.proofs.PartAccept.{parts_accepted}
use Rattle.efs.specs.Fields as efs
use Rattle.efs.specs.Rules.{rules_of}
use Rattle.efs.specs.Efs.{candidate_at, or_else, efs_place, efs_at, efs_in, pointer_to, flash_efs}
use Rattle.efs.specs.declared.Efs.{Efs}
use Rattle.efs.proofs.Accept.{only_efs}
use Rattle.flash.specs.Good.{FlashAcceptance}
use Rattle.flash.proofs.Accept.{levels_accepted}
use Rattle.flash.proofs.Ways.{opened}
use Rattle.image_lengths.specs.Told.{Outside, PhysicalPointer, OffsetPointer, shortest, candidate, LengthsTold}

-- an address outside the window of so many bytes
outside : (long a : ℕ) → Outside long a → offset_in long a ≡ refused 7 alone
unfolding offset_in
outside long a (inl below) = failed _ _ _ _ (lt-leb (window_start long) a (omega arith))
outside long a (inr above) = passed _ _ _ _ (le-leb (window_start long) a (omega arith)) ∙ failed _ _ _ _ (lt-leb a 0xFFFF_FFFF (omega arith))

module _ (image : List ℕ) where
  -- a mode 0 location outside the window
  lead_outside : (o : ℕ) (e : Entry) → e.mode ≡ 0 → Outside (length image) e.location → leads_to (length image) image o e ≡ refused 7 alone
  unfolding leads_to
  lead_outside o e m h = simp (m, outside (length image) e.location h)

  part_outside : (kind : Kind) (o : ℕ) (e : Entry) → e.mode ≡ 0 → (e.class ≡ kind.value → ⊥) → Outside (length image) e.location → part_of kind (length image) image o e ≡ refused 7 alone
  unfolding part_of
  part_outside kind o e m value h = simp (ne_eqb _ _ value, lead_outside o e m h)

  -- a candidate below the window
  over : (a : ℕ) (rest : Reply Offset) → a + length image < four_gib → or_else (candidate_at (length image) image a) rest ≡ rest
  unfolding candidate_at
  over a rest h = simp (outside (length image) a (inl h))

  module _ (good : GoodLength image) where
    -- a window of the image's length fits below 4 GiB
    pub fits : length image ≤ four_gib
    fits = let to = good.to in omega arith

    address : (a : ℕ) → four_gib ≤ a + length image → a < four_gib → offset_in (length image) a ≡ given (record { 0 = a + length image - four_gib })
    address a low high = let f = fits in offset_given (length image) a _ (omega arith) (omega arith) (omega arith)

    pub told_physical : (p : ℕ) → PhysicalPointer (length image) p → pointer_to (length image) image p ≡ given (record { 0 = p + length image - four_gib })
    unfolding pointer_to
    told_physical p (low, high) =
        let f = fits in
        let within : p + length image - four_gib ≤ length image = omega arith in
        simp (le-leb (window_start (length image)) p (omega arith), address p low high, le-leb _ _ within)

    offset : (p : ℕ) → OffsetPointer (length image) p → pointer_to (length image) image p ≡ given (record { 0 = p })
    unfolding pointer_to
    offset p h = let to = good.to in simp (lt-leb (window_start (length image)) p (omega arith), lt-ltb _ _ h, le-leb p (length image) (omega arith))

    neither : (p : ℕ) → p < four_gib → (PhysicalPointer (length image) p → ⊥) → (OffsetPointer (length image) p → ⊥) → pointer_to (length image) image p ≡ refused 7 alone
    unfolding pointer_to
    neither p high not-physical not-offset = by (leb (window_start (length image)) p) (ltb p (length image)) refl refl
      where
        by : (b c : Bool) → leb (window_start (length image)) p ≡ b → ltb p (length image) ≡ c → pointer_to (length image) image p ≡ refused 7 alone
        by true c low h = absurd (not-physical (let l = leb-true (window_start (length image)) p low in omega arith, high))
        by false true low h = absurd (not-offset (ltb-true p (length image) h))
        by false false low h = simp (low, h)

    too_short : length image < shortest → flash_efs (rules_of image) image ≡ refused 2 alone
    unfolding scan
    too_short h =
        sized_passed image (efs_in (rules_of image) image) good
        ∙ ap (λ (x : Reply Offset). then x (λ o. given (efs_at image o)))
        (over 0xFFFA_0000 _ (omega arith)
        ∙ over 0xFFF2_0000 _ (omega arith)
        ∙ over 0xFFE2_0000 _ (omega arith)
        ∙ over 0xFFC2_0000 _ (omega arith)
        ∙ over 0xFF82_0000 _ (omega arith)
        ∙ over 0xFF02_0000 _ (omega arith))

  -- every candidate has 0x24 bytes below 4 GiB
  low : (i : ℕ) → i < 6 → candidate i + efs.bytes ≤ four_gib
  low zero h = omega arith
  low (suc zero) h = omega arith
  low (suc (suc zero)) h = omega arith
  low (suc (suc (suc zero))) h = omega arith
  low (suc (suc (suc (suc zero)))) h = omega arith
  low (suc (suc (suc (suc (suc zero))))) h = omega arith
  low (suc (suc (suc (suc (suc (suc i)))))) h = omega arith

  pub whole : (i o : ℕ) → i < 6 → Shown (length image) (candidate i) o → o + efs.bytes ≤ length image
  whole i o h shown = let below = low i h in omega (arith, shown.counted)

  used : (e : Efs) → flash_efs (rules_of image) image ≡ given e →
      (i : ℕ) × (i < 6) × Shown (length image) (candidate i) e.place.0 × (get efs.signature image e.place.0 ≡ 0x55AA_55AA)
  used e q =
      let z = sized_past image (efs_in (rules_of image) image) q in
      let v = then_given (efs_place (length image) (rules_of image).candidates image) (λ o. given (efs_at image o)) z.1 in
      let f = only_efs (length image) (fits z.0) image (rules_of image).candidates v.0 v.1 in
      let is : efs_at image v.0 ≡ e = let h = v.2 in cc in
      let place : f.1.here.place ≡ e.place.0 = f.2 ∙ ap (λ (x : Efs). x.place.0) is in
      (f.0, f.1.inside, subst (Shown (length image) (candidate f.0)) place f.1.here.shown, ap (λ (o : ℕ). get efs.signature image o) (sym place) ∙ f.1.here.signature)

  of_level : (level : ℕ) (d : Directory) → FlashAcceptance (rules_of image) level image d
  of_level level d = record {
    only = λ e. (levels_accepted (rules_of image) level image d (fits (opened (rules_of image) image d level e).0)).only e;
    all = λ good g. (levels_accepted (rules_of image) level image d (fits good)).all good g;
  }

pub lengths_told : LengthsTold
lengths_told = record {
  addresses = λ image. record { outside = outside (length image); lead = lead_outside image; part = part_outside image };
  told = λ image good. record { address = address image good; physical = told_physical image good; offset = offset image good; neither = neither image good };
  candidates = λ image. record { passed_over = over image; used = used image; whole = whole image; too_short = too_short image };
  accepted = λ image. record { directory = of_level image; part = λ good d i p. parts_accepted (rules_of image).kind (length image) image d i p (fits image good) };
}

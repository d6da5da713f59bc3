-- What is packed is read back, with any words behind it. Assumes nothing.
use mathlib.Core.Bool.{Bool, true, false}
use mathlib.Core.Path.{◌≡◌, refl, ap, ◌∙◌}
use mathlib.Core.List.{List, ◌++◌}
use Prim.Native.Nat.{ℕ, ◌+◌, ◌*◌, ◌-◌, ◌/◌, ◌%◌, ◌≤◌, ◌<◌}
use native.Mathlib.Omega.{arith}
use lib.ListN.{get_or, get_or-append}
use lib.Dec.{eqb}
use Rattle.firmware.specs.Rules.{nothing}
use Rattle.std.specs.Prelude.{Option, Some, None}
use Rattle.firmware.specs.declared.Descriptor.{Descriptor}
use Rattle.mailbox.specs.declared.Phase.{Phase}
use Rattle.mailbox.specs.declared.Phase.TheVariants.{Idle, Command, Response}
use Rattle.mailbox.specs.declared.PlaceState.{PlaceState}
use Rattle.mailbox.specs.declared.PlaceState.TheVariants.{Free, Waiting, Ready}
use Rattle.mailbox.specs.declared.Post.{Post}
use Rattle.mailbox.specs.declared.Mailbox.{Mailbox}
use Rattle.mailbox.specs.Machine.{no_post, place_with}
use Rattle.mailbox_layout.specs.Layout.{up_to, bit_of, phase_word, caller_word, word_word, part_word, post_word, state_word, place_word, saved_word, interrupt_word, head_of, pack_of}
use Rattle.mailbox_layout.specs.Layout.{phase_from, part_from, post_from, state_from, place_from, saved_from, interrupt_from, post_at, place_at, interrupt_at, firmware_from, unpack_of}
use Rattle.mailbox_runs.specs.Typed.{TypedPart, TypedDescriptor, TypedInterrupt, TypedPost, TypedState, TypedPlace, TypedPhase, Typed}
use Rattle.mailbox_layout.proofs.LayoutLaws.{up_all, pack_long, pack_head, pack_post, pack_place, pack_interrupt}
use Rattle.mailbox_runs.proofs.TypedLaws.{all_at, whole}

-- ---- one word and what it says
bit_back : (b : Bool) (x : ℕ) → x ≡ bit_of b → eqb x 1 ≡ b
bit_back true x e = rw e
bit_back false x e = rw e

bit_small : (b : Bool) → bit_of b ≤ 1
bit_small true = omega arith
bit_small false = omega arith

low : (n x y : ℕ) → x < 0x1_0000 → n ≡ x + y * 0x1_0000 → n % 0x1_0000 ≡ x
low n x y p e = omega arith

part_back_lem : (p : Option ℕ) → TypedPart p → part_from (part_word p) ≡ p
part_back_lem None fits = refl
part_back_lem (Some v) fits =
    let one : (0x1_0000 + v) / 0x1_0000 ≡ 1 = omega arith in
    let rest : (0x1_0000 + v) % 0x1_0000 ≡ v = omega arith in
    rw (one, rest)

post_back_lem : (p : Post) → TypedPost p → post_from (post_word p) ≡ p
post_back_lem p fits =
    let a : p.caller < 0x1_0000_0000 = fits.0 in
    let b : p.command < 0x1_0000 = fits.1 in
    let c : p.«data» < 0x1_0000 = fits.2 in
    let up : post_word p / 0x1_0000_0000 ≡ p.caller = omega arith in
    let mid : post_word p / 0x1_0000 ≡ p.command + p.caller * 0x1_0000 = omega arith in
    let caller : post_word p / 0x1_0000_0000 % 0x1_0000_0000 ≡ p.caller = rw up (cut p.caller a) in
    let command : post_word p / 0x1_0000 % 0x1_0000 ≡ p.command = low (post_word p / 0x1_0000) p.command p.caller b mid in
    let rest : post_word p % 0x1_0000 ≡ p.«data» = low (post_word p) p.«data» (p.command + p.caller * 0x1_0000) c (omega arith) in
    λ i. record { caller = caller i; command = command i; «data» = rest i }
  where
    cut : (x : ℕ) → x < 0x1_0000_0000 → x % 0x1_0000_0000 ≡ x
    cut x h = omega arith

state_back : (s : PlaceState) → TypedState s → state_from (state_word s) ≡ s
state_back Free fits = refl
state_back Waiting fits = refl
state_back (Ready w) fits =
    let two : (0x2_0000_0000 + w) / 0x1_0000_0000 ≡ 2 = omega arith in
    let rest : (0x2_0000_0000 + w) % 0x1_0000_0000 ≡ w = omega arith in
    rw (two, rest)

phase_back : (p : Phase) → TypedPhase p → phase_from (phase_word p) (caller_word p) (word_word p) ≡ p
phase_back Idle fits = refl
phase_back (Command c w) fits =
    let a : c % 0x1_0000_0000 ≡ c = let h : c < 0x1_0000_0000 = fits.0 in omega arith in
    let b : w % 0x1_0000_0000 ≡ w = let h : w < 0x1_0000_0000 = fits.1 in omega arith in
    rw (a, b)
phase_back (Response c w) fits =
    let a : c % 0x1_0000_0000 ≡ c = let h : c < 0x1_0000_0000 = fits.0 in omega arith in
    let b : w % 0x1_0000_0000 ≡ w = let h : w < 0x1_0000_0000 = fits.1 in omega arith in
    rw (a, b)

delivery_back : (b : Bool) (d : Option Descriptor) → eqb (saved_word b d / 2 % 2) 1 ≡ b
delivery_back b None = let s = bit_small b in bit_back b (bit_of b * 2 / 2 % 2) (omega arith)
delivery_back b (Some d) = let s = bit_small b in bit_back b (saved_word b (Some d) / 2 % 2) (omega arith)

saved_back : (b : Bool) (d : Option Descriptor) → TypedDescriptor d → saved_from (saved_word b d) ≡ d
saved_back b None fits = let even : bit_of b * 2 % 2 ≡ 0 = omega arith in rw even
saved_back b (Some d) fits =
    let w = saved_word b (Some d) in
    let s = bit_small b in
    let f1 : d.part1 < 0x1_0000 = fits.0 in
    let f2 : d.part2 < 0x1_0000 = fits.1 in
    let f3 : d.part3 < 0x1_0000 = fits.2 in
    let odd : w % 2 ≡ 1 = omega arith in
    let q1 : w / 0x1_0000 ≡ d.part1 + (d.part2 + d.part3 * 0x1_0000) * 0x1_0000 = omega arith in
    let q2 : w / 0x1_0000_0000 ≡ d.part2 + d.part3 * 0x1_0000 = omega arith in
    let q3 : w / 0x1_0000_0000_0000 ≡ d.part3 + 0 * 0x1_0000 = omega arith in
    rw (odd, low (w / 0x1_0000) d.part1 (d.part2 + d.part3 * 0x1_0000) f1 q1, low (w / 0x1_0000_0000) d.part2 d.part3 f2 q2, low (w / 0x1_0000_0000_0000) d.part3 0 f3 q3)

-- ---- the whole
module _ (m : Mailbox) (k : Typed m) (behind : List ℕ) where
  abbrev ws : List ℕ
  ws = pack_of m ++ behind

  word_of : (i : ℕ) → i < 88 → get_or ws i 0 ≡ get_or (pack_of m) i 0
  word_of i p = let long = pack_long m (whole m k) in get_or-append (pack_of m) behind 0 i (omega arith)

  head_of_lem : (i : ℕ) → i < 8 → get_or ws i 0 ≡ get_or (head_of m) i 0
  head_of_lem i p = word_of i (omega arith) ∙ pack_head m (whole m k) i p

  line_back : (i : ℕ) → i < 8 → post_at ws i ≡ get_or m.line i no_post
  line_back i p =
      let e : 8 + i - 8 ≡ i = omega arith in
      let w = word_of (8 + i) (omega arith) ∙ (pack_post m (whole m k) (8 + i) (omega arith) (omega arith) ∙ ap (λ (j : ℕ). post_word (get_or m.line j no_post)) e) in
      ap post_from w ∙ post_back_lem (get_or m.line i no_post) (all_at TypedPost m.line i no_post k.line (omega arith, omega arith, omega arith))

  places_back : (i : ℕ) → i < 8 → place_at ws i ≡ get_or m.places i (place_with Free)
  places_back i p =
      let e : 16 + i - 16 ≡ i = omega arith in
      let w = word_of (16 + i) (omega arith) ∙ (pack_place m (whole m k) (16 + i) (omega arith) (omega arith) ∙ ap (λ (j : ℕ). place_word (get_or m.places j (place_with Free))) e) in
      ap place_from w ∙ ap place_with (state_back (get_or m.places i (place_with Free)).state (all_at TypedPlace m.places i (place_with Free) k.places tt))

  interrupts_back : (i : ℕ) → i < 64 → interrupt_at ws i ≡ get_or m.firmware.interrupts i nothing
  interrupts_back i p =
      let e : 24 + i - 24 ≡ i = omega arith in
      let x = get_or m.firmware.interrupts i nothing in
      let w = word_of (24 + i) (omega arith) ∙ (pack_interrupt m (whole m k) (24 + i) (omega arith) ∙ ap (λ (j : ℕ). interrupt_word (get_or m.firmware.interrupts j nothing)) e) in
      let saved : saved_from (interrupt_word x) ≡ x.descriptor = saved_back x.delivery x.descriptor (all_at TypedInterrupt m.firmware.interrupts i nothing k.firmware.interrupts tt) in
      let on : eqb (interrupt_word x / 2 % 2) 1 ≡ x.delivery = delivery_back x.delivery x.descriptor in
      ap interrupt_from w ∙ (λ j. record { descriptor = saved j; delivery = on j })

  firmware_back : firmware_from ws ≡ m.firmware
  unfolding firmware_from
  firmware_back =
      let f = m.firmware in
      let interface : eqb (get_or ws 4 0) 1 ≡ f.interface = bit_back f.interface (get_or ws 4 0) (head_of_lem 4 (omega arith)) in
      let p1 : part_from (get_or ws 5 0) ≡ f.part1 = ap part_from (head_of_lem 5 (omega arith)) ∙ part_back_lem f.part1 k.firmware.part1 in
      let p2 : part_from (get_or ws 6 0) ≡ f.part2 = ap part_from (head_of_lem 6 (omega arith)) ∙ part_back_lem f.part2 k.firmware.part2 in
      let p3 : part_from (get_or ws 7 0) ≡ f.part3 = ap part_from (head_of_lem 7 (omega arith)) ∙ part_back_lem f.part3 k.firmware.part3 in
      let all : up_to (interrupt_at ws) 64 ≡ f.interrupts = up_all (interrupt_at ws) f.interrupts nothing 64 k.firmware.interrupts_long interrupts_back in
      λ j. record { interface = interface j; part1 = p1 j; part2 = p2 j; part3 = p3 j; interrupts = all j }

  pub back : unpack_of (pack_of m ++ behind) ≡ m
  unfolding unpack_of
  back =
      let t = head_of_lem 0 (omega arith) in
      let c = head_of_lem 1 (omega arith) in
      let w = head_of_lem 2 (omega arith) in
      let register : phase_from (get_or ws 0 0) (get_or ws 1 0) (get_or ws 2 0) ≡ m.register = rw (t, c, w) (phase_back m.register k.register) in
      let count : get_or ws 3 0 ≡ m.count = head_of_lem 3 (omega arith) in
      let line : up_to (post_at ws) 8 ≡ m.line = up_all (post_at ws) m.line no_post 8 k.line_long line_back in
      let places : up_to (place_at ws) 8 ≡ m.places = up_all (place_at ws) m.places (place_with Free) 8 k.places_long places_back in
      let firmware = firmware_back in
      λ j. record { register = register j; count = count j; line = line j; places = places j; firmware = firmware j }

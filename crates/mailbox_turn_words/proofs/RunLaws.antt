-- What a command leaves in the lent words: the words of the mailbox before the firmware after it. Assumes nothing.
use mathlib.Core.Bool.{Bool, true, false, cond, not}
use mathlib.Core.Path.{◌≡◌, refl, sym, ap, ◌∙◌}
use mathlib.Core.List.{List}
use Prim.Native.Nat.{ℕ, ◌+◌, ◌/◌, ◌%◌, ◌<◌}
use native.Mathlib.Omega.{arith}
use lib.ListN.{length, get_or, set, drop, length-set}
use lib.Dec.{eqb}
use Rattle.firmware.specs.Word.{command_in, data_in}
use Rattle.firmware.specs.Rules.{nothing, interface_off, id_in, kept_for, holding, saving, settled_of, delivering, when_saved, delivery_of, rule_of, run_of}
use Rattle.std.specs.Prelude.{Option, Some, None}
use Rattle.firmware.specs.declared.Descriptor.{Descriptor}
use Rattle.firmware.specs.declared.Interrupt.{Interrupt}
use Rattle.firmware.specs.declared.Firmware.{Firmware}
use Rattle.firmware.specs.declared.Ran.{Ran}
use Rattle.lent.specs.Lent.{words_for}
use Rattle.mailbox.specs.declared.Phase.TheVariants.{Command}
use Rattle.mailbox.specs.declared.Mailbox.{Mailbox}
use Rattle.mailbox.specs.Machine.{with_response}
use Rattle.mailbox_layout.specs.Layout.{phase_from, part_from, part_word, interrupt_word, interrupt_from, head_of, pack_of, unpack_of, firmware_from, interrupt_at}
use Rattle.mailbox_held.specs.Held.{held_in}
use Rattle.mailbox_turn_words.specs.Before.{before}
use Rattle.mailbox_layout.proofs.LayoutLaws.{get_or_up_to, Whole, unpacked_whole}
use Rattle.mailbox_held.proofs.HeldLaws.{held_long}
use Rattle.mailbox_words.proofs.StoredLaws.{laid_of, interrupt_in, stored, held_laid, held_kept, laid_words}

-- ---- on a mailbox that is laid out
module _ (m : Mailbox) (w : Whole m) (behind : List ℕ) where
  -- another interrupt for an ID, and in all else the same
  abbrev keeping : ℕ → Interrupt → Firmware
  keeping id x = record { interface = m.firmware.interface; part1 = m.firmware.part1; part2 = m.firmware.part2; part3 = m.firmware.part3; interrupts = set m.firmware.interrupts id x }

  laid_keeping : (id : ℕ) (x : Interrupt) → id < 64 → set (laid_of m behind) (24 + id) (interrupt_word x) ≡ laid_of (before m (keeping id x)) behind
  laid_keeping id x q =
      let long = w.interrupts_long in
      interrupt_in (head_of m) m.line m.places m.firmware.interrupts behind id refl w.line_long x w.places_long (omega arith)

-- what is kept for an ID
pub kept_read : (ws : List ℕ) (id : ℕ) → id < 64 → get_or (firmware_from ws).interrupts id nothing ≡ interrupt_from (get_or ws (24 + id) 0)
unfolding firmware_from
kept_read ws id p = get_or_up_to (interrupt_at ws) nothing 64 id p

-- ---- in the lent words
module _ (ws : List ℕ) (h : held_in ws ≡ true) where
  abbrev m : Mailbox
  m = unpack_of ws

  abbrev behind : List ℕ
  behind = drop 88 ws

  whole : Whole m
  whole = unpacked_whole ws

  laid_down : (next : Mailbox) (after : List ℕ) → Whole next → after ≡ laid_of next behind → after ≡ words_for (pack_of next) ws
  laid_down = laid_words ws h

  -- ---- the firmware's words
  abbrev f : Firmware
  f = (unpack_of ws).firmware

  pub holding_words : (one two three : Option ℕ) (a b c : ℕ) → a ≡ part_word one → b ≡ part_word two → c ≡ part_word three
      → set (set (set ws 5 a) 6 b) 7 c ≡ words_for (pack_of (before (unpack_of ws) (holding (firmware_from ws) one two three))) ws
  unfolding unpack_of
  holding_words one two three a b c p q r =
      let w = whole in
      laid_down (before m (holding f one two three)) _ (record { line_long = w.line_long; places_long = w.places_long; interrupts_long = w.interrupts_long })
      (λ i. set (set (set (held_laid ws h i) 5 (p i)) 6 (q i)) 7 (r i))

  pub off_words : set ws 4 0 ≡ words_for (pack_of (before (unpack_of ws) (interface_off (firmware_from ws)))) ws
  unfolding unpack_of
  off_words =
      let w = whole in
      laid_down (before m (interface_off f)) _ (record { line_long = w.line_long; places_long = w.places_long; interrupts_long = w.interrupts_long }) (λ i. set (held_laid ws h i) 4 0)

  pub saving_words : (one two three word : ℕ) (old : Interrupt) → old ≡ interrupt_from (get_or ws (24 + id_in three) 0)
      → word ≡ interrupt_word (record { descriptor = Some (record { part1 = one; part2 = two; part3 = three }); delivery = old.delivery })
      → set (set (set (set ws (24 + id_in three) word) 5 0) 6 0) 7 0 ≡ words_for (pack_of (before (unpack_of ws) (saving (firmware_from ws) one two three))) ws
  unfolding unpack_of
  saving_words one two three word old o e =
      let w = whole in
      let q : id_in three < 64 = omega arith in
      let on : old.delivery ≡ (kept_for f (id_in three)).delivery = ap (λ (x : Interrupt). x.delivery) (o ∙ sym (kept_read ws (id_in three) q)) in
      let x : Interrupt = record { descriptor = Some (record { part1 = one; part2 = two; part3 = three }); delivery = (kept_for f (id_in three)).delivery } in
      let word-is : word ≡ interrupt_word x = e ∙ ap (λ (b : Bool). interrupt_word (record { descriptor = Some (record { part1 = one; part2 = two; part3 = three }); delivery = b })) on in
      laid_down (before m (saving f one two three)) _
      (record { line_long = w.line_long; places_long = w.places_long; interrupts_long = length-set f.interrupts (id_in three) x ∙ w.interrupts_long })
      ((λ i. set (set (set (set (held_laid ws h i) (24 + id_in three) (word-is i)) 5 0) 6 0) 7 0) ∙ ap (λ (l : List ℕ). set (set (set l 5 0) 6 0) 7 0) (laid_keeping m w behind (id_in three) x q))

  pub delivering_words : (d word : ℕ) (old : Interrupt) → old ≡ interrupt_from (get_or ws (24 + id_in d) 0)
      → word ≡ interrupt_word (record { descriptor = old.descriptor; delivery = eqb (d % 2) 1 })
      → set ws (24 + id_in d) word ≡ words_for (pack_of (before (unpack_of ws) (delivering (firmware_from ws) d))) ws
  unfolding unpack_of
  delivering_words d word old o e =
      let w = whole in
      let q : id_in d < 64 = omega arith in
      let same : old.descriptor ≡ (kept_for f (id_in d)).descriptor = ap (λ (x : Interrupt). x.descriptor) (o ∙ sym (kept_read ws (id_in d) q)) in
      let x : Interrupt = record { descriptor = (kept_for f (id_in d)).descriptor; delivery = eqb (d % 2) 1 } in
      let word-is : word ≡ interrupt_word x = e ∙ ap (λ (k : Option Descriptor). interrupt_word (record { descriptor = k; delivery = eqb (d % 2) 1 })) same in
      laid_down (before m (delivering f d)) _
      (record { line_long = w.line_long; places_long = w.places_long; interrupts_long = length-set f.interrupts (id_in d) x ∙ w.interrupts_long })
      ((λ i. set (held_laid ws h i) (24 + id_in d) (word-is i)) ∙ laid_keeping m w behind (id_in d) x q)

  pub firmware_kept : words_for (pack_of (before (unpack_of ws) (firmware_from ws))) ws ≡ ws
  unfolding unpack_of
  firmware_kept = sym (held_kept ws h)

-- ---- what the firmware's words tell
module _ (ws : List ℕ) where
  pub interface_read : (firmware_from ws).interface ≡ eqb (get_or ws 4 0) 1
  unfolding firmware_from
  interface_read = refl

  pub part1_read : (firmware_from ws).part1 ≡ part_from (get_or ws 5 0)
  unfolding firmware_from
  part1_read = refl

  pub part2_read : (firmware_from ws).part2 ≡ part_from (get_or ws 6 0)
  unfolding firmware_from
  part2_read = refl

  pub part3_read : (firmware_from ws).part3 ≡ part_from (get_or ws 7 0)
  unfolding firmware_from
  part3_read = refl

pub ruleset firmware_read = (interface_read, part1_read, part2_read, part3_read, kept_read, firmware_kept)

-- ---- a turn: the firmware after the command, and its response in the register
module _ (f : Firmware) (long : length f.interrupts ≡ 64) where
  settled_long : (one two three : Option ℕ) → length (settled_of (holding f one two three)).interrupts ≡ 64
  unfolding settled_of
  settled_long None two three = long
  settled_long (Some a) None three = long
  settled_long (Some a) (Some b) None = long
  settled_long (Some a) (Some b) (Some k) = length-set f.interrupts _ _ ∙ long

  -- one of two
  of_two : (b : Bool) (x y : Ran) → length x.firmware.interrupts ≡ 64 → length y.firmware.interrupts ≡ 64 → length (cond b x y).firmware.interrupts ≡ 64
  of_two true x y p q = p
  of_two false x y p q = q

  when_saved_lem : (k : Option Descriptor) (x y : Ran) → length x.firmware.interrupts ≡ 64 → length y.firmware.interrupts ≡ 64 → length (when_saved k x y).firmware.interrupts ≡ 64
  when_saved_lem None x y p q = p
  when_saved_lem (Some kept) x y p q = q

  delivery_long : (d : ℕ) → length (delivery_of f d).firmware.interrupts ≡ 64
  unfolding delivery_of
  delivery_long d =
      of_two f.interface _ _ long (of_two (not (eqb (d / 2 % 512) 0)) _ _ long (when_saved_lem (kept_for f (id_in d)).descriptor _ _ long (length-set f.interrupts _ _ ∙ long)))

  run_long : (w : ℕ) → length (run_of f w).firmware.interrupts ≡ 64
  unfolding rule_of
  run_long w =
      of_two (eqb (command_in w) 0x80) _ _ long
      (of_two (eqb (command_in w) 0x81) _ _ long
      (of_two (eqb (command_in w) 0x82) _ _ (settled_long _ _ _)
      (of_two (eqb (command_in w) 0x83) _ _ (settled_long _ _ _)
      (of_two (eqb (command_in w) 0x84) _ _ (settled_long _ _ _) (of_two (eqb (command_in w) 0x85) _ _ (delivery_long (data_in w)) long)))))

module _ (ws : List ℕ) (h : held_in ws ≡ true) (word : ℕ) where
  abbrev turned : Firmware
  turned = (run_of (firmware_from ws) word).firmware

  turned_whole : Whole (before (unpack_of ws) turned)
  unfolding unpack_of
  turned_whole =
      let w = unpacked_whole ws in
      record { line_long = w.line_long; places_long = w.places_long; interrupts_long = run_long (firmware_from ws) w.interrupts_long word }

  -- the words after `run`
  module _ (ran : List ℕ) (e : ran ≡ words_for (pack_of (before (unpack_of ws) turned)) ws) where
    ran_laid : ran ≡ laid_of (before (unpack_of ws) turned) (drop 88 ws)
    ran_laid = e ∙ sym (stored (before (unpack_of ws) turned) turned_whole ws (held_long ws h))

    pub ran_first : 0 < length ran
    ran_first = rw ran_laid (omega arith)

    pub ran_third : 2 < length (set ran 0 2)
    ran_third = rw ran_laid (omega arith)

    pub turn_words : (caller response : ℕ) → Command caller word ≡ phase_from (get_or ws 0 0) (get_or ws 1 0) (get_or ws 2 0) → response ≡ (run_of (firmware_from ws) word).word
        → set (set ran 0 2) 2 response ≡ words_for (pack_of (with_response (unpack_of ws) caller word)) ws
    unfolding unpack_of
    turn_words caller response r q =
        let w = turned_whole in
        ap (λ (l : List ℕ). set (set l 0 2) 2 response) ran_laid
        ∙ ((λ i. set (set (laid_of (record { register = sym r i; count = (unpack_of ws).count; line = (unpack_of ws).line; places = (unpack_of ws).places; firmware = turned }) (drop 88 ws)) 0 2) 2 (q i))
        ∙ stored (with_response (unpack_of ws) caller word) (record { line_long = w.line_long; places_long = w.places_long; interrupts_long = w.interrupts_long }) ws (held_long ws h))

pub ruleset ran_cases = (ran_first, ran_third, turn_words)

-- All call leads from a typed mailbox to a typed one. Assumes nothing.
use mathlib.Core.Bool.{Bool, true, false, cond, not}
use mathlib.Core.List.{List, [], ◌∷◌, ◌++◌}
use mathlib.Core.Path.{◌≡◌, refl, ◌∙◌}
use Prim.Native.Nat.{ℕ, zero, suc, ◌/◌, ◌%◌, ◌<◌, ◌≤◌}
use native.Mathlib.Omega.{arith}
use lib.ListN.{length, get_or, set, drop, replicate, length-set}
use lib.Dec.{eqb, leb}
use borrow.Author.Tests.{leb-true}
use Rattle.reply.specs.Reply.{Reply, guard}
use Rattle.reply.specs.Scan.{All}
use Rattle.firmware.specs.Word.{command_in, data_in, word_of}
use Rattle.firmware.specs.Rules.{nothing, answers, interface_off, id_in, kept_for, holding, settled_of, when_saved, delivering, delivery_of, rule_of, run_of}
use Rattle.firmware.proofs.Responses.{either}
use Rattle.std.specs.Prelude.{Option, Some, None}
use Rattle.firmware.specs.declared.Descriptor.{Descriptor}
use Rattle.firmware.specs.declared.Firmware.{Firmware}
use Rattle.firmware.specs.declared.Ran.{Ran}
use Rattle.mailbox.specs.declared.Phase.{Phase}
use Rattle.mailbox.specs.declared.Phase.TheVariants.{Idle, Command, Response}
use Rattle.mailbox.specs.declared.PlaceState.{PlaceState}
use Rattle.mailbox.specs.declared.PlaceState.TheVariants.{Free, Waiting, Ready}
use Rattle.mailbox.specs.declared.Mailbox.{Mailbox}
use Rattle.mailbox.specs.Machine.{post_by, no_post, place_with, state_of, is_free, fresh_mailbox, joined, shifted, with_oldest, freed}
use Rattle.mailbox.specs.Consistent.{consistent_of}
use Rattle.mailbox_calls.specs.Calls.{After, after, leaves, loaded_from, load_of, turned_from, turn_of, unloaded_from, unload_of, taken_from, take_of, post_of}
use Rattle.mailbox.proofs.LineLaws.{shifted_long}
use Rattle.mailbox_layout.proofs.LayoutLaws.{Whole}
use Rattle.mailbox_runs.specs.Typed.{TypedPart, TypedInterrupt, TypedFirmware, TypedPost, TypedState, TypedPlace, TypedPhase, Typed}

-- ---- all of a list
module _ {A : Type 0} (P : A → Type 0) where
  pub all_at : (l : List A) (i : ℕ) (d : A) → All P l → P d → P (get_or l i d)
  all_at [] i d h p = p
  all_at (x ∷ l) zero d h p = h.0
  all_at (x ∷ l) (suc i) d h p = all_at l i d h.1 p

  all_set : (l : List A) (i : ℕ) (v : A) → All P l → P v → All P (set l i v)
  all_set [] i v h p = tt
  all_set (x ∷ l) zero v h p = (p, h.1)
  all_set (x ∷ l) (suc i) v h p = (h.0, all_set l i v h.1 p)

  all_behind : (l : List A) (v : A) → All P l → P v → All P (l ++ (v ∷ []))
  all_behind [] v h p = (p, tt)
  all_behind (x ∷ l) v h p = (h.0, all_behind l v h.1 p)

  all_rest : (l : List A) → All P l → All P (drop 1 l)
  all_rest [] h = tt
  all_rest (x ∷ l) h = h.1

  all_same : (n : ℕ) (v : A) → P v → All P (replicate n v)
  all_same zero v p = tt
  all_same (suc n) v p = (p, all_same n v p)

-- ---- the firmware
word_small : (r s c d : ℕ) → word_of r s c d < 0x1_0000_0000
unfolding word_of
word_small r s c d = omega arith

abbrev TypedRan : Ran → Type 0
TypedRan r = TypedFirmware r.firmware × (r.word < 0x1_0000_0000)

module _ (f : Firmware) (k : TypedFirmware f) where
  answers_typed : (g : Firmware) → TypedFirmware g → (s c d : ℕ) → TypedRan (answers g s c d)
  answers_typed g t s c d = (t, word_small 1 s c d)

  settled_typed : (one two three : Option ℕ) → TypedPart one → TypedPart two → TypedPart three → TypedFirmware (settled_of (holding f one two three))
  unfolding settled_of
  settled_typed None two three a b c = record { part1 = a; part2 = b; part3 = c; interrupts_long = k.interrupts_long; interrupts = k.interrupts }
  settled_typed (Some x) None three a b c = record { part1 = a; part2 = b; part3 = c; interrupts_long = k.interrupts_long; interrupts = k.interrupts }
  settled_typed (Some x) (Some y) None a b c = record { part1 = a; part2 = b; part3 = c; interrupts_long = k.interrupts_long; interrupts = k.interrupts }
  settled_typed (Some x) (Some y) (Some z) a b c = record {
    part1 = tt;
    part2 = tt;
    part3 = tt;
    interrupts_long = length-set f.interrupts _ _ ∙ k.interrupts_long;
    interrupts = all_set TypedInterrupt f.interrupts _ _ k.interrupts (a, b, c);
  }

  delivery_typed : (d : ℕ) → TypedRan (delivery_of f d)
  unfolding delivery_of
  delivery_typed d =
      either TypedRan f.interface _ _ (λ _. answers_typed f k 3 0x85 d)
      (λ _. either TypedRan (not (eqb (d / 2 % 512) 0)) _ _ (λ _. answers_typed f k 0x1F 0x85 d)
      (λ _. saved (kept_for f (id_in d)).descriptor))
    where
      set_typed : TypedFirmware (delivering f d)
      set_typed = record {
        part1 = k.part1;
        part2 = k.part2;
        part3 = k.part3;
        interrupts_long = length-set f.interrupts _ _ ∙ k.interrupts_long;
        interrupts = all_set TypedInterrupt f.interrupts _ _ k.interrupts (all_at TypedInterrupt f.interrupts (id_in d) nothing k.interrupts tt);
      }

      saved : (e : Option Descriptor) → TypedRan (when_saved e (answers f 2 0x85 d) (answers (delivering f d) 0 0x85 d))
      saved None = answers_typed f k 2 0x85 d
      saved (Some kept) = answers_typed (delivering f d) set_typed 0 0x85 d

  rule_typed : (c d : ℕ) → d < 0x1_0000 → TypedRan (rule_of f c d)
  unfolding rule_of
  rule_typed c d h =
      either TypedRan (eqb c 0x80) _ _
      (λ _. answers_typed (interface_off f) (record { part1 = k.part1; part2 = k.part2; part3 = k.part3; interrupts_long = k.interrupts_long; interrupts = k.interrupts }) 0 c d)
      (λ _. either TypedRan (eqb c 0x81) _ _ (λ _. answers_typed f k 0 c (cond f.interface 1 0))
      (λ _. either TypedRan (eqb c 0x82) _ _ (λ _. answers_typed _ (settled_typed (Some d) f.part2 f.part3 h k.part2 k.part3) 0 c d)
      (λ _. either TypedRan (eqb c 0x83) _ _ (λ _. answers_typed _ (settled_typed f.part1 (Some d) f.part3 k.part1 h k.part3) 0 c d)
      (λ _. either TypedRan (eqb c 0x84) _ _ (λ _. answers_typed _ (settled_typed f.part1 f.part2 (Some d) k.part1 k.part2 h) 0 c d)
      (λ _. either TypedRan (eqb c 0x85) _ _ (λ _. delivery_typed d) (λ _. answers_typed f k 1 c d))))))

  run_typed : (w : ℕ) → TypedRan (run_of f w)
  run_typed w = rule_typed (command_in w) (data_in w) (omega arith)

-- ---- the mailbox
pub fresh_typed : Typed fresh_mailbox
fresh_typed = record {
  register = tt;
  line_long = refl;
  line = all_same TypedPost 8 no_post (omega arith, omega arith, omega arith);
  places_long = refl;
  places = all_same TypedPlace 8 (place_with Free) tt;
  firmware = record { part1 = tt; part2 = tt; part3 = tt; interrupts_long = refl; interrupts = all_same TypedInterrupt 64 nothing tt };
}

module _ (m : Mailbox) (k : Typed m) where
  -- a check before what is left
  past_check : {A : Type 0} (b : Bool) (n : ℕ) (x : Reply (After A)) → (b ≡ true → Typed (leaves m x).mailbox) → Typed (leaves m (guard b n x)).mailbox
  past_check true n x h = h refl
  past_check false n x h = k

  with_place : (c : ℕ) (s : PlaceState) → TypedState s → (length (set m.places c (place_with s)) ≡ 8) × All TypedPlace (set m.places c (place_with s))
  with_place c s t = (length-set m.places c (place_with s) ∙ k.places_long, all_set TypedPlace m.places c (place_with s) k.places t)

  joined_typed : (c n d : ℕ) → c ≤ 7 → n ≤ 0x3FF → d < 0x1_0000 → Typed (joined m c n d)
  joined_typed c n d low fit small =
      let p = with_place c Waiting tt in
      record {
        register = k.register;
        line_long = length-set m.line m.count (post_by c n d) ∙ k.line_long;
        line = all_set TypedPost m.line m.count (post_by c n d) k.line (omega arith, omega arith, small);
        places_long = p.0;
        places = p.1;
        firmware = k.firmware;
      }

  pub post_typed : (c n d : ℕ) → d < 0x1_0000 → Typed (post_of m c n d).mailbox
  unfolding post_of
  post_typed c n d small =
      past_check (consistent_of m) 5 _ (λ _. past_check (leb c 7) 9 _ (λ low. past_check (leb n 0x3FF) 9 _ (λ fit. past_check (is_free (state_of m c)) 10 _
      (λ _. joined_typed c n d (leb-true c 7 low) (leb-true n 0x3FF fit) small))))

  oldest_typed : Typed (with_oldest m)
  unfolding shifted
  oldest_typed =
      let p = all_at TypedPost m.line 0 no_post k.line (omega arith, omega arith, omega arith) in
      record {
        register = (p.0, word_small 0 0 _ _);
        line_long = shifted_long m.line k.line_long;
        line = all_behind TypedPost (drop 1 m.line) no_post (all_rest TypedPost m.line k.line) (omega arith, omega arith, omega arith);
        places_long = k.places_long;
        places = k.places;
        firmware = k.firmware;
      }

  pub load_typed : Typed (load_of m).mailbox
  unfolding load_of
  load_typed = past_check (consistent_of m) 5 _ (λ _. go m.register)
    where
      some : (b : Bool) → Typed (cond b (after m false) (after (with_oldest m) true)).mailbox
      some true = k
      some false = oldest_typed

      go : (p : Phase) → Typed (loaded_from m p).mailbox
      go Idle = some (eqb m.count 0)
      go (Command c w) = k
      go (Response c w) = k

  pub turn_typed : Typed (turn_of m).mailbox
  unfolding turn_of
  turn_typed = past_check (consistent_of m) 5 _ (λ _. go m.register k.register)
    where
      go : (p : Phase) → TypedPhase p → Typed (turned_from m p).mailbox
      go Idle t = k
      go (Command c w) t =
          let r = run_typed m.firmware k.firmware w in
          record { register = (t.0, r.1); line_long = k.line_long; line = k.line; places_long = k.places_long; places = k.places; firmware = r.0 }
      go (Response c w) t = k

  pub unload_typed : Typed (unload_of m).mailbox
  unfolding unload_of
  unload_typed = past_check (consistent_of m) 5 _ (λ _. go m.register k.register)
    where
      go : (p : Phase) → TypedPhase p → Typed (unloaded_from m p).mailbox
      go Idle t = k
      go (Command c w) t = k
      go (Response c w) t =
          let p = with_place c (Ready w) t.1 in
          record { register = tt; line_long = k.line_long; line = k.line; places_long = p.0; places = p.1; firmware = k.firmware }

  freed_typed : (c : ℕ) → Typed (freed m c)
  freed_typed c =
      let p = with_place c Free tt in
      record { register = k.register; line_long = k.line_long; line = k.line; places_long = p.0; places = p.1; firmware = k.firmware }

  pub take_typed : (c : ℕ) → Typed (take_of m c).mailbox
  unfolding take_of
  take_typed c = past_check (consistent_of m) 5 _ (λ _. past_check (leb c 7) 9 _ (λ _. go (state_of m c)))
    where
      go : (s : PlaceState) → Typed (leaves m (taken_from m c s)).mailbox
      go Free = k
      go Waiting = k
      go (Ready w) = freed_typed c

pub whole : (m : Mailbox) → Typed m → Whole m
whole m k = record { line_long = k.line_long; places_long = k.places_long; interrupts_long = k.firmware.interrupts_long }

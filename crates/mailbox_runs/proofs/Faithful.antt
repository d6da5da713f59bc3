-- A call on the words of a mailbox is the mailbox's own, proved. Assumes nothing.
use mathlib.Core.Bool.{true, false}
use mathlib.Core.Path.{◌≡◌, refl, sym, ap, subst, ◌∙◌}
use mathlib.Core.List.{List, ◌++◌}
use Prim.Native.Nat.{ℕ, ◌<◌, ◌≤◌}
use native.Mathlib.Omega.{arith}
use lib.ListN.{length, drop, length-append}
use lib.Seq.{drop-append_seam}
use lib.Dec.{leb}
use borrow.Author.Tests.{le-leb, lt-leb}
use Rattle.reply.specs.Reply.{Reply, given, refused, guard}
use Rattle.lent.specs.Lent.{number_of, words_for}
use Rattle.lent.proofs.Laws.{words_fits}
use Rattle.lent.proofs.Begins.{begins_front}
use Rattle.mailbox.specs.declared.Mailbox.{Mailbox}
use Rattle.mailbox.specs.Machine.{state_of, is_free, joined}
use Rattle.mailbox.specs.Consistent.{consistent_of}
use Rattle.mailbox_calls.specs.Calls.{After, after, leaves, accepted, loaded_from, turned_from, unloaded_from, taken_from, post_of, load_of, turn_of, unload_of, take_of}
use Rattle.mailbox_layout.specs.Layout.{pack_of}
use Rattle.mailbox_words.specs.Calls.{lay_accepted, lay_acted, lay_word, Left, left, left_with, left_by, call_on, post_on, load_on, turn_on, unload_on, take_on}
use Rattle.mailbox_held.specs.Held.{held_in}
use Rattle.mailbox_runs.specs.Typed.{Typed}
use Rattle.mailbox_runs.specs.Faithful.{Room, values_after, Through, AllFaithful}
use Rattle.mailbox_layout.proofs.LayoutLaws.{Whole, pack_long}
use Rattle.mailbox_runs.proofs.TypedLaws.{whole, fresh_typed, post_typed, load_typed, turn_typed, unload_typed, take_typed}
use Rattle.mailbox_runs.proofs.Back.{back}

-- a mailbox's words after a mailbox's words
front_packed : (m n : Mailbox) (behind : List ℕ) → Whole m → Whole n → words_for (pack_of n) (pack_of m ++ behind) ≡ pack_of n ++ behind
front_packed m n behind v w =
    let a = pack_long m v in
    let b = pack_long n w in
    let l = length-append (pack_of m) behind in
    let e : length (pack_of n) ≡ length (pack_of m) = omega arith in
    sym (words_fits (pack_of n) (pack_of m ++ behind) (omega arith)) ∙ ap (λ t. pack_of n ++ t) (ap (λ j. drop j (pack_of m ++ behind)) e ∙ drop-append_seam (pack_of m) behind)

more_leb : (a b : ℕ) → (a ≤ b → ⊥) → leb a b ≡ false
more_leb a b h = lt-leb a b (omega arith)

module _ {A : Type 0} (lay : A → List ℕ) (call : Mailbox → After (Reply A)) (m : Mailbox) (k : Typed m) (x : Reply (After A)) (is : call m ≡ leaves m x) (typed : Typed (call m).mailbox) where
  held : (behind : List ℕ) → held_in (pack_of m ++ behind) ≡ true
  unfolding held_in
  held behind = rw (back m k behind) (begins_front (pack_of m) behind)

  on : (behind values : List ℕ) → call_on lay call (pack_of m ++ behind) values ≡ left_by lay (leaves m x).mailbox (leaves m x).answer (pack_of m ++ behind) values
  unfolding call_on
  on behind values = rw (held behind, back m k behind, is)

  number_of_lem : (y : Reply (After A)) (behind values : List ℕ) → Room lay (leaves m y).answer values → (left_by lay (leaves m y).mailbox (leaves m y).answer (pack_of m ++ behind) values).number ≡ number_of (leaves m y).answer
  unfolding left_with
  number_of_lem (given a) behind values room = rw (le-leb _ _ room)
  number_of_lem (refused number carried) behind values room = refl

  words_of : (y : Reply (After A)) → Typed (leaves m y).mailbox → (behind values : List ℕ) → Room lay (leaves m y).answer values → (left_by lay (leaves m y).mailbox (leaves m y).answer (pack_of m ++ behind) values).words ≡ pack_of (leaves m y).mailbox ++ behind
  unfolding left_with
  words_of (given a) t behind values room = rw (le-leb _ _ room) (front_packed m a.mailbox behind (whole m k) (whole a.mailbox t))
  words_of (refused number carried) t behind values room = refl

  values_of : (y : Reply (After A)) (behind values : List ℕ) → Room lay (leaves m y).answer values → (left_by lay (leaves m y).mailbox (leaves m y).answer (pack_of m ++ behind) values).values ≡ values_after lay (leaves m y).answer values
  unfolding left_with
  values_of (given a) behind values room = rw (le-leb _ _ room)
  values_of (refused number carried) behind values room = refl

  short_of : (y : Reply (After A)) (behind values : List ℕ) → (Room lay (leaves m y).answer values → ⊥) → left_by lay (leaves m y).mailbox (leaves m y).answer (pack_of m ++ behind) values ≡ left 12 (pack_of m ++ behind) values
  unfolding left_with
  short_of (given a) behind values none = rw (more_leb _ _ none)
  short_of (refused number carried) behind values none = absurd (none tt)

  through : Through lay (call m) (call_on lay call) m
  through =
      subst (λ (a : After (Reply A)). Typed a.mailbox → Through lay a (call_on lay call) m) (sym is)
      (λ t. record {
        number = λ behind values room. ap (λ (l : Left). l.number) (on behind values) ∙ number_of_lem x behind values room;
        words = λ behind values room. ap (λ (l : Left). l.words) (on behind values) ∙ words_of x t behind values room;
        values = λ behind values room. ap (λ (l : Left). l.values) (on behind values) ∙ values_of x behind values room;
        no_room = λ behind values none. on behind values ∙ short_of x behind values none;
        typed = t;
      }) typed

module _ (m : Mailbox) (k : Typed m) where
  post_through : (c n d : ℕ) → d < 0x1_0000 → Through lay_accepted (post_of m c n d) (post_on c n d) m
  unfolding post_of
  post_through c n d small =
      through lay_accepted (λ m. post_of m c n d) m k
      (guard (consistent_of m) 5 (guard (leb c 7) 9 (guard (leb n 0x3FF) 9 (guard (is_free (state_of m c)) 10 (given (after (joined m c n d) accepted))))))
      refl (post_typed m k c n d small)

  load_through : Through lay_acted (load_of m) load_on m
  unfolding load_of
  load_through = through lay_acted load_of m k (guard (consistent_of m) 5 (given (loaded_from m m.register))) refl (load_typed m k)

  turn_through : Through lay_acted (turn_of m) turn_on m
  unfolding turn_of
  turn_through = through lay_acted turn_of m k (guard (consistent_of m) 5 (given (turned_from m m.register))) refl (turn_typed m k)

  unload_through : Through lay_acted (unload_of m) unload_on m
  unfolding unload_of
  unload_through = through lay_acted unload_of m k (guard (consistent_of m) 5 (given (unloaded_from m m.register))) refl (unload_typed m k)

  take_through : (c : ℕ) → Through lay_word (take_of m c) (take_on c) m
  unfolding take_of
  take_through c = through lay_word (λ m. take_of m c) m k (guard (consistent_of m) 5 (guard (leb c 7) 9 (taken_from m c (state_of m c)))) refl (take_typed m k c)

pub all_faithful : AllFaithful
all_faithful = record {
  fresh = fresh_typed;
  all = λ m k. record { long = pack_long m (whole m k); back = back m k; post_through = post_through m k; load_through = load_through m k; turn_through = turn_through m k; unload_through = unload_through m k; take_through = take_through m k };
}

use mathlib.Core.Path.{◌≡◌, refl, sym, ap, ◌∙◌}
use mathlib.Core.List.{List}
use mathlib.Core.Bool.{true}
use Prim.Native.Nat.{ℕ, ◌<◌}
use lib.ListN.{length}
use lib.Dec.{eqb}
use borrow.Author.Tests.{eqb-true, eqb-false}
use native.Mathlib.Omega.{arith}
use Rattle.lent.specs.Lent.{number_left, words_left, bytes_left, lay_number}
use Rattle.lent.proofs.Changed.{given_bytes, alone_bytes, no_words, number_none, words_none, bytes_none}
use Rattle.guids_build.specs.Write.{extend_of, extended_by}
use Rattle.guids_words.specs.GuidTable.{guid_of}
use Rattle.guids_words.proofs.extend.Goals as goal

empty : (words : List ℕ) → eqb (length words) 0 ≡ true → length words < 1
empty words e = let none = eqb-true (length words) 0 e in omega arith

-- no word is lent: no byte is written, whatever the extend would answer
pub returns-then-is_empty-clause-value : goal.returns-then-is_empty-clause-value
returns-then-is_empty-clause-value c = let a = c.args in
    let d = extend_of a.buf.now a.bytes.now in
    let none = no_words a.words.now (empty _ (sym c.is_empty.ensures ∙ c.if-is_empty.true)) in
    number_none d _ (sym c.in_ok-admit.ensures) ∙ ap (number_left lay_number d) (sym none)

pub returns-then-is_empty-clause-words_after : goal.returns-then-is_empty-clause-words_after
returns-then-is_empty-clause-words_after c = let a = c.args in
    let d = extend_of a.buf.now a.bytes.now in
    let none = no_words a.words.now (empty _ (sym c.is_empty.ensures ∙ c.if-is_empty.true)) in
    none ∙ words_none d ∙ ap (words_left lay_number d) (sym none)

pub returns-then-is_empty-clause-buf_after : goal.returns-then-is_empty-clause-buf_after
returns-then-is_empty-clause-buf_after c = let a = c.args in
    let d = extend_of a.buf.now a.bytes.now in
    let after = extended_by a.buf.now (guid_of a.low a.high) a.bytes.now in
    let none = no_words a.words.now (empty _ (sym c.is_empty.ensures ∙ c.if-is_empty.true)) in
    bytes_none d after a.buf.now (λ number carried. refl) ∙ ap (bytes_left lay_number d after a.buf.now) (sym none)

pub returns-in_err-admit-clause-buf_after : goal.returns-in_err-admit-clause-buf_after
returns-in_err-admit-clause-buf_after c = let a = c.args in
    let d = extend_of a.buf.now a.bytes.now in
    let after = extended_by a.buf.now (guid_of a.low a.high) a.bytes.now in
    ap after c.in_err-admit.ensures ∙ alone_bytes lay_number d after a.buf.now a.words.now _ (sym c.in_err-admit.ensures)

pub returns-in_err-total-clause-buf_after : goal.returns-in_err-total-clause-buf_after
returns-in_err-total-clause-buf_after c = let a = c.args in
    let d = extend_of a.buf.now a.bytes.now in
    let after = extended_by a.buf.now (guid_of a.low a.high) a.bytes.now in
    let e = c.in_err-total.ensures in
    e.buf_after ∙ alone_bytes lay_number d after a.buf.now a.words.now _ (sym e.result_value)

pub returns-clause-buf_after : goal.returns-clause-buf_after
returns-clause-buf_after c = let a = c.args in
    let d = extend_of a.buf.now a.bytes.now in
    let after = extended_by a.buf.now (guid_of a.low a.high) a.bytes.now in
    let e = c.in_ok-total.ensures in
    let some = eqb-false (length a.words.now) 0 (sym c.is_empty.ensures ∙ c.if-is_empty.false) in
    e.buf_after ∙ given_bytes lay_number d after a.buf.now a.words.now _ (sym e.result_value) (omega arith)

use mathlib.Core.Path.{◌≡◌, refl, sym, ap, ◌∙◌}
use Prim.Native.Nat.{ℕ}
use native.Mathlib.Omega.{arith}
use lib.ListN.{length}
use Rattle.std.proofs.Common.{rules}
use Rattle.reply.specs.Reply.{Reply, given, then}
use Rattle.guids.specs.Table.{entries_under, totals_of}
use Rattle.guids.proofs.Walk.{header_facts, given_too, refused_too}
use Rattle.guids.proofs.Part.{count_under}
use Rattle.guids.proofs.table.Goals as goal

pub returns-in_err-entries : goal.returns-in_err-entries
returns-in_err-entries c = let s = c.args.image.now in
    let t = c.in_ok-total.total in
    let h = c.in_ok-total.ensures in
    let f = header_facts s t (sym h) in
    let count = sym (count_under s t _ _ f c.entries_part.ensures refl) ∙ sym c.in_err-entries.ensures in
    let refused = refused_too (entries_under s t) length (totals_of s) _ _ count in
    search (rules, refused, ap (λ (x : Reply ℕ). then (then x (entries_under s)) (totals_of s)) h)

pub returns : goal.returns
returns c = let s = c.args.image.now in
    let t = c.in_ok-total.total in
    let h = c.in_ok-total.ensures in
    let f = header_facts s t (sym h) in
    let count = sym (count_under s t _ _ f c.entries_part.ensures refl) ∙ sym c.in_ok-entries.ensures in
    let total : c.from.result ≡ t = omega arith in
    given_too (entries_under s t) length (totals_of s) _ _ count (λ es q. λ j. given (record { total = (f.is ∙ sym total) j; entries = q j }))
    ∙ ap (λ (x : Reply ℕ). then (then x (entries_under s)) (totals_of s)) h

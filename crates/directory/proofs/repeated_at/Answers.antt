use mathlib.Core.Path.{sym, ap, subst, ◌∙◌}
use Prim.Native.Nat.{ℕ, ◌≤◌}
use lib.ListN.{length}
use Rattle.reply.specs.Reply.{refused, carried_of}
use Rattle.reply.specs.Number.{refusal_number}
use Rattle.reply.specs.declared.Refusal.{Refusal}
use Rattle.directory.specs.Directory.{entry_place}
use Rattle.directory.proofs.Named.{entries_present}
use Rattle.directory.proofs.repeated_at.Goals as goal

-- where an entry repeats, all entries are present
pub invariant_of-entries : goal.invariant_of-entries
invariant_of-entries c =
    let a = c.args in
    let here = carried_of c.in-Err.fault.met in
    let is = sym c.in-Err.ensures ∙ ap (λ (r : Refusal). refused (refusal_number r) here) c.in-Repeated.is in record {
      inside = subst (λ (n : ℕ). entry_place a.kind a.at.0 n ≤ length a.image.now) (sym c.u32_at-total.ensures) (entries_present a.kind a.limit a.level a.image.now a.at.0 here is);
      bytes = λ j. (c.type_inv.image j).fits;
    }

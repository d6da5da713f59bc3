-- No two answers of a call that leaves words tell the same number. Assumes nothing.
use mathlib.Core.Path.{◌≡◌, refl, sym, ap, ◌∙◌}
use Rattle.std.specs.Prelude.{Result, Ok, Err}
use Rattle.reply.specs.declared.Refusal.{Refusal}
use Rattle.reply.specs.Back.{refusal_by}
use Rattle.reply.proofs.Told.{refusal_back, refusal_above}
use Rattle.lent.specs.Lent.{answered}
use Rattle.lent.specs.Told.{AnsweredApart}

answered_one : (x y : Result (Unit {0}) Refusal) → answered x ≡ answered y → x ≡ y
answered_one (Ok x) (Ok y) e = refl
answered_one (Ok x) (Err refusal) e = absurd (refusal_above refusal (sym e))
answered_one (Err refusal) (Ok y) e = absurd (refusal_above refusal e)
answered_one (Err refusal) (Err other) e = ap Err (sym (refusal_back refusal) ∙ ap refusal_by e ∙ refusal_back other)

pub answered_apart : AnsweredApart
answered_apart = record { apart = answered_one; settled = λ promised x y p q. answered_one x y (p ∙ sym q) }

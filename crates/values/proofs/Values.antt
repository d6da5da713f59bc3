-- The table of M1 to M10 holds. Assumes nothing.
use mathlib.Core.Path.{◌≡◌, refl}
use mathlib.Core.List.{List}
use Prim.Native.Nat.{ℕ}
use native.Mathlib.Omega.{arith}
use Rattle.le.specs.Le.{le_at, le_bytes, bytes_of}
use Rattle.fletcher.specs.Fletcher.{words_at, sum_of, weighted_of, fletcher_of}
use Rattle.build.specs.Write.{entry_bytes, entries_bytes, directory_bytes}
use Rattle.firmware.specs.Word.{word_of}
use Rattle.firmware.specs.Rules.{rule_of, delivery_of, settled_of}
use Rattle.guids.proofs.Found.{least_total}
use Rattle.values.specs.Values.{Values}

pub values : Values
unfolding le_at le_bytes bytes_of words_at sum_of weighted_of fletcher_of entry_bytes entries_bytes directory_bytes rule_of word_of delivery_of settled_of
values = (λ level. refl, (λ level. refl, (refl, (refl, (refl, (refl, (refl, (λ state. refl, (least_total.none, (λ image long foot is. least_total.fewer image long foot (omega arith), tt))))))))))

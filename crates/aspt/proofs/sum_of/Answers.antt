use borrow.Author.Rules.{rules}
use native.Mathlib.Omega.{arith}
use mathlib.Core.Path.{◌≡◌}
use Prim.Native.Nat.{◌+◌, ◌%◌}
use Rattle.std.specs.List.{fold}
use Rattle.aspt.proofs.Checks.{sum_by}
use Rattle.aspt.proofs.sum_of.Goals as goal

pub returns : goal.returns
returns c =
    let bytes = c.args.bytes.now in
    let folded : c.fold.result ≡ fold (λ s b. (s + b) % 256) 0 bytes = search rules in
    omega (arith, folded, sum_by 0 bytes)

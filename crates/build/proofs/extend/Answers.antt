use mathlib.Core.Path.{◌≡◌, sym, ap, ◌∙◌}
use Prim.Native.Nat.{◌-◌}
use native.Mathlib.Omega.{arith}
use Rattle.directory.specs.Directory.{psp_kind, checksum_at}
use Rattle.build.proofs.Accept.{extend_only}
use Rattle.build.proofs.extend.Goals as goal

pub append-requires : goal.append-requires
append-requires c =
    let a = c.args in
    let x = extend_only a.f a.buf.now c.in_ok-total.total (sym c.in_ok-total.ensures) in
    let g = x.2 in
    let last : x.1 ≡ c.in_ok-total.total - 1 = omega (arith, x.3) in
    record {
      location_bound = (g.fits.location, g.fits.mode);
      le_total = (omega (arith, x.3), omega (arith, x.3, g.few), omega (arith, x.3, g.room));
      buf_value = (g.good.total ∙ last, g.good.checksum ∙ ap (checksum_at psp_kind a.buf.now 0) last);
    }

use Prim.Native.Nat.{◌<◌}
use native.Mathlib.Omega.{arith}
use Rattle.quant.proofs.ScanLaws.{inv-back}
use Rattle.slice_scan.specs.Scan.{scanned_of}
use Rattle.std.proofs.lemmas.Nat.{row_fits, div-mul-add, mod-mul-add}
use Rattle.slice_scan.proofs.LaidLaws.{laid-part, laid-tab}
use Rattle.slice_scan.proofs.scan_component.Goals as goal

pub scan_index-requires : goal.scan_index-requires
scan_index-requires c =
    let nat : c.from.result < 64 = rw (c.from.ensures, c.inv_scan-inv.ensures) (inv-back c.args.interlaced c.loop-n.n c.loop-n-test.true).below in
    (rw c.loop-n.invariant.long c.requires, omega arith, grind (arith, row_fits))

pub loop-n-preserved : goal.loop-n-preserved
loop-n-preserved c =
    let n = c.loop-n.n in
    laid-part n c.loop-n.invariant c.scan_index.ensures (omega arith)
    (λ k h. simp (c.from.ensures, c.inv_scan-inv.ensures, div-mul-add n _ k h, mod-mul-add n _ k h))

pub returns : goal.returns
unfolding scanned_of
returns c = laid-tab c.loop-n.invariant (grind arith) (omega arith)

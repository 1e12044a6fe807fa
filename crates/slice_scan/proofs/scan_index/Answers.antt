use mathlib.Core.Path.{refl, sym}
use Rattle.slice_scan.proofs.LaidLaws.{laid-part}
use Rattle.slice_scan.proofs.ScanLaws.{natural-join}
use Rattle.slice_scan.proofs.scan_index.Goals as goal

pub loop-m-preserved : goal.loop-m-preserved
loop-m-preserved c =
    let a = c.args in
    laid-part c.loop-m.m c.loop-m.invariant c.scan_macroblock.ensures refl
    (λ b h. sym (natural-join a.at.per a.at.off a.at.c a.blocks.now a.nat c.loop-m.m b h))

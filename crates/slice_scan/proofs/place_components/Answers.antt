use native.Mathlib.Omega.{arith}
use Rattle.quant.proofs.ScanLaws.{scan-back}
use Rattle.slice_scan.specs.Scan.{placed_of}
use Rattle.slice_scan.proofs.LaidLaws.{laid-tab}
use Rattle.slice_scan.proofs.place_components.Goals as goal

pub place_any-requires : goal.place_any-requires
place_any-requires c = (
  rw c.loop-j.invariant.long c.requires,
  record { below = λ k h. rw c.block_scan-scan.ensures (scan-back _ k h).below },
  omega arith,
)

pub returns : goal.returns
unfolding placed_of
returns c = laid-tab c.loop-j.invariant (omega arith) (omega arith)

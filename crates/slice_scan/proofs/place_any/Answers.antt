-- `slice_scan::place_any` meets its contract: the three parts of a macroblock are the three cases of `coefficient`.
use mathlib.Core.Path.{sym}
use Rattle.slice_scan.proofs.LaidLaws.{laid_by}
use Rattle.slice_scan.proofs.ScanLaws.{coefficient-y, coefficient-cb, coefficient-cr}
use Rattle.slice_scan.proofs.place_any.Goals as goal

pub returns-then-p-lt4 : goal.returns-then-p-lt4
returns-then-p-lt4 c = laid_by c.place_block.ensures (λ k h. sym (coefficient-y _ _ _ _ _ _ _ c.if-p-lt4.true))

pub returns-then-p-c : goal.returns-then-p-c
returns-then-p-c c = laid_by c.place_block-then-p-c.ensures (λ k h. sym (coefficient-cb _ _ _ _ _ _ _ c.if-p-lt4.false c.if-p-c.true))

pub returns-else-p-c : goal.returns-else-p-c
returns-else-p-c c = laid_by c.place_block-else-p-c.ensures (λ k h. sym (coefficient-cr _ _ _ _ _ _ _ c.if-p-lt4.false c.if-p-c.false))

-- `slice_scan::scan_component` meets its contract. The invariant: the coefficients of n scanned indices are laid.
use Rattle.std.proofs.Common.{◌*◌, ◌/◌, ◌%◌, get_or}
use Rattle.quant.specs.Scans.{inv_of}
use Rattle.slice_scan.specs.Scan.{natural}
use Rattle.slice_scan.specs.Shapes.{Laid}
use Rattle.slice_scan.proofs.scan_component.Given as goal

abbrev pub invariant-loop-n : goal.invariant-loop-n
invariant-loop-n l = Laid (λ k. natural l.at.per l.at.off l.at.c l.blocks (get_or (inv_of l.interlaced) (k / l.total) 0) (k % l.total)) 0 (l.n * l.total) l.initial.out l.out

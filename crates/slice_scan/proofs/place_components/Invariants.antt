-- `slice_scan::place_components` meets its contract. The invariant: j blocks are laid.
use Rattle.std.proofs.Common.{◌*◌, ◌/◌, ◌%◌}
use Rattle.quant.specs.Scans.{scan_of}
use Rattle.slice_scan.specs.Scan.{placed}
use Rattle.slice_scan.specs.Shapes.{Laid}
use Rattle.slice_scan.proofs.place_components.Given as goal

abbrev pub invariant-loop-j : goal.invariant-loop-j
invariant-loop-j l = Laid (λ x. placed (scan_of l.interlaced) l.mbs l.c l.lists.y.now l.lists.cb.now l.lists.cr.now (x / 64) (x % 64)) 0 (l.j * 64) l.initial.out l.out

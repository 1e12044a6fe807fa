-- `slice_scan::scan_index` meets its contract. The invariant: the coefficients of m macroblocks are laid.
use Rattle.std.proofs.Common.{◌*◌}
use Rattle.slice_scan.specs.Scan.{natural}
use Rattle.slice_scan.specs.Shapes.{Laid}
use Rattle.slice_scan.proofs.scan_index.Given as goal

abbrev pub invariant-loop-m : goal.invariant-loop-m
invariant-loop-m l = Laid (natural l.at.per l.at.off l.at.c l.blocks l.nat) l.d (l.m * l.at.c) l.initial.out l.out

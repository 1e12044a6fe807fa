-- `slice_scan::scan_macroblock` meets its contract. The invariant: b coefficients are laid.
use Rattle.std.proofs.Common.{◌+◌, ◌*◌, pos, get_or}
use Rattle.slice_scan.specs.Shapes.{Laid}
use Rattle.slice_scan.proofs.scan_macroblock.Given as goal

abbrev pub invariant-loop-b : goal.invariant-loop-b
invariant-loop-b l = Laid (λ k. get_or l.blocks ((l.first + k) * 64 + l.nat) (pos 0)) l.d l.b l.initial.out l.out

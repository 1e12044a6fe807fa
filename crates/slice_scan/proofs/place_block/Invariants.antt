-- `slice_scan::place_block` meets its contract. The invariant: nat coefficients are laid.
use Rattle.std.proofs.Common.{◌+◌, ◌*◌, pos, get_or}
use Rattle.slice_scan.specs.Shapes.{Laid}
use Rattle.slice_scan.proofs.place_block.Given as goal

abbrev pub invariant-loop-nat : goal.invariant-loop-nat
invariant-loop-nat l = Laid (λ k. get_or l.list (get_or l.scan k 0 * l.total + l.base) (pos 0)) l.d l.nat l.initial.out l.out

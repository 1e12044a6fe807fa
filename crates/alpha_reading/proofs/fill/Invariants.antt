-- `alpha_reading::fill` meets its contract. The invariant: the places that the loop has passed hold v.
use Rattle.std.proofs.Common.{◌≡◌, take}
use Rattle.std.proofs.Math.ListN.{replicate}
use Rattle.alpha_reading.proofs.fill.Given as goal

abbrev pub invariant-loop-x : goal.invariant-loop-x
invariant-loop-x l = take l.x-index l.out ≡ replicate l.x-index l.v

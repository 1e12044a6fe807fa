-- `quant::weights::blend_table` meets its contract. The invariant: what is stored, and what is still to blend, are the blended table.
use mathlib.Core.Path.{◌≡◌}
use mathlib.Core.List.{◌++◌}
use lib.ListN.{length, take, drop}
use Rattle.quant.specs.Weights.{blend_table}
use Rattle.quant.proofs.weights.blend_table.Given as goal

abbrev pub invariant-loop-i : goal.invariant-loop-i
invariant-loop-i l = (length l.out ≡ 64) × (take l.i l.out ++ blend_table l.p (drop l.i l.fn.t) ≡ blend_table l.p l.fn.t)

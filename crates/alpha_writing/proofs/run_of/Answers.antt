-- `alpha_writing::run_of` meets its contract.
use native.Mathlib.Omega.{arith}
use Rattle.std.proofs.lemmas.List.Sums.{prefix_len-le-length}
use Rattle.alpha_writing.proofs.RunLaws.{run_lem}
use Rattle.alpha_writing.proofs.run_of.Goals as goal

pub overflow_add-result : goal.overflow_add-result
overflow_add-result c = grind (arith, c.same.ensures, prefix_len-le-length)

pub returns : goal.returns
returns c = rw c.same.ensures (run_lem c.args.samples.now c.min-most.result c.requires c.min-most.ensures)

-- `alpha_writing::out_of_range` meets its contract. The invariant: what was found so far, and the samples that are left, decide it.
use mathlib.Core.Path.{◌≡◌}
use mathlib.Core.Bool.{not, ◌||◌}
use lib.ListN.{drop}
use Rattle.alpha_elements.specs.Limits.{samples_in_range}
use Rattle.alpha_writing.proofs.out_of_range.Given as goal

abbrev pub invariant-loop-s : goal.invariant-loop-s
invariant-loop-s l = not (samples_in_range l.fn.kind l.samples) ≡ (l.wrong || not (samples_in_range l.fn.kind (drop l.s-index l.samples)))

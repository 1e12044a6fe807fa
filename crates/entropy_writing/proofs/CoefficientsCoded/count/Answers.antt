use native.Mathlib.Omega.{arith}
use Rattle.entropy_writing.proofs.CoefficientsCoded.count.Goals as goal

pub returns-clause-small : goal.returns-clause-small
returns-clause-small c = omega (arith, c.count.ensures)

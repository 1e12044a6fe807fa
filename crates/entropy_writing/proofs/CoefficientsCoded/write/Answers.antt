use native.Mathlib.Omega.{arith}
use Rattle.entropy_writing.proofs.WritingLaws.{encode-le}
use Rattle.entropy_writing.proofs.CoefficientsCoded.write.Goals as goal

pub returns-clause-small : goal.returns-clause-small
returns-clause-small c = let f = c.args.self.now.encodable in omega (arith, c.write.ensures.count, encode-le f, f.few)

-- A code of so many blocks is within `BLOCK_BYTES` of each.
use native.Mathlib.Omega.{arith}
use Rattle.entropy_writing.proofs.WritingLaws.{encode-le}
use Rattle.entropy_writing.proofs.CoefficientsCoded.most_bytes.Goals as goal

pub returns : goal.returns
returns c = omega (arith, encode-le c.args.self.now.encodable)

-- `entropy_writing::count` meets its contract.
use native.Mathlib.Omega.{arith}
use Rattle.entropy_writing.proofs.WritingLaws.{encode-le}
use Rattle.entropy_writing.proofs.count.Goals as goal

pub code-requires : goal.code-requires
code-requires c = omega (arith, encode-le c.requires, c.requires.few)

pub returns : goal.returns
returns c = (omega (arith, c.code.ensures.next), omega (arith, c.code.ensures.next, encode-le c.requires, c.requires.few))

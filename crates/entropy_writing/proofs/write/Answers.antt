-- `entropy_writing::write` meets its contract.
use native.Mathlib.Omega.{arith}
use Rattle.bitstream_writer.proofs.PassLaws.{puts_stored}
use Rattle.entropy_writing.proofs.WritingLaws.{encode-le}
use Rattle.entropy_writing.proofs.write.Goals as goal

pub code-requires : goal.code-requires
code-requires c = let f = c.requires.0 in record { inside = c.requires.1; below = omega (arith, encode-le f, f.few) }

pub returns-clause-buffer : goal.returns-clause-buffer
returns-clause-buffer c = puts_stored c.code.ensures

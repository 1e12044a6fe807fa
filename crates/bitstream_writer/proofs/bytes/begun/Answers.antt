-- `bitstream_writer::bytes::begun` meets its contract: the bits are the byte's high ones, by a shift, and none at a byte's start.
use native.Mathlib.Omega.{arith}
use Rattle.bitstream.proofs.PutLaws.{begun-none, begun-shift}
use Rattle.bitstream_writer.proofs.bytes.begun.Goals as goal

pub returns-then-r-eq0 : goal.returns-then-r-eq0
returns-then-r-eq0 c = begun-none c.args.buf.now c.args.at (omega arith)

pub returns-else-r-eq0 : goal.returns-else-r-eq0
returns-else-r-eq0 c = rw c.from.ensures (begun-shift c.args.buf.now c.args.at (omega arith))

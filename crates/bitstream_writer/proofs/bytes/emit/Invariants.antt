-- `bitstream_writer::bytes::emit` meets its contract. The invariant: what is still to be written, written into the buffer as it is, gives the
-- contract's buffer.
use mathlib.Core.Path.{◌≡◌}
use Prim.Native.Nat.{◌+◌, ◌*◌}
use lib.ListN.{length}
use Rattle.bitstream.specs.Bits.{field}
use Rattle.bitstream.specs.Puts.{stored_from}
use Rattle.bitstream_writer.proofs.bytes.emit.Given as goal

abbrev pub invariant-loop-j : goal.invariant-loop-j
invariant-loop-j l =
    (stored_from l.buf l.j (field l.left l.word) ≡ stored_from l.initial.buf l.i (field l.n l.word)) × (length l.buf ≡ length l.initial.buf)
    × (8 * l.j + l.left ≡ 8 * l.i + l.n)

-- `bitstream_writer::codes::encode` meets its contract.
use Prim.Native.Nat.{◌≤◌}
use native.Mathlib.Omega.{arith}
use lib.ListN.{length}
use Rattle.bitstream.specs.Bytes.{bytes_for}
use Rattle.bitstream.proofs.WrittenLaws.{written-room, written-done}
use Rattle.bitstream_writer.proofs.codes.encode.Goals as goal
use Rattle.bitstream_writer.proofs.codes.encode.Goals.{then-out-most_bytes+else-out-needed, else-out-most_bytes}

pub returns-then-out-needed : goal.returns-then-out-needed
returns-then-out-needed g c =
    rw c.sized-needed.ensures.1 (written-room (g.C.Coded.code c.args.coded.now) c.args.out.now c.count.ensures.count (rw c.sized-needed.ensures.1 at c.if-out-needed.true))

pub returns : goal.returns
returns g c =
    let old = c.args.out.now in
    let code = g.C.Coded.code c.args.coded.now in
    let room : bytes_for c.write.result ≤ length old =
    elim c.if-out-most_bytes.branch [
      | then-out-most_bytes+else-out-needed w ↦ omega (arith, w.if-out-needed.false, w.sized-needed.ensures.1, w.count.ensures.count, c.write.ensures.count)
      | else-out-most_bytes w ↦ omega (arith, w.if-out-most_bytes.false, c.most_bytes.ensures, c.write.ensures.count)
    ] in
    rw (c.sized.ensures.0, c.sized.ensures.1) (written-done code old c.write.ensures.count room c.write.ensures.count c.write.ensures.buffer)

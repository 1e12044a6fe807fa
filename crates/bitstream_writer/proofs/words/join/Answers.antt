-- `bitstream_writer::words::join` meets its contract: two words side by side are one field.
use native.Mathlib.Omega.{arith}
use Rattle.bitstream_writer.proofs.WordLaws.{joined_short, joins_lem}
use Rattle.bitstream_writer.proofs.words.join.Goals as goal

pub overflow_mul-result : goal.overflow_mul-result
overflow_mul-result c =
    let a = c.args in
    rw c.pow2.ensures (omega (arith, joined_short a.front a.behind c.requires.0.fits c.requires.1.fits c.requires.2))

pub overflow_add-result-2 : goal.overflow_add-result-2
overflow_add-result-2 c =
    let a = c.args in
    rw c.pow2.ensures (omega (arith, joined_short a.front a.behind c.requires.0.fits c.requires.1.fits c.requires.2))

pub returns : goal.returns
returns c = rw c.pow2.ensures (joins_lem c.args.front c.args.behind c.requires.0.fits c.requires.1.fits)

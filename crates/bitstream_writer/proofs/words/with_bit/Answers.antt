-- `bitstream_writer::words::with_bit` meets its contract: a bit behind a field is one digit more of its number.
use Rattle.bitstream.proofs.PlaceLaws.{byte-val}
use Rattle.bitstream_writer.proofs.WordLaws.{one_more_lem}
use Rattle.bitstream_writer.proofs.words.with_bit.Goals as goal

pub returns : goal.returns
returns c = rw (c.from.ensures, byte-val) (one_more_lem c.args.w.len c.args.w.bits c.args.bit c.requires.1 c.requires.2)

use Rattle.bitstream_writer.proofs.WordLaws.{puts_word}
use Rattle.bitstream_writer.proofs.passes.WritingPass.put.Goals as goal

pub returns : goal.returns
returns c = puts_word c.args.w c.put.ensures.next c.put.ensures.buffer

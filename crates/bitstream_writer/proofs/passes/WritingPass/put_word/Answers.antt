use Rattle.bitstream_writer.proofs.WordLaws.{puts_word}
use Rattle.bitstream_writer.proofs.passes.WritingPass.put_word.Goals as goal

pub returns : goal.returns
returns c = puts_word c.args.w c.put_word.ensures.next c.put_word.ensures.buffer

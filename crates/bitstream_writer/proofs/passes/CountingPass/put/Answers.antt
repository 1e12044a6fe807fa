use Rattle.bitstream_writer.proofs.PassLaws.{counts_word}
use Rattle.bitstream_writer.proofs.passes.CountingPass.put.Goals as goal

pub returns : goal.returns
returns c = counts_word c.args.out.now c.args.at c.args.w

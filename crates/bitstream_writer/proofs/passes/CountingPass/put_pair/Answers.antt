use Rattle.bitstream_writer.proofs.PassLaws.{counts_pair}
use Rattle.bitstream_writer.proofs.passes.CountingPass.put_pair.Goals as goal

pub returns : goal.returns
returns c = counts_pair c.args.out.now c.args.at c.args.front c.args.behind

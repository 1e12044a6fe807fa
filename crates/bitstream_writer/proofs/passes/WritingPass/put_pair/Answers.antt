use Rattle.bitstream.proofs.PutLaws.{puts_then}
use Rattle.bitstream_writer.proofs.WordLaws.{puts_word}
use Rattle.bitstream_writer.proofs.passes.WritingPass.put_pair.Goals as goal

pub returns-else-front-behind-le56 : goal.returns-else-front-behind-le56
returns-else-front-behind-le56 c =
    let one = c.put_word-mid.ensures in
    let two = c.put_word.ensures in
    puts_then (puts_word c.args.front one.next one.buffer) (puts_word c.args.behind two.next two.buffer)

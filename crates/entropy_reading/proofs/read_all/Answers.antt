-- `entropy_reading::read_all` meets its contract.
use Rattle.bitstream.specs.Bits.{bits_of}
use Rattle.entropy_steps.proofs.StandingLaws.{none_read}
use Rattle.entropy_reading.proofs.read_all.Goals as goal

pub returns-then-blocks-eq0 : goal.returns-then-blocks-eq0
returns-then-blocks-eq0 c = none_read (bits_of c.args.payload.now) c.args.blocks c.args.out.now c.if-blocks-eq0.true c.requires.2

-- `entropy_reading::PayloadReader::next_dcs` meets its contract. The invariant: n DCs were read, and the outcome from here is the outcome from the start.
use Rattle.bitstream.specs.Bits.{bits_of}
use Rattle.entropy_steps.specs.Standing.{DcsStand}
use Rattle.entropy_reading.proofs.PayloadReader.next_dcs.Given as goal

abbrev pub invariant-loop-n : goal.invariant-loop-n
invariant-loop-n l = DcsStand (bits_of l.self.payload.now) l.self.blocks l.n l.s l.out

-- `entropy_reading::PayloadReader::read_acs` meets its contract. The invariant: the places from s.place on are 0, and the outcome from here is the outcome from
-- the start.
use Prim.Native.Nat.{◌-◌}
use Rattle.bitstream.specs.Bits.{bits_of}
use Rattle.entropy_steps.specs.Standing.{AcsStand}
use Rattle.entropy_reading.proofs.PayloadReader.read_acs.Given as goal

abbrev pub invariant-loop-s : goal.invariant-loop-s
invariant-loop-s l = AcsStand (bits_of l.self.payload.now) l.self.blocks l.s l.out

abbrev pub decreases-loop-s : goal.decreases-loop-s
decreases-loop-s l = l.total - l.s.place

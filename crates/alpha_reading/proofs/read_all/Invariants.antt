-- `alpha_reading::read_all` meets its contract. The invariant: the places before s.place are settled, and the outcome from here is the outcome from
-- the start.
use Prim.Native.Nat.{◌-◌}
use Rattle.bitstream.specs.Bits.{bits_of}
use Rattle.alpha_reading.specs.Steps.{AlphaStands}
use Rattle.alpha_reading.proofs.read_all.Given as goal

abbrev pub invariant-loop-s : goal.invariant-loop-s
invariant-loop-s l = AlphaStands (bits_of l.payload) l.fn.kind l.total l.s l.out

abbrev pub decreases-loop-s : goal.decreases-loop-s
decreases-loop-s l = l.total - l.s.place

-- `bitstream::zeros_at` meets its contract. The invariant: the bits from p up to bit at are zeros that were passed.
use Prim.Native.Nat.{◌-◌, ◌≤◌}
use Rattle.bitstream.specs.Bits.{bits_of}
use Rattle.bitstream.proofs.ReadLaws.{Passed}
use Rattle.bitstream.proofs.zeros_at.Given as goal

abbrev pub invariant-loop-at : goal.invariant-loop-at
invariant-loop-at l = (l.at - l.p ≤ l.cap) × Passed (bits_of l.payload) l.p l.cap l.at

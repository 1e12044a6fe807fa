-- `bitstream::fields::unread` meets its contract.
use native.Mathlib.Omega.{arith}
use lib.ListN.{length-drop}
use Rattle.bitstream.specs.Bits.{bits_of}
use Rattle.bitstream.proofs.BitsLaws.{length-bits}
use Rattle.bitstream.proofs.fields.unread.Goals as goal

pub returns : goal.returns
returns c = let a = c.args in omega (arith, length-drop a.p (bits_of a.payload.now), length-bits a.payload.now)

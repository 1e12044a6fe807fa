-- `bitstream::windows::load8` meets its contract.
use native.Mathlib.Omega.{arith}
use Rattle.bitstream.proofs.PlaceLaws.{load-eight}
use Rattle.bitstream.proofs.windows.load8.Goals as goal

pub returns : goal.returns
returns c = let a = c.args in omega (arith, c.from_be_bytes.ensures, load-eight a.payload.now a.i c.requires (λ k. (c.type_inv.payload k).fits))

-- A code is within its kind's most bits of each sample.
use native.Mathlib.Omega.{arith}
use Rattle.alpha_elements.proofs.SizeLaws.{encode-le}
use Rattle.alpha.proofs.SamplesInRangeCoded.most_bytes.Goals as goal

pub returns : goal.returns
returns c =
    let s = c.args.self.now in
    let most = rw (← c.most_bits.ensures) at (encode-le s.kind s.samples.now) in
    omega (arith, most, c.div_ceil.ensures)

use native.Mathlib.Omega.{arith}
use Rattle.alpha_elements.proofs.SizeLaws.{encode-most}
use Rattle.alpha.proofs.SamplesInRangeCoded.write.Goals as goal

pub returns-clause-small : goal.returns-clause-small
returns-clause-small c =
    let s = c.args.self.now in
    omega (arith, c.write.ensures.count, encode-most s.kind s.samples.now s.few)

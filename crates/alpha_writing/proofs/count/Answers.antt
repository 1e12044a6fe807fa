-- `alpha_writing::count` meets its contract.
use native.Mathlib.Omega.{arith}
use Rattle.alpha_elements.proofs.SizeLaws.{encode-most}
use Rattle.alpha_writing.proofs.count.Goals as goal

pub code-requires : goal.code-requires
code-requires c = (c.requires.0, c.requires.1, omega (arith, encode-most c.args.kind c.args.samples.now c.requires.0))

pub returns : goal.returns
returns c =
    let most = encode-most c.args.kind c.args.samples.now c.requires.0 in
    (omega (arith, c.code.ensures.next), omega (arith, c.code.ensures.next))

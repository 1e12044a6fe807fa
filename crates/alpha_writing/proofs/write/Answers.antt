-- `alpha_writing::write` meets its contract.
use native.Mathlib.Omega.{arith}
use Rattle.bitstream_writer.proofs.PassLaws.{puts_stored}
use Rattle.alpha_elements.proofs.SizeLaws.{encode-most}
use Rattle.alpha_writing.proofs.write.Goals as goal

pub code-requires : goal.code-requires
code-requires c =
    let most = encode-most c.args.kind c.args.samples.now c.requires.0 in
    (c.requires.0, c.requires.1, record { inside = omega arith; below = omega arith })

pub returns-clause-buffer : goal.returns-clause-buffer
returns-clause-buffer c = puts_stored c.code.ensures

-- `entropy_reading::PayloadReader::sign_step` meets its contract.
use lib.Dec.{eqb}
use Rattle.std.proofs.lemmas.Result.{err_from_is_err_and}
use Rattle.bitstream.specs.Bits.{bits_of}
use Rattle.entropy_reading.proofs.ReadAnswers.{has-bit, no_sign}
use Rattle.entropy_steps.proofs.LevelLaws.{sign-stepped}
use Rattle.entropy_reading.proofs.PayloadReader.sign_step.Goals as goal

pub returns-in_err-sign : goal.returns-in_err-sign
returns-in_err-sign c =
    let a = c.args in
    let p = err_from_is_err_and c.from_residual.result c.from_residual.ensures.1 in
    rw (p.1, p.2) (no_sign a.self.now.payload.now a.at c.requires.0 a.s a.symbol c.in_err-sign.field-0.0 c.in_err-sign.ensures)

pub returns : goal.returns
returns c =
    let a = c.args in
    let z = c.in_ok-sign in
    let p = a.self.now.payload.now in
    rw (c.level_to.ensures, c.level_of.ensures) (sign-stepped (bits_of p) a.s a.symbol a.at (eqb z.sign 1) z.next.at (has-bit p a.at c.requires.0 z.sign z.next.at z.ensures) c.requires.2)

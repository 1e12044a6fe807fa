-- `entropy_reading::PayloadReader::level_step` meets its contract.
use mathlib.Core.Path.{refl}
use Rattle.std.proofs.lemmas.Result.{err_from_is_err_and}
use Rattle.bitstream.specs.Bits.{bits_of}
use Rattle.entropy_reading.proofs.ReadAnswers.{read-gives, unread}
use Rattle.entropy_steps.specs.LevelSteps.{level_state}
use Rattle.entropy_steps.proofs.LevelLaws.{level-stepped}
use Rattle.entropy_reading.proofs.PayloadReader.level_step.Goals as goal

pub returns-in_err-symbol : goal.returns-in_err-symbol
returns-in_err-symbol c =
    let s = c.args.s in
    let p = err_from_is_err_and c.from_residual.result c.from_residual.ensures.1 in
    rw (p.1, p.2) (unread c.args.self.now.payload.now s.at c.requires.0 s.levels (level_state s) (λ left. refl) (λ left. refl) c.in_err-symbol.field-0.0 c.in_err-symbol.ensures)

pub sign_step-requires : goal.sign_step-requires
sign_step-requires c =
    let r = c.args.self.now in
    let s = c.args.s in
    let z = c.in_ok-symbol in
    (record { fits = r.fits; within = (read-gives r.payload.now s.at c.requires.0 s.levels z.symbol z.next.at z.ensures).within }, c.requires.1, c.requires.2)

pub returns : goal.returns
returns c =
    let r = c.args.self.now in
    let s = c.args.s in
    let z = c.in_ok-symbol in
    level-stepped (bits_of r.payload.now) s z.symbol z.next.at (read-gives r.payload.now s.at c.requires.0 s.levels z.symbol z.next.at z.ensures) c.sign_step.result c.sign_step.ensures

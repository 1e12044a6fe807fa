-- `entropy_reading::PayloadReader::run_step` meets its contract.
use mathlib.Core.Path.{refl}
use Prim.Native.Nat.{◌*◌}
use Rattle.std.proofs.lemmas.Result.{err_from_is_err_and}
use Rattle.bitstream.specs.Bits.{bits_of}
use Rattle.entropy_reading.proofs.ReadAnswers.{read-gives, unread}
use Rattle.entropy_steps.specs.RunSteps.{run_state}
use Rattle.entropy_steps.proofs.RunLaws.{run-due, run-stepped, due-placed}
use Rattle.entropy_reading.proofs.PayloadReader.run_step.Goals as goal

pub returns-in_err-zeros : goal.returns-in_err-zeros
returns-in_err-zeros c =
    let r = c.args.self.now in
    let s = c.args.s in
    let t = 64 * r.blocks in
    let p = err_from_is_err_and c.from_residual.result c.from_residual.ensures.1 in
    rw (p.1, p.2) (unread r.payload.now s.at (due-placed r.payload.now t s c.requires r.fits) s.runs (λ _. run_state t s) (λ _. refl)
    (λ _. run-due (bits_of r.payload.now) t s c.requires) c.in_err-zeros.field-0.0 c.in_err-zeros.ensures)

pub returns : goal.returns
returns c =
    let r = c.args.self.now in
    let s = c.args.s in
    let t = 64 * r.blocks in
    let z = c.in_ok-zeros in
    rw c.run_to.ensures (run-stepped (bits_of r.payload.now) t s c.requires z.zeros z.next.at
    (read-gives r.payload.now s.at (due-placed r.payload.now t s c.requires r.fits) s.runs z.zeros z.next.at z.ensures))

-- `entropy_reading::PayloadReader::dc_step` meets its contract.
use mathlib.Core.Path.{refl, ap}
use lib.IntN.{ℤ}
use mir.Syntax.{w32}
use mir.Facts.{to_z-of_z}
use borrow.Author.Rules.{rules}
use Rattle.entropy_elements.specs.Values.{next_dc}
use Rattle.std.proofs.lemmas.Result.{err_from_is_err_and}
use Rattle.bitstream.specs.Bits.{bits_of}
use Rattle.entropy_reading.proofs.ReadAnswers.{read-gives, unread}
use Rattle.entropy_steps.specs.DcSteps.{next_state}
use Rattle.entropy_steps.proofs.DcLaws.{next-stepped}
use Rattle.entropy_reading.proofs.PayloadReader.dc_step.Goals as goal

pub returns-in_err-symbol : goal.returns-in_err-symbol
returns-in_err-symbol c =
    let r = c.args.self.now in
    let s = c.args.s in
    let p = err_from_is_err_and c.from_residual.result c.from_residual.ensures.1 in
    rw (p.1, p.2) (unread r.payload.now s.at (record { fits = r.fits; within = c.requires.within }) s.book (next_state s) (λ c. refl) (λ c. refl) c.in_err-symbol.field-0.0 c.in_err-symbol.ensures)

pub returns : goal.returns
returns c =
    let r = c.args.self.now in
    let s = c.args.s in
    let z = c.in_ok-symbol in
    let same = ap (λ (x : ℤ). next_dc x s.negative z.symbol) (to_z-of_z {w = w32} {z = s.dc} (search rules)) in
    rw (c.dc_to.ensures, c.next_dc.ensures, same) (next-stepped (bits_of r.payload.now) s z.symbol z.next.at
    (read-gives r.payload.now s.at (record { fits = r.fits; within = c.requires.within }) s.book z.symbol z.next.at z.ensures))

-- `entropy_reading::PayloadReader::first_step` meets its contract.
use mathlib.Core.Path.{refl}
use native.Mathlib.Omega.{arith}
use Rattle.std.proofs.lemmas.Result.{err_from_is_err_and}
use Rattle.codeword_books.specs.Books.{first_book}
use Rattle.entropy_reading.proofs.ReadAnswers.{read-gives, unread}
use Rattle.entropy_steps.specs.DcSteps.{first_state}
use Rattle.entropy_steps.proofs.DcLaws.{first-stepped}
use Rattle.bitstream.specs.Bits.{bits_of}
use Rattle.entropy_reading.proofs.PayloadReader.first_step.Goals as goal

pub returns-in_err-symbol : goal.returns-in_err-symbol
returns-in_err-symbol c =
    let r = c.args.self.now in
    let p = err_from_is_err_and c.from_residual.result c.from_residual.ensures.1 in
    let e = rw (c.first_dc_codebook-book.ensures, c.new.ensures) at c.in_err-symbol.ensures in
    rw (p.1, p.2) (unread r.payload.now 0 (record { fits = r.fits; within = omega arith }) first_book first_state (λ c. refl) (λ c. refl) c.in_err-symbol.field-0.0 e)

pub returns : goal.returns
returns c =
    let r = c.args.self.now in
    let e = rw (c.first_dc_codebook-book.ensures, c.new.ensures) at c.in_ok-symbol.ensures in
    let z = c.in_ok-symbol in
    rw (c.dc_to.ensures, c.first_dc.ensures) (first-stepped (bits_of r.payload.now) z.symbol z.next.at (read-gives r.payload.now 0 (record { fits = r.fits; within = omega arith }) first_book z.symbol z.next.at e))

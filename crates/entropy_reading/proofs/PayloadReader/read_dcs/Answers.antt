-- `entropy_reading::PayloadReader::read_dcs` meets its contract.
use mathlib.Core.Path.{sym, subst}
use lib.IntN.{ℤ}
use lib.ListN.{set}
use mir.Syntax.{w32}
use mir.Facts.{to_z-of_z}
use borrow.Author.Rules.{rules}
use Rattle.std.proofs.lemmas.Result.{err_from_is_err_and}
use Rattle.bitstream.specs.Bits.{bits_of}
use Rattle.entropy_steps.specs.Standing.{DcsStand}
use Rattle.entropy_steps.proofs.StandingLaws.{dcs-first, first-rejects}
use Rattle.entropy_reading.proofs.PayloadReader.read_dcs.Goals as goal

pub returns-in_err-first : goal.returns-in_err-first
returns-in_err-first c =
    let r = c.args.self.now in
    let p = err_from_is_err_and c.from_residual.result c.from_residual.ensures.1 in
    rw (p.1, p.2) (first-rejects (bits_of r.payload.now) r.blocks c.args.out.now c.requires.0 c.requires.1 c.in_err-first.field-0.0 c.in_err-first.ensures)

pub next_dcs-requires : goal.next_dcs-requires
next_dcs-requires c =
    let r = c.args.self.now in
    let t = c.in_ok-first.first in
    subst (λ (x : ℤ). DcsStand (bits_of r.payload.now) r.blocks 1 t (set c.args.out.now 0 x)) (sym (to_z-of_z {w = w32} {z = t.dc} (search rules)))
    (dcs-first (bits_of r.payload.now) r.blocks c.args.out.now c.requires.0 c.requires.1 t c.in_ok-first.ensures)

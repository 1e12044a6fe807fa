use mathlib.Core.Path.{sym, subst}
use lib.IntN.{ℤ}
use lib.ListN.{set}
use Prim.Native.Nat.{◌+◌}
use mir.Syntax.{w32}
use mir.Facts.{to_z-of_z}
use borrow.Author.Rules.{rules}
use Rattle.std.proofs.lemmas.Result.{err_from_is_err_and}
use Rattle.bitstream.specs.Bits.{bits_of}
use Rattle.entropy_steps.specs.Standing.{DcsStand}
use Rattle.entropy_steps.proofs.StandingLaws.{dcs-put, next-rejects, dcs-all}
use Rattle.entropy_reading.proofs.PayloadReader.next_dcs.Goals as goal

pub returns-in_err-s : goal.returns-in_err-s
returns-in_err-s c =
    let p = err_from_is_err_and c.from_residual.result c.from_residual.ensures.1 in
    rw (p.1, p.2) (next-rejects c.loop-n.invariant c.in_err-s.field-0.0 c.loop-n-test.true c.in_err-s.ensures)

pub loop-n-preserved : goal.loop-n-preserved
loop-n-preserved c =
    let r = c.args.self.now in
    let t = c.in_ok-s.s in
    subst (λ (x : ℤ). DcsStand (bits_of r.payload.now) r.blocks (c.loop-n.n + 1) t (set c.loop-n.out c.loop-n.n x)) (sym (to_z-of_z {w = w32} {z = t.dc} (search rules)))
    (dcs-put c.loop-n.invariant t c.loop-n-test.true c.in_ok-s.ensures)

pub returns : goal.returns
returns c = dcs-all c.loop-n.invariant c.loop-n-test.false

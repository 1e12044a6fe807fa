use mathlib.Core.Path.{sym, subst, ◌∙◌}
use lib.IntN.{ℤ}
use lib.ListN.{set}
use Prim.Native.Nat.{◌-◌}
use mir.Syntax.{w32}
use mir.Facts.{to_z-of_z}
use borrow.Author.Rules.{rules}
use Rattle.bitstream.specs.Bits.{bits_of}
use Rattle.entropy_steps.specs.Standing.{AcsStand}
use Rattle.entropy_steps.proofs.StandingLaws.{acs-put, acs-ended, acs-full}
use Rattle.entropy_reading.proofs.PayloadReader.read_acs.Goals as goal

pub returns-then-end_of_data : goal.returns-then-end_of_data
returns-then-end_of_data c = acs-ended c.loop-s.invariant (sym c.end_of_data.ensures ∙ c.if-end_of_data.true)

pub loop-s-preserved : goal.loop-s-preserved
loop-s-preserved c =
    let r = c.args.self.now in
    let z = c.in_ok-level in
    subst (λ (v : ℤ). AcsStand (bits_of r.payload.now) r.blocks z.next (set c.loop-s.out (z.next.place - 1) v)) (sym (to_z-of_z {w = w32} {z = z.level} (search rules)))
    (acs-put c.loop-s.invariant z.level z.next z.ensures)

pub returns : goal.returns
returns c = acs-full c.loop-s.invariant c.loop-s-test.false

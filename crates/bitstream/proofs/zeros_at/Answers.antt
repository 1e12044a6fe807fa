use mathlib.Core.Path.{sym, ◌∙◌}
use native.Mathlib.Omega.{arith}
use Rattle.bitstream.specs.Bits.{bits_of}
use Rattle.bitstream.proofs.BitsLaws.{length-bits}
use Rattle.bitstream.proofs.ReadLaws.{passed-one, passed-full, passed-end, passed-more}
use Rattle.bitstream.proofs.zeros_at.Goals as goal

pub returns-then-bit : goal.returns-then-bit
returns-then-bit c =
    let a = c.args in
    let l = c.loop-at in
    passed-one (bits_of a.payload.now) a.p a.cap l.at (omega arith) l.invariant.1 (omega (arith, length-bits a.payload.now)) (sym c.bit.ensures ∙ c.if-bit.true)

pub returns-then-cap-at : goal.returns-then-cap-at
returns-then-cap-at c =
    let a = c.args in
    let l = c.loop-at in
    passed-full (bits_of a.payload.now) a.p a.cap l.at (omega arith) l.invariant.1 (omega (arith, length-bits a.payload.now)) (sym c.bit.ensures ∙ c.if-bit.false) c.if-cap-at.true

pub loop-at-preserved : goal.loop-at-preserved
loop-at-preserved c =
    let a = c.args in
    let l = c.loop-at in
    (omega arith, passed-more (bits_of a.payload.now) a.p a.cap l.at (omega arith) l.invariant.1 (omega (arith, length-bits a.payload.now)) (sym c.bit.ensures ∙ c.if-bit.false) (omega arith))

pub returns : goal.returns
returns c =
    let a = c.args in
    let l = c.loop-at in
    passed-end (bits_of a.payload.now) a.p a.cap l.at (omega arith) l.invariant.1 (omega (arith, length-bits a.payload.now))

-- `alpha_reading::read_all` meets its contract.
use Rattle.std.proofs.lemmas.Result.{err_from_is_err_and}
use Rattle.bitstream.specs.Bits.{bits_of}
use Rattle.alpha_reading.proofs.Standing.{stands-start, stands-fill, stands-done, stands-refused}
use Rattle.alpha_reading.proofs.read_all.Goals as goal

pub loop-s-init : goal.loop-s-init
loop-s-init c =
    let a = c.args in
    stands-start (bits_of a.payload.now) a.kind a.out.now c.new.result c.start.result c.new.ensures c.start.ensures

pub loop-s-preserved : goal.loop-s-preserved
loop-s-preserved c = stands-fill c.loop-s.invariant c.in_ok-v.v c.in_ok-v.next c.in_ok-v.ensures c.fill.new.out c.fill.ensures

pub returns-in_err-end : goal.returns-in_err-end
returns-in_err-end c =
    let p = err_from_is_err_and c.from_residual-in_err-end.result c.from_residual-in_err-end.ensures.1 in
    rw (p.1, p.2) (stands-refused c.loop-s.invariant c.loop-s-test.false c.in_err-end.field-0.0 c.in_err-end.ensures)

pub returns : goal.returns
returns c = stands-done c.loop-s.invariant c.loop-s-test.false c.in_ok-end.ensures

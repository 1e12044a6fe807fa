-- `entropy_reading::PayloadReader::plain_pair` meets its contract.
use Prim.Native.Nat.{◌*◌}
use Rattle.std.proofs.lemmas.Result.{err_from_is_err_and}
use Rattle.bitstream.specs.Bits.{bits_of}
use Rattle.entropy_steps.proofs.PairLaws.{pair-no, pair-on}
use Rattle.entropy_reading.proofs.PayloadReader.plain_pair.Goals as goal

pub returns-in_err-behind : goal.returns-in_err-behind
returns-in_err-behind c =
    let r = c.args.self.now in
    let p = err_from_is_err_and c.from_residual.result c.from_residual.ensures.1 in
    rw (p.1, p.2) (pair-no (bits_of r.payload.now) (64 * r.blocks) c.args.s c.in_err-behind.field-0.0 c.in_err-behind.ensures)

pub returns : goal.returns
returns c =
    let r = c.args.self.now in
    let z = c.in_ok-behind in
    pair-on (bits_of r.payload.now) (64 * r.blocks) c.args.s z.behind z.ensures c.level_step.result c.level_step.ensures

-- `alpha_reading::AlphaPayload::pair` meets its contract.
use Rattle.std.proofs.lemmas.Result.{err_from_is_err_and}
use Rattle.bitstream.specs.Bits.{bits_of}
use Rattle.alpha_reading.proofs.Standing.{pair-refused, pair-run-refused, pair-on}
use Rattle.alpha_reading.proofs.AlphaPayload.pair.Goals as goal

pub returns-in_err-v : goal.returns-in_err-v
returns-in_err-v c =
    let a = c.args in
    let p = err_from_is_err_and c.from_residual.result c.from_residual.ensures.1 in
    rw (p.1, p.2) (pair-refused (bits_of a.self.payload.now) a.self.kind a.total a.s c.requires.0 c.in_err-v.field-0.0 c.in_err-v.ensures)

pub returns-in_err-n : goal.returns-in_err-n
returns-in_err-n c =
    let a = c.args in
    let d = c.in_ok-v in
    let p = err_from_is_err_and c.from_residual-in_err-n.result c.from_residual-in_err-n.ensures.1 in
    rw (p.1, p.2) (pair-run-refused (bits_of a.self.payload.now) a.self.kind a.total a.s c.requires.0 d.v d.behind d.ensures c.in_err-n.field-0.0 c.in_err-n.ensures)

pub returns : goal.returns
returns c =
    let a = c.args in
    let d = c.in_ok-v in
    let r = c.in_ok-n in
    pair-on (bits_of a.self.payload.now) a.self.kind a.total a.s c.requires.0 d.v d.behind d.ensures r.n r.cursor r.ensures

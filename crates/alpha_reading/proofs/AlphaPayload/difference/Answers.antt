-- `alpha_reading::AlphaPayload::difference` meets its contract.
use Rattle.std.proofs.lemmas.Result.{err_from_is_err_and}
use Rattle.alpha_reading.proofs.StepAnswers.{difference-refused, escaped-refused, escaped-fits, escaped-read, small-refused, small-fits, small-read}
use Rattle.alpha_reading.proofs.AlphaPayload.difference.Goals as goal

pub returns-in_err-first : goal.returns-in_err-first
returns-in_err-first c =
    let a = c.args in
    let p = err_from_is_err_and c.from_residual.result c.from_residual.ensures.1 in
    rw (p.1, p.2) (difference-refused a.self.payload.now a.self.fits a.self.kind a.prev a.c.at c.in_err-first.field-0.0 c.in_err-first.ensures)

-- ---- a 1

pub returns-in_err-raw : goal.returns-in_err-raw
returns-in_err-raw c =
    let a = c.args in
    let f = c.in_ok-first in
    let p = err_from_is_err_and c.from_residual-in_err-raw.result c.from_residual-in_err-raw.ensures.1 in
    rw (p.1, p.2)
    (escaped-refused a.self.payload.now a.self.fits a.self.kind a.prev a.c.at f.first f.behind f.ensures c.if-first-eq1.true c.in_err-raw.field-0.0 (rw c.width.ensures at c.in_err-raw.ensures))

pub escaped_sample-requires : goal.escaped_sample-requires
escaped_sample-requires c =
    let a = c.args in
    let f = c.in_ok-first in
    let r = c.in_ok-raw in
    (c.requires, escaped-fits a.self.payload.now a.self.fits a.self.kind a.prev a.c.at f.first f.behind f.ensures c.if-first-eq1.true r.raw r.next (rw c.width.ensures at r.ensures))

pub returns-in_ok-raw : goal.returns-in_ok-raw
returns-in_ok-raw c =
    let a = c.args in
    let f = c.in_ok-first in
    let r = c.in_ok-raw in
    escaped-read a.self.payload.now a.self.fits a.self.kind a.prev a.c.at f.first f.behind f.ensures c.if-first-eq1.true r.raw r.next (rw c.width.ensures at r.ensures)
    c.escaped_sample.result c.escaped_sample.ensures

-- ---- a 0

pub returns-in_err-signed : goal.returns-in_err-signed
returns-in_err-signed c =
    let a = c.args in
    let f = c.in_ok-first in
    let p = err_from_is_err_and c.from_residual-in_err-signed.result c.from_residual-in_err-signed.ensures.1 in
    rw (p.1, p.2)
    (small-refused a.self.payload.now a.self.fits a.self.kind a.prev a.c.at f.first f.behind f.ensures c.if-first-eq1.false c.in_err-signed.field-0.0 (rw c.small_width.ensures at c.in_err-signed.ensures))

pub small_sample-requires : goal.small_sample-requires
small_sample-requires c =
    let a = c.args in
    let f = c.in_ok-first in
    let r = c.in_ok-signed in
    (c.requires, small-fits a.self.payload.now a.self.fits a.self.kind a.prev a.c.at f.first f.behind f.ensures c.if-first-eq1.false r.signed r.next (rw c.small_width.ensures at r.ensures))

pub returns-in_ok-signed : goal.returns-in_ok-signed
returns-in_ok-signed c =
    let a = c.args in
    let f = c.in_ok-first in
    let r = c.in_ok-signed in
    small-read a.self.payload.now a.self.fits a.self.kind a.prev a.c.at f.first f.behind f.ensures c.if-first-eq1.false r.signed r.next (rw c.small_width.ensures at r.ensures)
    c.small_sample.result c.small_sample.ensures

-- `alpha_reading::AlphaPayload::run` meets its contract.
use Rattle.std.proofs.lemmas.Result.{err_from_is_err_and}
use Rattle.alpha_reading.proofs.StepAnswers.{run-refused, run-one, short-refused, short-read, long-refused, long-low, long-read}
use Rattle.alpha_reading.proofs.AlphaPayload.run.Goals as goal

pub returns-in_err-first : goal.returns-in_err-first
returns-in_err-first c =
    let a = c.args in
    let p = err_from_is_err_and c.from_residual.result c.from_residual.ensures.1 in
    rw (p.1, p.2) (run-refused a.self.payload.now a.self.fits a.left a.c.at c.in_err-first.field-0.0 c.in_err-first.ensures)

pub returns-then-first-eq1 : goal.returns-then-first-eq1
returns-then-first-eq1 c =
    let a = c.args in
    let f = c.in_ok-first in
    rw c.run_to.ensures (run-one a.self.payload.now a.self.fits a.left a.c.at f.first f.behind f.ensures c.if-first-eq1.true)

-- ---- the short field

pub returns-in_err-short : goal.returns-in_err-short
returns-in_err-short c =
    let a = c.args in
    let f = c.in_ok-first in
    let p = err_from_is_err_and c.from_residual-in_err-short.result c.from_residual-in_err-short.ensures.1 in
    rw (p.1, p.2) (short-refused a.self.payload.now a.self.fits a.left a.c.at f.first f.behind f.ensures c.if-first-eq1.false c.in_err-short.field-0.0 c.in_err-short.ensures)

pub returns-then-short-ne0 : goal.returns-then-short-ne0
returns-then-short-ne0 c =
    let a = c.args in
    let f = c.in_ok-first in
    let s = c.in_ok-short in
    rw c.run_to-then-short-ne0.ensures (short-read a.self.payload.now a.self.fits a.left a.c.at f.first f.behind f.ensures c.if-first-eq1.false s.short s.behind s.ensures c.if-short-ne0.true)

-- ---- the long field

pub returns-in_err-long : goal.returns-in_err-long
returns-in_err-long c =
    let a = c.args in
    let f = c.in_ok-first in
    let s = c.in_ok-short in
    let p = err_from_is_err_and c.from_residual-in_err-long.result c.from_residual-in_err-long.ensures.1 in
    rw (p.1, p.2)
    (long-refused a.self.payload.now a.self.fits a.left a.c.at f.first f.behind f.ensures c.if-first-eq1.false s.short s.behind s.ensures c.if-short-ne0.false c.in_err-long.field-0.0 c.in_err-long.ensures)

pub returns-then-long-lt16 : goal.returns-then-long-lt16
returns-then-long-lt16 c =
    let a = c.args in
    let f = c.in_ok-first in
    let s = c.in_ok-short in
    let l = c.in_ok-long in
    long-low a.self.payload.now a.self.fits a.left a.c.at f.first f.behind f.ensures c.if-first-eq1.false s.short s.behind s.ensures c.if-short-ne0.false l.long l.behind l.ensures c.if-long-lt16.true

pub returns : goal.returns
returns c =
    let a = c.args in
    let f = c.in_ok-first in
    let s = c.in_ok-short in
    let l = c.in_ok-long in
    rw c.run_to-2.ensures (long-read a.self.payload.now a.self.fits a.left a.c.at f.first f.behind f.ensures c.if-first-eq1.false s.short s.behind s.ensures c.if-short-ne0.false l.long l.behind l.ensures c.if-long-lt16.false)

-- `entropy::decode_scanned_coefficients` meets its contract: its arguments are refused, or taken.
use mathlib.Core.Path.{sym, ◌∙◌}
use lib.ListN.{length}
use Rattle.std.proofs.lemmas.Result.{err_from_is_err_and}
use Rattle.entropy_elements.proofs.ArgumentLaws.{taken_of, decode_of-unfit, decode_of-fit}
use Rattle.entropy.proofs.decode_scanned_coefficients.Goals as goal

pub returns-in_err-test : goal.returns-in_err-test
returns-in_err-test c =
    let a = c.args in
    let p = err_from_is_err_and c.from_residual.result c.from_residual.ensures.1 in
    rw (p.1, p.2) (sym (decode_of-unfit a.payload.now a.blocks a.out.now (sym c.in_err-test.ensures)))

pub decode_tested-requires : goal.decode_tested-requires
decode_tested-requires c =
    let a = c.args in
    let t = taken_of 64 (length a.payload.now) a.blocks (length a.out.now) (sym c.in_ok-test.ensures) in
    (t.short, t.few, t.full)

pub returns : goal.returns
returns c =
    let a = c.args in
    c.decode_tested.ensures ∙ sym (decode_of-fit a.payload.now a.blocks a.out.now (sym c.in_ok-test.ensures))

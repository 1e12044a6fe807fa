-- `entropy::encode_scanned_coefficients` meets its contract: its arguments are refused, or taken.
use mathlib.Core.Path.{sym, ◌∙◌}
use lib.ListN.{length}
use Rattle.std.proofs.lemmas.Result.{err_from_is_err_and}
use Rattle.entropy_elements.proofs.ArgumentLaws.{taken_of, encode_of-unfit, encode_of-fit}
use Rattle.entropy.proofs.encode_scanned_coefficients.Goals as goal

pub returns-in_err-test : goal.returns-in_err-test
returns-in_err-test c =
    let a = c.args in
    let p = err_from_is_err_and c.from_residual.result c.from_residual.ensures.1 in
    rw (p.1, p.2) (sym (encode_of-unfit a.coeffs.now a.blocks a.out.now (sym c.in_err-test.ensures)))

pub encode_tested-requires : goal.encode_tested-requires
encode_tested-requires c =
    let a = c.args in
    let t = taken_of 64 0 a.blocks (length a.coeffs.now) (sym c.in_ok-test.ensures) in
    (t.few, t.full)

pub returns : goal.returns
returns c =
    let a = c.args in
    c.encode_tested.ensures ∙ sym (encode_of-fit a.coeffs.now a.blocks a.out.now (sym c.in_ok-test.ensures))

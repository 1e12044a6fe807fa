-- `codeword::read::read_combo` meets its contract.
use mathlib.Core.Path.{◌∙◌}
use Rattle.std.proofs.lemmas.Result.{err_from_is_err_and}
use Rattle.answers.specs.Refusals.{number_of}
use Rattle.codeword.specs.declared.Codebook.TheVariants.{RiceExp}
use Rattle.codeword.proofs.AnswerLaws.{code-stop, code-after, zeros-few}
use Rattle.codeword.proofs.read.read_combo.Goals as goal

pub returns-in_err-zeros : goal.returns-in_err-zeros
returns-in_err-zeros c =
    let a = c.args in
    let p = err_from_is_err_and c.from_residual.result c.from_residual.ensures.1 in
    rw (p.1, p.2) (code-stop (RiceExp a.last_q a.r a.e) a.payload.now a.c.at (number_of c.in_err-zeros.field-0.0) c.in_err-zeros.ensures)

pub combo_suffix-requires : goal.combo_suffix-requires
combo_suffix-requires c =
    let a = c.args in
    let z = c.in_ok-zeros in
    zeros-few (RiceExp a.last_q a.r a.e) a.payload.now a.c.at z.zeros z.next.at z.ensures

pub returns : goal.returns
returns c =
    let a = c.args in
    let z = c.in_ok-zeros in
    c.combo_suffix.ensures ∙ code-after (RiceExp a.last_q a.r a.e) a.payload.now a.c.at z.zeros z.next.at z.ensures

-- `codeword::read::read_suffix` meets its contract.
use native.Mathlib.Omega.{arith}
use Rattle.std.proofs.lemmas.Result.{err_from_is_err_and}
use Rattle.answers.specs.Refusals.{number_of}
use Rattle.codeword.proofs.AnswerLaws.{suffix-stop, suffix-small, suffix-large}
use Rattle.codeword.proofs.read.read_suffix.Goals as goal

pub returns-in_err-value : goal.returns-in_err-value
returns-in_err-value c =
    let a = c.args in
    let p = err_from_is_err_and c.from_residual.result c.from_residual.ensures.1 in
    rw (p.1, p.2) (suffix-stop a.n a.base a.payload.now a.c.at (number_of c.in_err-value.field-0.0) c.in_err-value.ensures)

pub returns-then-v-lt4294967296 : goal.returns-then-v-lt4294967296
returns-then-v-lt4294967296 c =
    let a = c.args in
    rw c.from.ensures (suffix-small a.n a.base a.payload.now a.c.at c.in_ok-value.value c.in_ok-value.next.at c.in_ok-value.ensures (omega arith))

pub returns-else-v-lt4294967296 : goal.returns-else-v-lt4294967296
returns-else-v-lt4294967296 c =
    let a = c.args in
    suffix-large a.n a.base a.payload.now a.c.at c.in_ok-value.value c.in_ok-value.next.at c.in_ok-value.ensures (omega arith)

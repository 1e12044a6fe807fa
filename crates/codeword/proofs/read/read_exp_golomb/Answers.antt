-- `codeword::read::read_exp_golomb` meets its contract.
use mathlib.Core.Path.{sym, ap, ◌∙◌}
use Prim.Native.Nat.{◌+◌, ◌-◌, ◌^◌}
use native.Mathlib.Nat.{zero-add}
use native.Mathlib.Omega.{arith}
use Rattle.std.proofs.lemmas.Result.{err_from_is_err_and}
use Rattle.answers.specs.Reading.{Reader}
use Rattle.answers.specs.Refusals.{number_of}
use Rattle.bitstream.specs.Told.{outcome_at}
use Rattle.codeword.specs.Codewords.{suffix}
use Rattle.codeword.specs.declared.Codebook.TheVariants.{ExpGolomb}
use Rattle.codeword.proofs.ReadCodeLaws.{read_suffix-exp}
use Rattle.codeword.proofs.AnswerLaws.{code-stop, code-after, zeros-few}
use Rattle.codeword.proofs.read.read_exp_golomb.Goals as goal

pub returns-in_err-zeros : goal.returns-in_err-zeros
returns-in_err-zeros c =
    let a = c.args in
    let p = err_from_is_err_and c.from_residual.result c.from_residual.ensures.1 in
    rw (p.1, p.2) (code-stop (ExpGolomb a.k) a.payload.now a.c.at (number_of c.in_err-zeros.field-0.0) c.in_err-zeros.ensures)

pub exp_suffix-requires : goal.exp_suffix-requires
exp_suffix-requires c =
    let a = c.args in
    let z = c.in_ok-zeros in
    omega (arith, zeros-few (ExpGolomb a.k) a.payload.now a.c.at z.zeros z.next.at z.ensures)

pub returns : goal.returns
returns c =
    let a = c.args in
    let z = c.in_ok-zeros in
    let same = ap (suffix (z.zeros + a.k)) (zero-add (2 ^ (z.zeros + a.k) - 2 ^ a.k)) ∙ sym (read_suffix-exp a.k z.zeros) in
    c.exp_suffix.ensures
    ∙ ap (λ (m : Reader). outcome_at m a.payload.now z.next.at) same
    ∙ code-after (ExpGolomb a.k) a.payload.now a.c.at z.zeros z.next.at z.ensures

-- `codeword::Codebook::read` meets its contract.
use mathlib.Core.Path.{sym, ap, ◌∙◌}
use Rattle.bitstream.specs.Told.{outcome_at}
use Rattle.codeword.specs.Codewords.{read_code}
use Rattle.codeword.specs.declared.Codebook.{Codebook}
use Rattle.codeword.proofs.Codebook.read.Goals as goal

pub returns-in-ExpGolomb : goal.returns-in-ExpGolomb
returns-in-ExpGolomb c =
    let a = c.args in
    c.read_exp_golomb.ensures ∙ ap (λ (b : Codebook). outcome_at (read_code b) a.payload.now a.c.at) (sym c.in-ExpGolomb.is)

pub returns-in-RiceExp : goal.returns-in-RiceExp
returns-in-RiceExp c =
    let a = c.args in
    c.read_combo.ensures ∙ ap (λ (b : Codebook). outcome_at (read_code b) a.payload.now a.c.at) (sym c.in-RiceExp.is)

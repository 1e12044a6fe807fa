-- `codeword_peek::combo_of` meets its contract.
use Rattle.std.proofs.Common.{sym, ap}
use Rattle.codeword_peek.specs.Peeks.{combo_of}
use Rattle.codeword_peek.proofs.combo_of.Goals as goal

pub returns-in-ExpGolomb : goal.returns-in-ExpGolomb
unfolding combo_of
returns-in-ExpGolomb c = sym (ap combo_of c.in-ExpGolomb.is)

pub returns-in-RiceExp : goal.returns-in-RiceExp
unfolding combo_of
returns-in-RiceExp c = sym (ap combo_of c.in-RiceExp.is)

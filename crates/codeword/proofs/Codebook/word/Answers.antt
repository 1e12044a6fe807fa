-- `codeword::Codebook::word` meets its contract: an arm is a case of code.
use Rattle.codeword.specs.Codewords.{code}
use Rattle.codeword.proofs.Codebook.word.Goals as goal

pub exp_golomb_word-requires : goal.exp_golomb_word-requires
exp_golomb_word-requires c = rw c.in-ExpGolomb.is at c.requires

pub combo_word-requires : goal.combo_word-requires
combo_word-requires c = rw c.in-RiceExp.is at c.requires

pub returns-in-ExpGolomb : goal.returns-in-ExpGolomb
unfolding code
returns-in-ExpGolomb c = rw c.in-ExpGolomb.is c.exp_golomb_word.ensures.0

pub returns-in-RiceExp : goal.returns-in-RiceExp
unfolding code
returns-in-RiceExp c = rw c.in-RiceExp.is c.combo_word.ensures

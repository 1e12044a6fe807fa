-- `codeword::words::log2_of` meets its contract: a number that is not 0 has fewer than 64 leading zeros.
use mathlib.Core.Path.{refl}
use native.Mathlib.Omega.{arith}
use lib.Count.{leading_top}
use Rattle.codeword.specs.Codewords.{log2}
use Rattle.codeword.proofs.words.log2_of.Goals as goal

pub overflow_sub-result : goal.overflow_sub-result
overflow_sub-result c = omega (arith, (leading_top 64 c.args.x c.requires c.ranges.x.fits).1)

pub returns : goal.returns
unfolding log2
returns c = (refl, omega arith)

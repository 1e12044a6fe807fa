-- `codeword::words::exp_golomb_word` meets its contract: the codeword is n + 2^k, in as many bits as its length says.
use mathlib.Core.Path.{refl, ap}
use Prim.Native.Nat.{ℕ, ◌+◌, ◌-◌, ◌*◌}
use native.Mathlib.Omega.{arith}
use lib.Pow.{pow_pos}
use Rattle.codeword.specs.Codewords.{exp_length}
use Rattle.codeword.proofs.WordLaws.{exp-small, exp-order, exp-spells}
use Rattle.codeword.proofs.words.exp_golomb_word.Goals as goal

pub overflow_add-x : goal.overflow_add-x
overflow_add-x c = omega (arith, exp-small c.args.k c.args.n c.requires c.ranges.n.fits)

pub log2_of-l-requires : goal.log2_of-l-requires
log2_of-l-requires c = omega (arith, pow_pos c.args.k)

pub overflow_sub-result : goal.overflow_sub-result
overflow_sub-result c =
    let e = rw (c.from.ensures, c.pow2.ensures) at c.log2_of-l.ensures.0 in
    omega (arith, exp-order c.args.k c.args.n c.requires c.ranges.n.fits)

pub returns : goal.returns
unfolding exp_length
returns c =
    let a = c.args in
    let e = rw (c.from.ensures, c.pow2.ensures) at c.log2_of-l.ensures.0 in
    exp-spells a.k a.n c.requires c.ranges.n.fits _ _
    (ap (λ (l : ℕ). 2 * l + 1 - a.k) e)
    (rw (c.from.ensures, c.pow2.ensures) refl)

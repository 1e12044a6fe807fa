-- Codewords at the top of a word, computed: 2^63 begins with the bit 1, 7 x 2^59 with 00111.
-- Assumes nothing.
use Rattle.std.proofs.Common.{◌≡◌, ℕ, ◌*◌, ◌^◌, refl}
use lib.Count.{count_leading_zeros}
use Rattle.codeword.specs.Codewords.{width, base}
use Rattle.codeword.specs.declared.Codebook.{Codebook}
use Rattle.codeword.specs.declared.Codebook.TheVariants.{ExpGolomb, RiceExp}
use Rattle.codeword_peek.specs.Peeks.{length_at, symbol_at, peeked}

-- the codebook, the word, the codeword's length and its symbol
abbrev Row : Codebook → ℕ → ℕ → ℕ → Type 0
Row cb w len value = peeked cb w ≡ record { len = len; value = value }

pub exp-0 : Row (ExpGolomb 0) (2 ^ 63) 1 0
unfolding length_at symbol_at width base count_leading_zeros
exp-0 = refl

pub exp-6 : Row (ExpGolomb 0) (7 * 2 ^ 59) 5 6
unfolding length_at symbol_at width base count_leading_zeros
exp-6 = refl

pub exp-order-5 : Row (ExpGolomb 5) (2 ^ 63) 6 0
unfolding length_at symbol_at width base count_leading_zeros
exp-order-5 = refl

-- the last short one, and the first behind it
pub combo-last : Row (RiceExp 2 0 1) (2 ^ 61) 3 2
unfolding length_at symbol_at width base count_leading_zeros
combo-last = refl

pub combo-far : Row (RiceExp 2 0 1) (2 ^ 60) 5 3
unfolding length_at symbol_at width base count_leading_zeros
combo-far = refl

pub combo-rice : Row (RiceExp 1 2 3) (5 * 2 ^ 60) 4 5
unfolding length_at symbol_at width base count_leading_zeros
combo-rice = refl

-- too long to be told
pub no_one : Row (ExpGolomb 0) 0 129 0
unfolding length_at symbol_at width base count_leading_zeros
no_one = refl

-- Codewords: document 01, "Codewords"; RDD 36, 7.1.1.1. Writing is as the document writes it, reading as one reads: count the zeros, then take a
-- suffix whose width the zeros tell.
use Rattle.std.specs.Prelude.{ℕ, ◌+◌, ◌-◌, ◌*◌, ◌/◌, ◌%◌, ◌^◌, Bool, true, cond, List, ◌∷◌, ◌++◌, leb, ltb}
use Rattle.std.specs.Int.Count.{count_leading_zeros}
use Rattle.bitstream.specs.Bits.{field, zeros}
use Rattle.answers.specs.Reading.{got, refused, Reader, ◌then◌}
use Rattle.bitstream.specs.Reading.{read_bits, zero_prefix}
use Rattle.codeword.specs.declared.Codebook.{Codebook}
use Rattle.codeword.specs.declared.Codebook.TheVariants.{ExpGolomb, RiceExp}

-- ---- writing

-- floor(log2 x), for x from 1 to 2^64 - 1
unfoldable pub log2 : ℕ → ℕ
log2 x = 63 - count_leading_zeros 64 x

-- order-k exp-Golomb of n: with x = n + 2^k and L = floor(log2 x), L - k zeros, a 1, then x - 2^L in L bits
unfoldable pub exp_golomb : ℕ → ℕ → List Bool
exp_golomb k n =
    let x = n + 2 ^ k in
    let l = log2 x in
    zeros (l - k) ++ true ∷ field l (x - 2 ^ l)

-- combination (q, r, e) of n: below (q + 1) x 2^r, n / 2^r zeros, a 1, then n mod 2^r in r bits; otherwise q + 1 zeros, then order-e exp-Golomb of
-- n minus that limit
unfoldable pub combo : ℕ → ℕ → ℕ → ℕ → List Bool
combo q r e n =
    let limit = (q + 1) * 2 ^ r in
    cond (ltb n limit) (zeros (n / 2 ^ r) ++ true ∷ field r (n % 2 ^ r)) (zeros (q + 1) ++ exp_golomb e (n - limit))

unfoldable pub code : Codebook → ℕ → List Bool
code (ExpGolomb k) n = exp_golomb k n
code (RiceExp q r e) n = combo q r e n

-- ---- lengths

unfoldable pub exp_length : ℕ → ℕ → ℕ
exp_length k n = 2 * log2 (n + 2 ^ k) + 1 - k

unfoldable pub code_length : Codebook → ℕ → ℕ
code_length (ExpGolomb k) n = exp_length k n
code_length (RiceExp q r e) n =
    let limit = (q + 1) * 2 ^ r in
    cond (ltb n limit) (n / 2 ^ r + 1 + r) (q + 1 + exp_length e (n - limit))

-- ---- reading

-- the most zeros that a codeword may begin with
abbrev pub limit : Codebook → ℕ
limit (ExpGolomb k) = 32
limit (RiceExp q r e) = 64

-- after z zeros and the 1: how wide the suffix is, and what is added to it
unfoldable pub width : Codebook → ℕ → ℕ
width (ExpGolomb k) z = z + k
width (RiceExp q r e) z = cond (leb z q) r (z - (q + 1) + e)

unfoldable pub base : Codebook → ℕ → ℕ
base (ExpGolomb k) z = 2 ^ (z + k) - 2 ^ k
base (RiceExp q r e) z = cond (leb z q) (z * 2 ^ r) ((q + 1) * 2 ^ r + (2 ^ (z - (q + 1) + e) - 2 ^ e))

-- a symbol is at most 2^32 - 1
unfoldable pub symbol : ℕ → Reader
symbol n bs = cond (ltb n (2 ^ 32)) (got n bs) (refused 6)

-- a suffix of n bits, added to b
unfoldable pub suffix : ℕ → ℕ → Reader
suffix n b = read_bits n then λ v. symbol (b + v)

unfoldable pub read_suffix : Codebook → ℕ → Reader
read_suffix cb z = suffix (width cb z) (base cb z)

unfoldable pub read_code : Codebook → Reader
read_code cb = zero_prefix (limit cb) then read_suffix cb

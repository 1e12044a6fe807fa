-- The codeword at the top of a word, in the terms of Codewords.antt of codeword: its zeros are the word's leading zeros.
use Rattle.std.specs.Prelude.{◌≡◌, ℕ, ◌+◌, ◌-◌, ◌/◌, ◌^◌, ◌<◌, ◌≤◌, Bool, cond, List, drop, nat_le}
use Rattle.std.specs.Int.Count.{count_leading_zeros}
use Rattle.answers.specs.Reading.{got}
use Rattle.bitstream.specs.Windows.{shown, Shows}
use Rattle.codeword.specs.Codewords.{width, base, read_code}
use Rattle.codeword.specs.declared.Codebook.{Codebook}
use Rattle.codeword.specs.declared.Codebook.TheVariants.{ExpGolomb, RiceExp}
use Rattle.codeword_peek.specs.declared.Combo.{Combo}
use Rattle.codeword_peek.specs.declared.Peeked.{Peeked}

-- ---- what is seen

-- how long it is
unfoldable pub length_at : Codebook → ℕ → ℕ
length_at cb w = count_leading_zeros 64 w + 1 + width cb (count_leading_zeros 64 w)

-- its symbol: the base of its suffix, and the suffix, which is the codeword's number without its 1
unfoldable pub symbol_at : Codebook → ℕ → ℕ
symbol_at cb w = base cb (count_leading_zeros 64 w) + (w / 2 ^ (64 - length_at cb w) - 2 ^ width cb (count_leading_zeros 64 w))

-- the symbol is told of a codeword that a word shows at any bit
abbrev pub peeked : Codebook → ℕ → Peeked
peeked cb w = record { len = length_at cb w; value = cond (nat_le (length_at cb w) shown) (symbol_at cb w) 0 }

-- wherever w shows enough bits, the codeword is len bits of them, and its symbol is value
pub record Foretells (cb : Codebook) (w len value : ℕ) : Type 0 where
  pub some : 0 < len
  pub short : len ≤ 256
  pub is : (n : ℕ) (bs : List Bool) → Shows n w bs → n ≤ shown → len ≤ n → read_code cb bs ≡ got value (drop len bs)

-- ---- every codebook as a combination

unfoldable pub combo_of : Codebook → Combo
combo_of (ExpGolomb k) = record { last = 0; r = k; e = k + 1 }
combo_of (RiceExp q r e) = record { last = q; r = r; e = e }

abbrev pub as_book : Combo → Codebook
as_book b = RiceExp b.last b.r b.e

-- what the combinations of the codebooks in use have in common
pub record Small (b : Combo) : Type 0 where
  pub last : b.last ≤ 2
  pub rice : b.r ≤ 5
  pub exp : b.e ≤ 6

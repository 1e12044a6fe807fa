-- What reading is. Document 01, "Bits", and of "Codewords" what is said of the bits alone.
use Rattle.std.specs.Prelude.{ℕ, zero, suc, true, false, cond, [], ◌∷◌, leb, length, take, drop}
use Rattle.answers.specs.Reading.{Parsed, got, refused, Reader}
use Rattle.bitstream.specs.Bits.{number}

-- a field of n bits
unfoldable pub read_field : ℕ → Reader
read_field n bs = cond (leb n (length bs)) (got (number (take n bs)) (drop n bs)) (refused 5)

-- the same, where more than 32 bits are refused before any of them is read
unfoldable pub read_bits : ℕ → Reader
read_bits n bs = cond (leb n 32) (read_field n bs) (refused 6)

abbrev pub one_more : Parsed → Parsed
one_more (got z t) = got (suc z) t
one_more (refused k) = refused k

-- the zeros before the next 1, which is read too; refused at the zero after the first cap
unfoldable pub zero_prefix : ℕ → Reader
zero_prefix cap [] = refused 5
zero_prefix cap (true ∷ bs) = got 0 bs
zero_prefix zero (false ∷ bs) = refused 6
zero_prefix (suc cap) (false ∷ bs) = one_more (zero_prefix cap bs)

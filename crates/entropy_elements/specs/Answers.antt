-- What decoding and encoding answer, by document 01's numbers, and what each lent buffer then holds: document 01, "Refusal numbers" and the limits.
use Rattle.std.specs.Prelude.{ℕ, ◌*◌, cond, ◌&&◌, List, leb, eqb, ℤ, pos, length}
use Rattle.answers.specs.Answers.{ArgumentsAnswer, fit, unfit, on_arguments, refuse, Decoding, decoding, settled, Size, declines, Encoding, encoding}
use Rattle.bitstream.specs.Bits.{bits_of}
use Rattle.bitstream.specs.Told.{payload_limit}
use Rattle.bitstream.specs.Written.{written}
use Rattle.entropy_elements.specs.Elements.{encode}
use Rattle.entropy_elements.specs.Limits.{block_limit, in_range}
use Rattle.entropy_elements.specs.Decoding.{decode}

-- ---- the arguments: blocks, a payload of so many bytes (none to encode), and a list of n values, `each` for a block: 64 coefficients, or 256 of
-- their bytes

unfoldable pub coefficient_arguments : ℕ → ℕ → ℕ → ℕ → ArgumentsAnswer
coefficient_arguments each payload blocks n = cond (leb blocks block_limit && leb payload payload_limit) (cond (eqb n (each * blocks)) fit (unfit 2)) (unfit 1)

-- ---- decoding

-- the reading of a payload, for a list of the blocks' coefficients
abbrev pub reading_of : List ℕ → ℕ → Decoding ℤ
reading_of payload blocks = settled (pos 0) (bits_of payload) (64 * blocks) (decode blocks (bits_of payload))

unfoldable pub decode_of : List ℕ → ℕ → List ℤ → Decoding ℤ
decode_of payload blocks old =
    on_arguments (coefficient_arguments 64 (length payload) blocks (length old)) (reading_of payload blocks) (λ k. decoding (refuse k) old)

-- ---- encoding

-- the writing of coefficients: their range is looked at before the room
unfoldable pub writing_of : List ℤ → ℕ → List ℕ → Encoding Size
writing_of coeffs blocks old = cond (in_range coeffs) (written (encode blocks coeffs) old) (encoding (declines 4) old)

unfoldable pub encode_of : List ℤ → ℕ → List ℕ → Encoding Size
encode_of coeffs blocks old =
    on_arguments (coefficient_arguments 64 0 blocks (length coeffs)) (writing_of coeffs blocks old) (λ k. encoding (declines k) old)

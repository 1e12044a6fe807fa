-- The scanned coefficient coder where the coefficients are bytes: document 01, "Port order and change of shape". A list is 256 x blocks bytes, else
-- it is refused with 2; all else is the coder's own answer.
use Rattle.std.specs.Prelude.{ℕ, List, ℤ, length}
use Rattle.answers.specs.Answers.{on_arguments, refuse, Decoding, decoding, Size, declines, Encoding, encoding}
use Rattle.entropy_elements.specs.Answers.{coefficient_arguments, reading_of, writing_of}
use Rattle.cart_bytes.specs.Bytes.{ints_of, bytes_of}

-- ---- decoding: the answer, and the bytes of the lent list

abbrev pub in_bytes : Decoding ℤ → Decoding ℕ
in_bytes d = decoding d.answer (bytes_of d.list)

unfoldable pub decode_bytes_of : List ℕ → ℕ → List ℕ → Decoding ℕ
decode_bytes_of payload blocks old =
    on_arguments (coefficient_arguments 256 (length payload) blocks (length old)) (in_bytes (reading_of payload blocks)) (λ k. decoding (refuse k) old)

-- ---- encoding: the answer, and the buffer

unfoldable pub encode_bytes_of : List ℕ → ℕ → List ℕ → Encoding Size
encode_bytes_of coeffs blocks old =
    on_arguments (coefficient_arguments 256 0 blocks (length coeffs)) (writing_of (ints_of coeffs) blocks old) (λ k. encoding (declines k) old)

-- Slices whose blocks are bytes: document 01, "Port order and change of shape". What the slice coder's definitions say, with 4 little-endian bytes for a
-- coefficient: another number of bytes is refused with 2.
use Rattle.std.specs.Prelude.{ℕ, List, length}
use Rattle.answers.specs.Answers.{on_arguments, Size, declines, Encoding, encoding}
use Rattle.cart_bytes.specs.Bytes.{ints_of, bytes_of}
use Rattle.slice_shape.specs.Shapes.{Components}
use Rattle.slice_shape.specs.Arguments.{slice_arguments}
use Rattle.slice_shape.specs.Encoding.{slice_writing_of}
use Rattle.slice_shape.specs.Decoding.{SliceAnswer, refuse_in, SliceDecoding, slice_reading_of}

-- ---- encoding

unfoldable pub encode_slice_bytes_of : List ℕ → ℕ → ℕ → ℕ → List ℕ → Encoding (Components Size)
encode_slice_bytes_of bytes m f s old =
    on_arguments (slice_arguments 4 0 0 0 m f s (length bytes)) (slice_writing_of (ints_of bytes) m f s old) (λ k. encoding (declines k) old)

-- ---- decoding: an answer, and the bytes

pub record SliceBytesDecoding : Type 0 where
  pub answer : SliceAnswer
  pub bytes : List ℕ

abbrev pub slice_bytes_decoding : SliceAnswer → List ℕ → SliceBytesDecoding
slice_bytes_decoding a bs = record { answer = a; bytes = bs }

-- where a component is refused, the bytes of zeros are zeros
abbrev pub slice_in_bytes : SliceDecoding → SliceBytesDecoding
slice_in_bytes d = slice_bytes_decoding d.answer (bytes_of d.list)

unfoldable pub decode_slice_bytes_of : List ℕ → List ℕ → List ℕ → ℕ → ℕ → ℕ → List ℕ → SliceBytesDecoding
decode_slice_bytes_of y cb cr m f s old =
    on_arguments (slice_arguments 4 (length y) (length cb) (length cr) m f s (length old)) (slice_in_bytes (slice_reading_of y cb cr m f s))
    (λ k. slice_bytes_decoding (refuse_in 0 k) old)

-- The slice coder's answers as numbers.
use Rattle.std.specs.Prelude.{ℕ}
use Rattle.answers.specs.Answers.{EncodeAnswer, wrote, unwritten, Size}
use Rattle.slice_shape.specs.Decoding.{SliceAnswer, read_all, refuse_in}
use Rattle.answers.specs.declared.Code.{Code}
use Rattle.cart_numbers.specs.declared.slices.SliceEncodeNumbers.{SliceEncodeNumbers}
use Rattle.cart_numbers.specs.declared.slices.SliceDecodeNumbers.{SliceDecodeNumbers}
use Rattle.slice_shape.specs.Shapes.{Components}

abbrev pub code_numbers : ℕ → ℕ → Code
code_numbers bytes bits = record { bytes = bytes; bits = bits }

-- a result without codes, and the bytes that are needed
abbrev pub no_codes : ℕ → ℕ → SliceEncodeNumbers
no_codes k n = record { result = k; y = code_numbers 0 0; cb = code_numbers 0 0; cr = code_numbers 0 0; needed = n }

-- the result, each component's bytes and bits, and of a refusal the bytes that are needed
abbrev pub encode_slice_numbers : EncodeAnswer (Components Size) → SliceEncodeNumbers
encode_slice_numbers (wrote s) =
    record { result = 0; y = code_numbers s.y.bytes s.y.bits; cb = code_numbers s.cb.bytes s.cb.bits; cr = code_numbers s.cr.bytes s.cr.bits; needed = 0 }
encode_slice_numbers (unwritten k needed) = no_codes k needed

-- a refusal and its component
abbrev pub refused_in : ℕ → ℕ → SliceDecodeNumbers
refused_in c k = record { result = k; component = c; y = 0; cb = 0; cr = 0 }

-- the result, the component that is refused, and each component's bits
abbrev pub decode_slice_numbers : SliceAnswer → SliceDecodeNumbers
decode_slice_numbers (read_all n) = record { result = 0; component = 0; y = n.y; cb = n.cb; cr = n.cr }
decode_slice_numbers (refuse_in c k) = refused_in c k

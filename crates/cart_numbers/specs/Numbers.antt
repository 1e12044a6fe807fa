-- The answers of the coefficient and the alpha coder as numbers.
use Rattle.answers.specs.Answers.{DecodeAnswer, read, refuse, Size, EncodeAnswer, wrote, unwritten}
use Rattle.cart_numbers.specs.declared.DecodeNumbers.{DecodeNumbers}
use Rattle.cart_numbers.specs.declared.EncodeNumbers.{EncodeNumbers}

-- the result and the bits read
abbrev pub decode_numbers : DecodeAnswer → DecodeNumbers
decode_numbers (read n) = record { result = 0; bits = n }
decode_numbers (refuse k) = record { result = k; bits = 0 }

-- the result, the bytes and the bits; of a refusal the bytes are those that are needed
abbrev pub encode_numbers : EncodeAnswer Size → EncodeNumbers
encode_numbers (wrote s) = record { result = 0; bytes = s.bytes; bits = s.bits }
encode_numbers (unwritten k needed) = record { result = k; bytes = needed; bits = 0 }

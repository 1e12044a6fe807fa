-- What the answers of the slice coder say: the component and document 01's number for each case.
use Rattle.std.specs.Prelude.{ℕ, Result, Ok, Err}
use Rattle.answers.specs.Refusals.{number_of}
use Rattle.answers.specs.Answers.{Size, EncodeAnswer}
use Rattle.answers.specs.Told.{told_code, told_encoding}
use Rattle.answers.specs.declared.Code.{Code}
use Rattle.answers.specs.declared.EncodeRefusal.{EncodeRefusal}
use Rattle.answers.specs.declared.Refusal.{Refusal}
use Rattle.slice_shape.specs.Shapes.{BlocksAnswer, counts, unknown, Components}
use Rattle.slice_shape.specs.Decoding.{SliceAnswer, read_all, refuse_in}
use Rattle.slice_shape.specs.declared.SliceRefusal.{SliceRefusal}
use Rattle.slice_shape.specs.declared.SliceRefusal.TheVariants.{Arguments, Y, Cb, Cr}

abbrev pub told_blocks : Result ℕ Refusal → BlocksAnswer
told_blocks (Ok n) = counts n
told_blocks (Err why) = unknown (number_of why)

abbrev pub told_codes : Components Code → Components Size
told_codes codes = record { y = told_code codes.y; cb = told_code codes.cb; cr = told_code codes.cr }

abbrev pub told_encoded_slice : Result (Components Code) EncodeRefusal → EncodeAnswer (Components Size)
told_encoded_slice = told_encoding told_codes

abbrev pub told_decoded_slice : Result (Components ℕ) SliceRefusal → SliceAnswer
told_decoded_slice (Ok bits) = read_all bits
told_decoded_slice (Err (Arguments why)) = refuse_in 0 (number_of why)
told_decoded_slice (Err (Y why)) = refuse_in 1 (number_of why)
told_decoded_slice (Err (Cb why)) = refuse_in 2 (number_of why)
told_decoded_slice (Err (Cr why)) = refuse_in 3 (number_of why)

-- What the answers of the code say, by document 01's numbers ("Refusal numbers").
use Rattle.std.specs.Prelude.{ℕ, List, replicate, Result, Ok, Err}
use Rattle.answers.specs.Refusals.{number_of}
use Rattle.answers.specs.Answers.{ArgumentsAnswer, fit, unfit, DecodeAnswer, read, refuse, Decoding, decoding, Size, EncodeAnswer, wrote, needs, declines}
use Rattle.answers.specs.declared.Refusal.{Refusal}
use Rattle.answers.specs.declared.Code.{Code}
use Rattle.answers.specs.declared.EncodeRefusal.{EncodeRefusal}
use Rattle.answers.specs.declared.EncodeRefusal.TheVariants.{Room, Refused}

abbrev pub told_arguments : {T : Type 0} → Result T Refusal → ArgumentsAnswer
told_arguments (Ok taken) = fit
told_arguments (Err why) = unfit (number_of why)

-- the bits that were read
abbrev pub told_decoded : Result ℕ Refusal → DecodeAnswer
told_decoded (Ok n) = read n
told_decoded (Err why) = refuse (number_of why)

-- as an answer for a list of n values, of which z is zero
abbrev pub reached_says : {O : Type 0} → O → ℕ → Result ℕ Refusal → List O → Decoding O
reached_says z n (Ok at) list = decoding (read at) list
reached_says z n (Err why) list = decoding (refuse (number_of why)) (replicate n z)

abbrev pub told_code : Code → Size
told_code c = record { bytes = c.bytes; bits = c.bits }

-- T is what is told of a code, or of several
abbrev pub told_encoding : {C T : Type 0} → (C → T) → Result C EncodeRefusal → EncodeAnswer T
told_encoding told (Ok c) = wrote (told c)
told_encoding told (Err (Room needed)) = needs needed
told_encoding told (Err (Refused why)) = declines (number_of why)

abbrev pub told_encoded : Result Code EncodeRefusal → EncodeAnswer Size
told_encoded = told_encoding told_code

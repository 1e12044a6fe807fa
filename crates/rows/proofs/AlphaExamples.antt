-- What the definitions of alpha give, by computation, beside the rows marked P: document 01's other rows, and its sections Alpha and Refusal numbers.
-- Assumes nothing.
use Prim.Native.Nat.{ℕ}
use mathlib.Core.Path.{◌≡◌, refl}
use mathlib.Core.List.{List, [], ◌∷◌}
use lib.ListN.{length, replicate}
use Rattle.bitstream.specs.Bits.{field, number, bits_of, ended}
use Rattle.bitstream.specs.Bytes.{bytes, pack, stored}
use Rattle.bitstream.specs.Reading.{read_field}
use Rattle.answers.specs.Machine.{elements, from}
use Rattle.answers.specs.Answers.{read, refuse, wrote, needs, declines, encoding, decoding}
use Rattle.bitstream.specs.Written.{written}
use Rattle.alpha_elements.specs.Kinds.{kind_of}
use Rattle.alpha_elements.specs.Limits.{samples_in_range}
use Rattle.alpha_elements.specs.Values.{residue, sample_of}
use Rattle.alpha_elements.specs.Elements.{run_bits, alpha_element_bits, alpha_bits, difference_element, run_elements, alpha_elements_of, encode_alpha}
use Rattle.alpha_elements.specs.Decoding.{difference_step, alpha_run_to, run_step, alpha_step, alpha_finish, decode_alpha}
use Rattle.alpha_elements.specs.Answers.{alpha_arguments, decode_alpha_of, alpha_writing_of, encode_alpha_of}
use Rattle.rows.specs.Rows.{used}

-- ---- writing and reading

-- the samples ss of the kind of code number c are written as the bytes ys, of which n bits are code, and reading these gives the samples back
abbrev Coded : ℕ → List ℕ → List ℕ → ℕ → Type 0
Coded c ss ys n =
    (encode_alpha_of ss c (used (length ys)) ≡ encoding (wrote (record { bytes = length ys; bits = n })) ys)
    × (decode_alpha_of ys c (used (length ss)) ≡ decoding (read n) ss)

-- a run of 2,049; no samples are no bytes
pub coded :
    Coded 1 (replicate 2049 0) (0x00 ∷ 0x3f ∷ 0xfc ∷ 0x02 ∷ []) 31
    × Coded 1 [] [] 0
    × Coded 2 [] [] 0
unfolding field number bits_of ended bytes pack stored read_field elements from kind_of samples_in_range residue sample_of run_bits alpha_element_bits alpha_bits difference_element run_elements alpha_elements_of encode_alpha difference_step alpha_run_to run_step alpha_step alpha_finish decode_alpha written alpha_arguments decode_alpha_of alpha_writing_of encode_alpha_of
coded = ((refl, refl), (refl, refl), (refl, refl))

-- a small difference wraps too: -1 after 0 is 255, though we write no such code
pub wraps : decode_alpha_of (0x04 ∷ 0x30 ∷ []) 1 (used 2) ≡ decoding (read 12) (0 ∷ 255 ∷ [])
unfolding field number bits_of ended read_field elements from kind_of sample_of residue difference_step alpha_run_to run_step alpha_step alpha_finish decode_alpha alpha_arguments decode_alpha_of
wraps = refl

-- ---- refusals

-- reading ys as n samples of the kind of code number c is refused with r, and the list is set to zero
abbrev Refused : List ℕ → ℕ → ℕ → ℕ → Type 0
Refused ys c n r = decode_alpha_of ys c (used n) ≡ decoding (refuse r) (replicate n 0)

-- a payload that ends early; a long run field below 16, also where the run would pass the last sample; a run of 2 for 1 sample; bits behind the code
pub refusals :
    Refused (0x70 ∷ []) 2 1 5
    × Refused (0x00 ∷ 0x00 ∷ 0x78 ∷ []) 1 20 9
    × Refused (0x00 ∷ 0x00 ∷ 0x78 ∷ []) 1 5 9
    × Refused (0x70 ∷ 0x40 ∷ []) 1 1 10
    × Refused (0x74 ∷ 0x00 ∷ []) 1 1 11
    × Refused (0x75 ∷ []) 1 1 12
    × Refused (0x00 ∷ []) 1 0 11
unfolding field number bits_of ended read_field elements from kind_of sample_of residue difference_step alpha_run_to run_step alpha_step alpha_finish decode_alpha alpha_arguments decode_alpha_of
refusals = (refl, refl, refl, refl, refl, refl, refl)

-- an unknown kind leaves the list
pub unknown : decode_alpha_of (0x74 ∷ []) 0 (used 1) ≡ decoding (refuse 13) (used 1) × decode_alpha_of (0x74 ∷ []) 3 (used 1) ≡ decoding (refuse 13) (used 1)
unfolding kind_of alpha_arguments decode_alpha_of
unknown = (refl, refl)

-- writing: an unknown kind, an 8-bit sample above 255, and room one byte short; each leaves the buffer
pub unwritten :
    encode_alpha_of (256 ∷ []) 3 (used 1) ≡ encoding (declines 13) (used 1)
    × encode_alpha_of (256 ∷ []) 1 (used 1) ≡ encoding (declines 4) (used 1)
    × encode_alpha_of (8 ∷ []) 1 (used 1) ≡ encoding (needs 2) (used 1)
unfolding field residue kind_of samples_in_range run_bits alpha_element_bits alpha_bits difference_element run_elements alpha_elements_of encode_alpha written alpha_arguments alpha_writing_of encode_alpha_of
unwritten = (refl, refl, refl)

-- Any two outcomes that a promise allows are equal, whatever they are held to: of encoding and decoding a slice, the answer and what the lent buffer or list
-- then holds; of `chroma_blocks_per_mb` and `blocks_per_mb`, the answer. (`arguments::test` is of the form of answers, `chroma_blocks` of `r ≡ X`.)
-- Assumes nothing.
use Prim.Native.Nat.{ℕ}
use mathlib.Core.Path.{◌≡◌, refl, sym, ap, ◌∙◌}
use mathlib.Core.Bool.{cond}
use mathlib.Core.List.{List}
use lib.Dec.{eqb}
use lib.IntN.{ℤ}
use Rattle.std.specs.Prelude.{Result, Ok, Err}
use Rattle.answers.specs.Answers.{Size, Encoding, encoding}
use Rattle.answers.specs.declared.Code.{Code}
use Rattle.answers.specs.declared.EncodeRefusal.{EncodeRefusal}
use Rattle.answers.specs.declared.Refusal.{Refusal}
use Rattle.answers.proofs.Unique.{refusal_of, refusal_of-number, encoding-unique}
use Rattle.slice_shape.specs.Shapes.{BlocksAnswer, counts, unknown, Components}
use Rattle.slice_shape.specs.Decoding.{SliceAnswer, read_all, refuse_in, SliceDecoding, slice_decoding}
use Rattle.slice_shape.specs.Told.{told_blocks, told_codes, told_encoded_slice, told_decoded_slice}
use Rattle.slice_shape.specs.declared.SliceRefusal.{SliceRefusal}
use Rattle.slice_shape.specs.declared.SliceRefusal.TheVariants.{Arguments, Y, Cb, Cr}

-- ---- what an answer says tells the answer

blocks_from : BlocksAnswer → Result ℕ Refusal
blocks_from (counts n) = Ok n
blocks_from (unknown k) = Err (refusal_of k)

blocks_from-told : (r : Result ℕ Refusal) → blocks_from (told_blocks r) ≡ r
unfolding blocks_from
blocks_from-told (Ok n) = refl
blocks_from-told (Err why) = ap Err (refusal_of-number why)

code_of : Size → Code
code_of s = record { bytes = s.bytes; bits = s.bits }

codes_of : Components Size → Components Code
codes_of s = record { y = code_of s.y; cb = code_of s.cb; cr = code_of s.cr }

codes_of-told : (codes : Components Code) → codes_of (told_codes codes) ≡ codes
unfolding codes_of code_of
codes_of-told codes = refl

refusal_in : ℕ → Refusal → SliceRefusal
refusal_in k why = cond (eqb k 0) (Arguments why) (cond (eqb k 1) (Y why) (cond (eqb k 2) (Cb why) (Cr why)))

pub decoded_of : SliceAnswer → Result (Components ℕ) SliceRefusal
decoded_of (read_all bits) = Ok bits
decoded_of (refuse_in k number) = Err (refusal_in k (refusal_of number))

pub decoded_of-told : (r : Result (Components ℕ) SliceRefusal) → decoded_of (told_decoded_slice r) ≡ r
unfolding decoded_of refusal_in
decoded_of-told (Ok bits) = refl
decoded_of-told (Err (Arguments why)) = ap (λ (k : Refusal). Err (Arguments k)) (refusal_of-number why)
decoded_of-told (Err (Y why)) = ap (λ (k : Refusal). Err (Y k)) (refusal_of-number why)
decoded_of-told (Err (Cb why)) = ap (λ (k : Refusal). Err (Cb k)) (refusal_of-number why)
decoded_of-told (Err (Cr why)) = ap (λ (k : Refusal). Err (Cr k)) (refusal_of-number why)

-- ---- the promises

pub blocks-unique : (x : BlocksAnswer) (r r' : Result ℕ Refusal) → told_blocks r ≡ x → told_blocks r' ≡ x → r ≡ r'
blocks-unique x r r' e f = sym (blocks_from-told r) ∙ ap blocks_from (e ∙ sym f) ∙ blocks_from-told r'

pub encode-unique : (x : Encoding (Components Size)) (r r' : Result (Components Code) EncodeRefusal) (b b' : List ℕ) → encoding (told_encoded_slice r) b ≡ x
    → encoding (told_encoded_slice r') b' ≡ x → (r ≡ r') × (b ≡ b')
encode-unique = encoding-unique told_codes codes_of codes_of-told

pub decode-unique : (x : SliceDecoding) (r r' : Result (Components ℕ) SliceRefusal) (l l' : List ℤ) → slice_decoding (told_decoded_slice r) l ≡ x
    → slice_decoding (told_decoded_slice r') l' ≡ x → (r ≡ r') × (l ≡ l')
decode-unique x r r' l l' e g =
    let same : slice_decoding (told_decoded_slice r) l ≡ slice_decoding (told_decoded_slice r') l' = e ∙ sym g in
    (sym (decoded_of-told r) ∙ ap (λ (y : SliceDecoding). decoded_of y.answer) same ∙ decoded_of-told r', ap (λ (y : SliceDecoding). y.list) same)

-- Any two outcomes that the promise of decode allows are equal. That of encode is of the slice coder's form, whose `encode-unique` holds of any outcome.
-- Assumes nothing.
use Prim.Native.Nat.{ℕ}
use mathlib.Core.Path.{◌≡◌, sym, ap, ◌∙◌}
use mathlib.Core.List.{List}
use Rattle.std.specs.Prelude.{Result}
use Rattle.slice_shape.specs.Shapes.{Components}
use Rattle.slice_shape.specs.Told.{told_decoded_slice}
use Rattle.slice_shape.specs.declared.SliceRefusal.{SliceRefusal}
use Rattle.slice_shape.proofs.Unique.{decoded_of, decoded_of-told}
use Rattle.cart_slice.specs.SliceBytes.{SliceBytesDecoding, slice_bytes_decoding}

pub decode-unique : (x : SliceBytesDecoding) (r r' : Result (Components ℕ) SliceRefusal) (b b' : List ℕ) → slice_bytes_decoding (told_decoded_slice r) b ≡ x
    → slice_bytes_decoding (told_decoded_slice r') b' ≡ x → (r ≡ r') × (b ≡ b')
decode-unique x r r' b b' e f =
    let same : slice_bytes_decoding (told_decoded_slice r) b ≡ slice_bytes_decoding (told_decoded_slice r') b' = e ∙ sym f in
    (sym (decoded_of-told r) ∙ ap (λ (y : SliceBytesDecoding). decoded_of y.answer) same ∙ decoded_of-told r', ap (λ (y : SliceBytesDecoding). y.bytes) same)

-- What a program in C gets: the numbers of the answer, and what the lent buffer or list then holds.
-- Assumes nothing.
use Prim.Native.Nat.{ℕ, ◌≤◌, ◌<◌}
use mathlib.Core.Path.{◌≡◌, refl, sym, subst}
use mathlib.Core.Bool.{Bool, true, false}
use mathlib.Core.List.{List}
use lib.Dec.{leb}
use lib.ListN.{length}
use borrow.Author.Tests.{leb-true, leb-false}
use Rattle.answers.specs.Answers.{Decoding, Size, Encoding}
use Rattle.slice_shape.specs.Shapes.{Components}
use Rattle.cart_slice.specs.SliceBytes.{SliceBytesDecoding}
use Rattle.cart_numbers.specs.Numbers.{decode_numbers, encode_numbers}
use Rattle.cart_numbers.specs.Slices.{decode_slice_numbers, encode_slice_numbers}
use Rattle.cart_numbers.specs.declared.DecodeNumbers.{DecodeNumbers}
use Rattle.cart_numbers.specs.declared.EncodeNumbers.{EncodeNumbers}
use Rattle.cart_numbers.specs.declared.slices.SliceDecodeNumbers.{SliceDecodeNumbers}
use Rattle.cart_numbers.specs.declared.slices.SliceEncodeNumbers.{SliceEncodeNumbers}

-- of coefficients and of alpha
abbrev pub encoded : Encoding Size → EncodeNumbers × List ℕ
encoded x = (encode_numbers x.answer, x.buffer)

abbrev pub decoded : Decoding ℕ → DecodeNumbers × List ℕ
decoded x = (decode_numbers x.answer, x.list)

-- of slices
abbrev pub encoded_slice : Encoding (Components Size) → SliceEncodeNumbers × List ℕ
encoded_slice x = (encode_slice_numbers x.answer, x.buffer)

abbrev pub decoded_slice : SliceBytesDecoding → SliceDecodeNumbers × List ℕ
decoded_slice x = (decode_slice_numbers x.answer, x.bytes)

-- what holds of the numbers with room for n bytes, and of those without it, holds of the numbers
pub by-room : {R : Type 0} (P : R → Type 0) (n : ℕ) (old : List ℕ) {x enough none : R × List ℕ} → (n ≤ length old → x ≡ enough) → (length old < n → x ≡ none)
    → P enough.0 → P none.0 → P x.0
by-room {R} P n old {x} e f with-room without = go (leb n (length old)) refl
  where
    go : (t : Bool) → leb n (length old) ≡ t → P x.0
    go true t = subst (λ (y : R × List ℕ). P y.0) (sym (e (leb-true n (length old) t))) with-room
    go false t = subst (λ (y : R × List ℕ). P y.0) (sym (f (leb-false n (length old) t))) without

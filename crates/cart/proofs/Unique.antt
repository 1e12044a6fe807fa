-- Any two outcomes that a promise allows are equal.
-- Assumes nothing.
use mathlib.Core.Path.{◌≡◌, sym, ap, ◌∙◌}
use mathlib.Core.List.{List}
use Prim.Native.Nat.{ℕ}
use Rattle.answers.specs.Answers.{DecodeAnswer, Encoding, Size}
use Rattle.cart_numbers.specs.Numbers.{decode_numbers, encode_numbers}
use Rattle.cart_numbers.specs.declared.DecodeNumbers.{DecodeNumbers}
use Rattle.cart_numbers.specs.declared.EncodeNumbers.{EncodeNumbers}
use Rattle.cart_numbers.specs.declared.slices.SliceEncodeNumbers.{SliceEncodeNumbers}
use Rattle.cart_numbers.specs.declared.slices.SliceDecodeNumbers.{SliceDecodeNumbers}
use Rattle.answers.specs.declared.Code.{Code}
use Rattle.quant.specs.declared.QuantMatrices.{QuantMatrices}
use Rattle.cart.specs.Matrices.{pair_of}

pub encode-unique : (x : Encoding Size) {r r' n n' m m' : ℕ} {b b' : List ℕ} → b ≡ x.buffer → b' ≡ x.buffer
    → record { result = r; bytes = n; bits = m } ≡ encode_numbers x.answer → record { result = r'; bytes = n'; bits = m' } ≡ encode_numbers x.answer
    → (r ≡ r') × (n ≡ n') × (m ≡ m') × (b ≡ b')
encode-unique x e e' f f' =
    let same = f ∙ sym f' in
    (ap (λ (y : EncodeNumbers). y.result) same, ap (λ (y : EncodeNumbers). y.bytes) same, ap (λ (y : EncodeNumbers). y.bits) same, e ∙ sym e')

-- of coefficients and of alpha
pub decode-unique : (a : DecodeAnswer) (x : List ℕ) {r r' m m' : ℕ} {b b' : List ℕ} → b ≡ x → b' ≡ x
    → record { result = r; bits = m } ≡ decode_numbers a → record { result = r'; bits = m' } ≡ decode_numbers a → (r ≡ r') × (m ≡ m') × (b ≡ b')
decode-unique a x e e' f f' =
    let same = f ∙ sym f' in
    (ap (λ (y : DecodeNumbers). y.result) same, ap (λ (y : DecodeNumbers). y.bits) same, e ∙ sym e')

-- ---- slices

pub slice-encode-unique : (x : SliceEncodeNumbers) (buffer : List ℕ) {r r' n n' : ℕ} {y y' cb cb' cr cr' : Code} {b b' : List ℕ}
    → r ≡ x.result → r' ≡ x.result → b ≡ buffer → b' ≡ buffer → y ≡ x.y → y' ≡ x.y → cb ≡ x.cb → cb' ≡ x.cb → cr ≡ x.cr → cr' ≡ x.cr
    → n ≡ x.needed → n' ≡ x.needed → (r ≡ r') × (b ≡ b') × (y ≡ y') × (cb ≡ cb') × (cr ≡ cr') × (n ≡ n')
slice-encode-unique x buffer e e' f f' g g' h h' k k' l l' = (e ∙ sym e', f ∙ sym f', g ∙ sym g', h ∙ sym h', k ∙ sym k', l ∙ sym l')

pub slice-decode-unique : (x : SliceDecodeNumbers) (bytes : List ℕ) {n n' : SliceDecodeNumbers} {b b' : List ℕ} → b ≡ bytes → b' ≡ bytes → n ≡ x → n' ≡ x → (n ≡ n') × (b ≡ b')
slice-decode-unique x bytes e e' f f' = (f ∙ sym f', e ∙ sym e')

-- ---- matrices: the tables of a pair

pub pair-unique : (m : QuantMatrices) {l l' c c' : List ℕ} → pair_of l c ≡ m → pair_of l' c' ≡ m → (l ≡ l') × (c ≡ c')
pair-unique m e f = let same = e ∙ sym f in (ap (λ (x : QuantMatrices). x.luma) same, ap (λ (x : QuantMatrices). x.chroma) same)

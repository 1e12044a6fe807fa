-- What is demanded of the coder above everything, as a program in C has it: of coefficients that are bytes, and by the numbers that come back. Slices and alpha
-- have theorems of the same names, in SliceDemand and AlphaDemand.
-- Assumes nothing.
use Prim.Native.Nat.{ℕ, ◌+◌, ◌*◌, ◌≤◌, ◌<◌}
use native.Mathlib.Omega.{arith}
use mathlib.Core.Path.{◌≡◌, sym, ap, ◌∙◌}
use mathlib.Core.Bool.{Bool}
use mathlib.Core.List.{List, ◌++◌, append-nil}
use lib.ListN.{length, take, replicate}
use Rattle.bitstream.specs.Bytes.{bytes_for, pack, stored}
use Rattle.bitstream.specs.Told.{payload_limit}
use Rattle.bitstream.proofs.BytesLaws.{Bytes, length-pack, stored-payload}
use Rattle.answers.specs.Answers.{read, decoding}
use Rattle.entropy_elements.specs.Answers.{reading_of}
use Rattle.entropy_elements.specs.Elements.{size, elements_of, encode}
use Rattle.entropy.proofs.Demand as E
use Rattle.cart_bytes.specs.Bytes.{ints_of}
use Rattle.cart_bytes.proofs.ByteLaws.{bytes-ints}
use Rattle.cart_numbers.specs.Numbers.{encode_numbers}
use Rattle.cart_numbers.specs.declared.DecodeNumbers.{DecodeNumbers}
use Rattle.cart_numbers.specs.declared.EncodeNumbers.{EncodeNumbers}
use Rattle.cart.specs.Coefficients.{in_bytes, decode_bytes_of, encode_bytes_of}
use Rattle.cart.proofs.CoefficientLaws.{encode-ints, decode-full}
use Rattle.cart.proofs.Face.{encoded, decoded, by-room}

-- the bytes of b blocks, whose coefficients are each below 2^w
module _ (b w : ℕ) (cs : List ℕ) (small : Bytes cs) (full : length cs ≡ 256 * b) (g : E.Given b w (ints_of cs)) where
  abbrev code : List Bool
  code = encode b (ints_of cs)

  abbrev needed : ℕ
  needed = bytes_for (length code)

  -- the numbers that are told of an encoding into the buffer old
  abbrev numbers : List ℕ → EncodeNumbers
  numbers old = encode_numbers (encode_bytes_of cs b old).answer

  -- ---- room

  -- without room for the code: 3, and the bytes that are needed; the buffer is untouched
  pub room-none : (old : List ℕ) → length old < needed → encoded (encode_bytes_of cs b old) ≡ (record { result = 3; bytes = needed; bits = 0 }, old)
  room-none old h = ap encoded (encode-ints cs b old g.blocks full ∙ E.room-none b w (ints_of cs) g old h)

  -- with room: 0, the code's bytes and bits; the buffer begins with the code, and beyond it is as it was
  pub room-enough : (old : List ℕ) → needed ≤ length old → encoded (encode_bytes_of cs b old) ≡ (record { result = 0; bytes = needed; bits = length code }, stored old code)
  room-enough old h = ap encoded (encode-ints cs b old g.blocks full ∙ E.room-enough b w (ints_of cs) g old h)

  -- ---- size

  -- the bits that are told are the sum of the codeword lengths and sign bits
  pub bits-sum : (old : List ℕ) → needed ≤ length old → (numbers old).bits ≡ size (elements_of b (ints_of cs))
  bits-sum old h = ap (λ (x : EncodeNumbers × List ℕ). x.0.bits) (room-enough old h) ∙ E.bits-sum b w (ints_of cs) g

  -- the bytes that are told, with room or without it, are at most 8 x blocks x (2w + 5)
  pub bytes_le : (old : List ℕ) → (numbers old).bytes ≤ 8 * b * (2 * w + 5)
  bytes_le old =
      let most = E.bytes_le b w (ints_of cs) g in
      by-room (λ (n : EncodeNumbers). n.bytes ≤ 8 * b * (2 * w + 5)) needed old (room-enough old) (room-none old) most most

  -- so a buffer of that many, which is CART_CODE_LEN of cart.h, is always enough
  pub most-enough : (old : List ℕ) → 8 * b * (2 * w + 5) ≤ length old → (numbers old).result ≡ 0
  most-enough old h = ap (λ (x : EncodeNumbers × List ℕ). x.0.result) (room-enough old (omega (arith, E.bytes_le b w (ints_of cs) g)))

  -- ---- every coefficient comes back

  -- the same bytes, and the bits of the code
  abbrev back : DecodeNumbers × List ℕ
  back = (record { result = 0; bits = length code }, cs)

  code-back : (k : ℕ) (p list : List ℕ) → p ≡ pack code ++ replicate k 0 → length p ≤ payload_limit → length list ≡ 256 * b → decoded (decode_bytes_of p b list) ≡ back
  code-back k p list e fits long =
      let four : length cs ≡ 4 * (64 * b) = omega arith in
      ap decoded
      (decode-full p b list g.blocks fits long
      ∙ ap (λ (q : List ℕ). in_bytes (reading_of q b)) e
      ∙ ap in_bytes (E.reading-back b w (ints_of cs) g k)
      ∙ ap (decoding (read (length code))) (bytes-ints cs (64 * b) four small))

  -- the first bytes of the buffer, as many as are told
  abbrev first : List ℕ → List ℕ
  first old = take (numbers old).bytes (encode_bytes_of cs b old).buffer

  first-is : (old : List ℕ) → needed ≤ length old → first old ≡ pack code
  first-is old room = ap (λ (x : EncodeNumbers × List ℕ). take x.0.bytes x.1) (room-enough old room) ∙ stored-payload old code

  -- decode gives them for the first bytes that encode leaves in a buffer with room, whatever the buffer held and however long it is
  pub encode-decode : (old list : List ℕ) → needed ≤ length old → length list ≡ 256 * b → decoded (decode_bytes_of (first old) b list) ≡ back
  encode-decode old list room long =
      code-back 0 _ list (first-is old room ∙ sym (append-nil (pack code))) (omega (arith, ap length (first-is old room), length-pack code, E.bytes_fit b w (ints_of cs) g)) long

  -- and for these followed by k zero bytes, up to the limit
  pub bytes_back : (old : List ℕ) (k : ℕ) (list : List ℕ) → needed ≤ length old → length (first old ++ replicate k 0) ≤ payload_limit → length list ≡ 256 * b
      → decoded (decode_bytes_of (first old ++ replicate k 0) b list) ≡ back
  bytes_back old k list room fits long = code-back k _ list (ap (λ (l : List ℕ). l ++ replicate k 0) (first-is old room)) fits long

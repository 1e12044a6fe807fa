-- What is demanded of the alpha coder above everything, as a program in C has it: by the numbers that come back. No bytes may follow a code of alpha.
-- Assumes nothing.
use Prim.Native.Nat.{ℕ, ◌*◌, ◌≤◌, ◌<◌}
use native.Mathlib.Omega.{arith}
use mathlib.Core.Path.{◌≡◌, ap, ◌∙◌}
use mathlib.Core.Bool.{Bool, true}
use mathlib.Core.List.{List}
use lib.ListN.{length, take}
use Rattle.bitstream.specs.Bytes.{bytes_for, pack, stored}
use Rattle.bitstream.proofs.BytesLaws.{stored-payload}
use Rattle.alpha_elements.specs.declared.AlphaChannelType.{AlphaChannelType}
use Rattle.alpha_elements.specs.Kinds.{most_bits_of, code_of}
use Rattle.alpha_elements.specs.Limits.{sample_limit, samples_in_range}
use Rattle.alpha_elements.specs.Elements.{alpha_size, alpha_elements_of, encode_alpha}
use Rattle.alpha_elements.specs.Answers.{decode_alpha_of, encode_alpha_of}
use Rattle.alpha.proofs.Demand as A
use Rattle.cart_numbers.specs.Numbers.{encode_numbers}
use Rattle.cart_numbers.specs.declared.DecodeNumbers.{DecodeNumbers}
use Rattle.cart_numbers.specs.declared.EncodeNumbers.{EncodeNumbers}
use Rattle.cart.proofs.Face.{encoded, decoded, by-room}

-- up to 16,384 samples in range
module _ (k : AlphaChannelType) (ss : List ℕ) (few : length ss ≤ sample_limit) (small : samples_in_range k ss ≡ true) where
  abbrev code : List Bool
  code = encode_alpha k ss

  abbrev needed : ℕ
  needed = bytes_for (length code)

  -- the numbers that are told of an encoding into the buffer old
  abbrev numbers : List ℕ → EncodeNumbers
  numbers old = encode_numbers (encode_alpha_of ss (code_of k) old).answer

  -- ---- room

  -- without room for the code: 3, and the bytes that are needed; the buffer is untouched
  pub room-none : (old : List ℕ) → length old < needed → encoded (encode_alpha_of ss (code_of k) old) ≡ (record { result = 3; bytes = needed; bits = 0 }, old)
  room-none old h = ap encoded (A.room-none k ss few small old h)

  -- with room: 0, the code's bytes and bits; the buffer begins with the code, and beyond it is as it was
  pub room-enough : (old : List ℕ) → needed ≤ length old → encoded (encode_alpha_of ss (code_of k) old) ≡ (record { result = 0; bytes = needed; bits = length code }, stored old code)
  room-enough old h = ap encoded (A.room-enough k ss few small old h)

  -- ---- size

  -- the bits that are told are the sum of the elements' lengths
  pub bits-sum : (old : List ℕ) → needed ≤ length old → (numbers old).bits ≡ alpha_size k (alpha_elements_of k ss)
  bits-sum old h = ap (λ (x : EncodeNumbers × List ℕ). x.0.bits) (room-enough old h) ∙ A.bits-sum k ss few small

  -- the bytes that are told, with room or without it, are at most those of 10 bits for each sample of kind 1, 18 of kind 2
  pub bytes_le : (old : List ℕ) → (numbers old).bytes ≤ bytes_for (most_bits_of k * length ss)
  bytes_le old =
      let most = A.bytes_le k ss few small in
      by-room (λ (n : EncodeNumbers). n.bytes ≤ bytes_for (most_bits_of k * length ss)) needed old (room-enough old) (room-none old) most most

  -- so a buffer of that many, which is CART_ALPHA_CODE_LEN of cart.h, is always enough
  pub most-enough : (old : List ℕ) → bytes_for (most_bits_of k * length ss) ≤ length old → (numbers old).result ≡ 0
  most-enough old h = ap (λ (x : EncodeNumbers × List ℕ). x.0.result) (room-enough old (omega (arith, A.bytes_le k ss few small)))

  -- ---- every sample comes back

  -- the same samples, and the bits of the code
  abbrev back : DecodeNumbers × List ℕ
  back = (record { result = 0; bits = length code }, ss)

  -- the first bytes of the buffer, as many as are told
  abbrev first : List ℕ → List ℕ
  first old = take (numbers old).bytes (encode_alpha_of ss (code_of k) old).buffer

  first-is : (old : List ℕ) → needed ≤ length old → first old ≡ pack code
  first-is old room = ap (λ (x : EncodeNumbers × List ℕ). take x.0.bytes x.1) (room-enough old room) ∙ stored-payload old code

  -- decode gives them for the first bytes that encode leaves in a buffer with room, whatever the buffer held and however long it is
  pub encode-decode : (old list : List ℕ) → needed ≤ length old → length list ≡ length ss → decoded (decode_alpha_of (first old) (code_of k) list) ≡ back
  encode-decode old list room long =
      ap (λ (p : List ℕ). decoded (decode_alpha_of p (code_of k) list)) (first-is old room) ∙ ap decoded (A.bytes_back k ss few small list long)

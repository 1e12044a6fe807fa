-- What is demanded of the alpha coder, as theorems over the definitions that the two public functions are held to, for up to 16,384 samples in range:
-- the count of bits and its bound, exact room, and that every sample comes back.
-- Assumes nothing.
use Prim.Native.Nat.{ℕ, ◌-◌, ◌*◌, ◌≤◌, ◌<◌}
use native.Mathlib.Omega.{arith}
use mathlib.Core.Path.{◌≡◌, refl, sym, ap, ◌∙◌}
use mathlib.Core.Bool.{Bool, true, false}
use mathlib.Core.List.{List}
use lib.ListN.{length, take, replicate, length-append, length-replicate}
use Rattle.bitstream.specs.Bits.{bits_of, zeros}
use Rattle.bitstream.specs.Bytes.{bytes_for, pack, stored}
use Rattle.answers.specs.Machine.{accepted, Rejects}
use Rattle.answers.proofs.StandLaws.{rejects-settled}
use Rattle.answers.proofs.EndLaws.{settled-rejects}
use Rattle.bitstream.specs.Told.{payload_limit}
use Rattle.bitstream.specs.Written.{size_of, written}
use Rattle.bitstream.proofs.BytesLaws.{bits-pack, length-pack, stored-payload}
use Rattle.bitstream.proofs.PlaceLaws.{ended-zeros}
use Rattle.answers.specs.Answers.{read, refuse, Encoding, encoding, wrote, needs, Decoding, decoding, settled, Size}
use Rattle.bitstream.proofs.WrittenLaws.{written-room, written-done}
use Rattle.alpha_elements.specs.declared.AlphaChannelType.{AlphaChannelType}
use Rattle.alpha_elements.specs.Kinds.{most_bits_of, code_of}
use Rattle.alpha_elements.specs.Limits.{sample_limit, samples_in_range}
use Rattle.alpha_elements.specs.Elements.{alpha_size, alpha_elements_of, encode_alpha}
use Rattle.alpha_elements.specs.Decoding.{OutA, decode_alpha}
use Rattle.alpha_elements.specs.Answers.{alpha_reading_of, decode_alpha_of, encode_alpha_of}
use Rattle.alpha_elements.proofs.KindLaws.{kind-code}
use Rattle.alpha_elements.proofs.RoundTrip.{in_range-small, decode-encode}
use Rattle.alpha_elements.proofs.StepLaws.{decode_alpha-ends}
use Rattle.alpha_elements.proofs.SizeLaws.{encode-length, encode-le, encode-most}
use Rattle.alpha_elements.proofs.ArgumentLaws.{arguments-taken, decode-by, encode-by, writing-in}

module _ (k : AlphaChannelType) (ss : List ℕ) (few : length ss ≤ sample_limit) (small : samples_in_range k ss ≡ true) where
  -- the bits are the sum of the elements' lengths
  pub bits-sum : length (encode_alpha k ss) ≡ alpha_size k (alpha_elements_of k ss)
  bits-sum = encode-length k ss

  -- and at most 10 for each sample of kind 1, 18 of kind 2
  pub bits-le : length (encode_alpha k ss) ≤ most_bits_of k * length ss
  bits-le = encode-le k ss

  -- so the bytes are at most these bits / 8 rounded up
  pub bytes_le : bytes_for (length (encode_alpha k ss)) ≤ bytes_for (most_bits_of k * length ss)
  bytes_le = omega (arith, bits-le)

  -- and the code is a payload that decoding takes
  pub bytes_fit : bytes_for (length (encode_alpha k ss)) ≤ payload_limit
  bytes_fit = omega (arith, encode-most k ss few)

  -- what encoding comes to
  encode-is : (old : List ℕ) → encode_alpha_of ss (code_of k) old ≡ written (encode_alpha k ss) old
  encode-is old = encode-by ss (code_of k) old (arguments-taken (code_of k) (length ss) 0 (kind-code k) few (omega arith)) ∙ writing-in k ss old small

  -- ---- room: it is refused exactly if the buffer is shorter than those bytes

  -- without it, they are reported, and the buffer is untouched
  pub room-none : (old : List ℕ) → length old < bytes_for (length (encode_alpha k ss))
      → encode_alpha_of ss (code_of k) old ≡ encoding (needs (bytes_for (length (encode_alpha k ss)))) old
  room-none old h = encode-is old ∙ sym (written-room (encode_alpha k ss) old refl h)

  -- with it, the bytes and bits are reported; the buffer begins with the code, and beyond it is as it was
  pub room-enough : (old : List ℕ) → bytes_for (length (encode_alpha k ss)) ≤ length old
      → encode_alpha_of ss (code_of k) old ≡ encoding (wrote (size_of (encode_alpha k ss))) (stored old (encode_alpha k ss))
  room-enough old h = encode-is old ∙ sym (written-done (encode_alpha k ss) old refl h refl refl)

  -- ---- every sample comes back

  -- the bytes of the code give the same samples and bit count
  pub bytes_back : (list : List ℕ) → length list ≡ length ss
      → decode_alpha_of (pack (encode_alpha k ss)) (code_of k) list ≡ decoding (read (length (encode_alpha k ss))) ss
  bytes_back list len =
      let code : List Bool = encode_alpha k ss in
      let n : ℕ = 8 * bytes_for (length code) - length code in
      let count : length (bits_of (pack code)) - length (zeros n) ≡ length code = omega (arith, ap length (bits-pack code) ∙ length-append code (zeros n)) in
      let back : decode_alpha k (length list) (bits_of (pack code)) ≡ accepted ss (zeros n) =
      ap (λ (i : ℕ). decode_alpha k i (bits_of (pack code))) len
      ∙ ap (decode_alpha k (length ss)) (bits-pack code)
      ∙ decode-encode k (zeros n) (omega (arith, length-replicate n false)) (ended-zeros n) ss (in_range-small k ss small) in
      decode-by (pack code) (code_of k) list (arguments-taken (code_of k) (length list) (length (pack code)) (kind-code k) (omega arith) (omega (arith, length-pack code, bytes_fit)))
      ∙ ap (λ (o : OutA). settled 0 (bits_of (pack code)) (length list) o) back
      ∙ ap (λ (i : ℕ). decoding (read i) ss) count

  -- what encode leaves in a buffer with room, whatever the buffer held and however long it is, decode reads back from its first bytes
  pub encode-decode : (old list : List ℕ) → bytes_for (length (encode_alpha k ss)) ≤ length old → length list ≡ length ss
      → decode_alpha_of (take (bytes_for (length (encode_alpha k ss))) (encode_alpha_of ss (code_of k) old).buffer) (code_of k) list
      ≡ decoding (read (length (encode_alpha k ss))) ss
  encode-decode old list room len =
      let code : List Bool = encode_alpha k ss in
      let first : take (bytes_for (length code)) (encode_alpha_of ss (code_of k) old).buffer ≡ pack code =
      ap (λ (x : Encoding Size). take (bytes_for (length code)) x.buffer) (room-enough old room) ∙ stored-payload old code in
      ap (λ (p : List ℕ). decode_alpha_of p (code_of k) list) first ∙ bytes_back list len

-- ---- a payload is refused with a number exactly where the reading of its bits is, at the first element that cannot be read or behind the last one

module _ (k : AlphaChannelType) (payload list : List ℕ) (few : length list ≤ sample_limit) (short : length payload ≤ payload_limit) where
  decode_is : decode_alpha_of payload (code_of k) list ≡ alpha_reading_of k payload (length list)
  decode_is = decode-by payload (code_of k) list (arguments-taken (code_of k) (length list) (length payload) (kind-code k) few short)

  pub refused-when : (r : ℕ) → Rejects r (decode_alpha k (length list) (bits_of payload)) → decode_alpha_of payload (code_of k) list ≡ decoding (refuse r) (replicate (length list) 0)
  refused-when r x = decode_is ∙ sym (rejects-settled 0 (bits_of payload) (length list) r x)

  pub refused-only : (r : ℕ) → (decode_alpha_of payload (code_of k) list).answer ≡ refuse r → Rejects r (decode_alpha k (length list) (bits_of payload))
  refused-only r e =
      settled-rejects 0 (bits_of payload) (length list) r (decode_alpha k (length list) (bits_of payload)) (decode_alpha-ends k (length list) (bits_of payload))
      (sym (ap (λ (d : Decoding ℕ). d.answer) decode_is) ∙ e)

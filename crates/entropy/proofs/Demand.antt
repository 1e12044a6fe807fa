-- What is demanded of the coder above everything, as theorems over the definitions that the two public functions are held to, for 0 to 32 blocks:
-- the count of bits, the size bound, exact room, and that every coefficient comes back.
-- Assumes nothing.
use Prim.Native.Nat.{ℕ, zero, suc, ◌+◌, ◌-◌, ◌*◌, ◌^◌, ◌≤◌, ◌<◌}
use native.Mathlib.Nat.{le_trans, mul-le-mul}
use native.Mathlib.Omega.{arith}
use mathlib.Core.Path.{◌≡◌, refl, sym, ap, ap₂, ◌∙◌}
use mathlib.Core.Bool.{Bool, true, ◌&&◌}
use mathlib.Core.List.{List, [], ◌∷◌, ◌++◌, append_assoc, append-nil}
use lib.IntN.{ℤ, pos}
use lib.ListN.{length, take, replicate, length-append}
use lib.Pow.{pow_mono}
use Rattle.bitstream.specs.Bits.{field, bits_of, zeros, ended}
use Rattle.bitstream.specs.Bytes.{bytes_for, pack, stored}
use Rattle.answers.specs.Machine.{accepted, Rejects}
use Rattle.answers.proofs.StandLaws.{rejects-settled}
use Rattle.answers.proofs.EndLaws.{settled-rejects}
use Rattle.bitstream.specs.Told.{payload_limit}
use Rattle.bitstream.proofs.BitsLaws.{bits-append}
use Rattle.bitstream.proofs.BytesLaws.{bits-pack, length-pack, stored-payload}
use Rattle.bitstream.proofs.PlaceLaws.{ended-append, ended-zeros}
use Rattle.entropy_elements.specs.Elements.{size, elements_of, encode}
use Rattle.entropy_elements.specs.Limits.{in_range, block_limit, Encodable}
use Rattle.entropy_elements.specs.Decoding.{nil, decode, OutC}
use Rattle.answers.specs.Answers.{Decoding, decoding, read, refuse, settled, Encoding, encoding, wrote, needs, Size}
use Rattle.entropy_elements.specs.Answers.{reading_of, decode_of, encode_of}
use Rattle.entropy_elements.proofs.RoundTrip.{Small, decode-encode}
use Rattle.entropy_elements.proofs.StepLaws.{decode-ends}
use Rattle.entropy_elements.proofs.SizeLaws.{Below, encode-length, size-le}
use Rattle.entropy_elements.proofs.RangeLaws.{in_range-small}
use Rattle.entropy_elements.proofs.ArgumentLaws.{decode_of-fits}
use Rattle.entropy.proofs.EncodeLaws.{writing-room, writing-done, encode-fits}
use Rattle.bitstream.specs.Written.{size_of}

-- the coefficients of b blocks, each below 2^w
pub record Given (b w : ℕ) (cs : List ℤ) : Type 0 where
  pub blocks : b ≤ block_limit
  pub all : length cs ≡ 64 * b
  pub width : w ≤ 29
  pub below : Below w cs

below-small : (w : ℕ) (cs : List ℤ) → w ≤ 29 → Below w cs → Small cs
below-small w [] h b = tt
below-small w (c ∷ cs) h b = let p : 2 ^ w ≤ 2 ^ 29 = pow_mono {j = 29} h in let a = b.0 in (omega arith, below-small w cs h b.1)

pub below-in_range : (w : ℕ) (cs : List ℤ) → w ≤ 29 → Below w cs → in_range cs ≡ true
below-in_range w cs h b = in_range-small cs (below-small w cs h b)

below-limit : (b w : ℕ) → b ≤ block_limit → w ≤ 29 → 8 * b * (2 * w + 5) ≤ 8 * block_limit * (2 * 29 + 5)
below-limit b w hb hw = mul-le-mul {n₁ = 8 * b} {m₁ = 2 * w + 5} {n₂ = 8 * block_limit} {m₂ = 2 * 29 + 5} (omega arith) (omega arith)

zero-bytes : (k : ℕ) → ended (bits_of (replicate k 0)) ≡ true
unfolding bits_of field ended
zero-bytes zero = refl
zero-bytes (suc k) = zero-bytes k

module _ (b w : ℕ) (cs : List ℤ) (g : Given b w cs) where
  small : Small cs
  small = below-small w cs g.width g.below

  -- the bits are the sum of the codeword lengths and sign bits
  pub bits-sum : length (encode b cs) ≡ size (elements_of b cs)
  bits-sum = encode-length b cs (omega (arith, g.blocks, g.all)) small

  -- the bytes are bits / 8 rounded up, and at most 8 x blocks x (2w + 5)
  pub bytes_le : bytes_for (length (encode b cs)) ≤ 8 * b * (2 * w + 5)
  bytes_le =
      let s : size (elements_of b cs) ≤ (2 * w + 5) * length cs = size-le w b cs (omega (arith, g.width)) g.all (omega (arith, g.blocks)) g.below in
      let e : (2 * w + 5) * length cs ≡ 8 * (8 * b * (2 * w + 5)) = ap (λ (n : ℕ). (2 * w + 5) * n) g.all ∙ omega arith in
      omega (arith, bits-sum)

  -- and so a payload that decoding takes
  pub bytes_fit : bytes_for (length (encode b cs)) ≤ payload_limit
  bytes_fit = le_trans bytes_le (le_trans (below-limit b w g.blocks g.width) (omega arith))

  -- ---- room

  fine : Encodable b cs
  fine = record { few = g.blocks; full = g.all; small = below-in_range w cs g.width g.below }

  -- it is refused exactly if the buffer is shorter than those bytes, which are reported; the buffer is untouched
  pub room-none : (old : List ℕ) → length old < bytes_for (length (encode b cs)) → encode_of cs b old ≡ encoding (needs (bytes_for (length (encode b cs)))) old
  room-none old h = encode-fits old fine ∙ sym (writing-room old fine refl h)

  pub room-enough : (old : List ℕ) → bytes_for (length (encode b cs)) ≤ length old
      → encode_of cs b old ≡ encoding (wrote (size_of (encode b cs))) (stored old (encode b cs))
  room-enough old h = encode-fits old fine ∙ sym (writing-done old fine refl h refl refl)

  -- ---- every coefficient comes back

  -- the reading of the code's bytes, alone (k = 0) or followed by k zero bytes
  pub reading-back : (k : ℕ) → reading_of (pack (encode b cs) ++ replicate k 0) b ≡ decoding (read (length (encode b cs))) cs
  reading-back k =
      let code : List Bool = encode b cs in
      let payload : List ℕ = pack code ++ replicate k 0 in
      let pad : List Bool = zeros (8 * bytes_for (length code) - length code) in
      let rest : List Bool = pad ++ bits_of (replicate k 0) in
      let split : bits_of payload ≡ code ++ rest =
      bits-append (pack code) (replicate k 0) ∙ ap (λ (t : List Bool). t ++ bits_of (replicate k 0)) (bits-pack code) ∙ append_assoc code pad (bits_of (replicate k 0)) in
      let over : ended rest ≡ true = ended-append pad (bits_of (replicate k 0)) ∙ ap₂ (λ (x y : Bool). x && y) (ended-zeros (8 * bytes_for (length code) - length code)) (zero-bytes k) in
      let back : decode b (bits_of payload) ≡ accepted cs rest = ap (decode b) split ∙ decode-encode b cs rest g.all (omega (arith, g.blocks)) small over in
      let count : length (bits_of payload) - length rest ≡ length code = omega (arith, ap length split ∙ length-append code rest) in
      ap (λ (o : OutC). settled (pos 0) (bits_of payload) (64 * b) o) back ∙ ap (λ (n : ℕ). decoding (read n) cs) count

  -- those bytes, up to the limit, give the same coefficients and bit count
  pub bytes_back : (k : ℕ) (list : List ℤ) → length (pack (encode b cs) ++ replicate k 0) ≤ payload_limit → length list ≡ 64 * b
      → decode_of (pack (encode b cs) ++ replicate k 0) b list ≡ decoding (read (length (encode b cs))) cs
  bytes_back k list fits len = decode_of-fits (pack (encode b cs) ++ replicate k 0) b list g.blocks fits len ∙ reading-back k

  -- what encode leaves in a buffer with room, whatever the buffer held and however long it is, decode reads back from its first bytes
  pub encode-decode : (old : List ℕ) (list : List ℤ) → bytes_for (length (encode b cs)) ≤ length old → length list ≡ 64 * b
      → decode_of (take (bytes_for (length (encode b cs))) (encode_of cs b old).buffer) b list ≡ decoding (read (length (encode b cs))) cs
  encode-decode old list room len =
      let code : List Bool = encode b cs in
      let first : take (bytes_for (length code)) (encode_of cs b old).buffer ≡ pack code ++ replicate 0 0 =
      ap (λ (x : Encoding Size). take (bytes_for (length code)) x.buffer) (room-enough old room) ∙ stored-payload old code ∙ sym (append-nil (pack code)) in
      ap (λ (p : List ℕ). decode_of p b list) first
      ∙ bytes_back 0 list (omega (arith, length-append (pack code) (replicate 0 0), length-pack code, bytes_fit)) len

-- ---- a payload is refused with a number exactly where the reading of its bits is rejected with it, at the first element that cannot be read

pub reading-rejects : (b : ℕ) (payload : List ℕ) (k : ℕ) → (reading_of payload b).answer ≡ refuse k → Rejects k (decode b (bits_of payload))
reading-rejects b payload k e = settled-rejects (pos 0) (bits_of payload) (64 * b) k (decode b (bits_of payload)) (decode-ends b (bits_of payload)) e

module _ (b : ℕ) (payload : List ℕ) (list : List ℤ) (few : b ≤ block_limit) (short : length payload ≤ payload_limit) (full : length list ≡ 64 * b) where
  pub refused-when : (k : ℕ) → Rejects k (decode b (bits_of payload)) → decode_of payload b list ≡ decoding (refuse k) (nil (64 * b))
  refused-when k r = decode_of-fits payload b list few short full ∙ sym (rejects-settled (pos 0) (bits_of payload) (64 * b) k r)

  pub refused-only : (k : ℕ) → (decode_of payload b list).answer ≡ refuse k → Rejects k (decode b (bits_of payload))
  refused-only k e = reading-rejects b payload k (sym (ap (λ (d : Decoding ℤ). d.answer) (decode_of-fits payload b list few short full)) ∙ e)

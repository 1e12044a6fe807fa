-- Laws of `encode_bytes_of` and `decode_bytes_of` where their arguments are taken.
-- Assumes nothing.
use lib.IntN.{ℤ, pos}
use Prim.Native.Nat.{ℕ, ◌-◌, ◌*◌, ◌≤◌}
use native.Mathlib.Omega.{arith}
use mathlib.Core.Path.{◌≡◌, sym, ap, ◌∙◌}
use mathlib.Core.List.{List}
use lib.ListN.{length, replicate}
use lib.Seq.{length-take-le}
use Rattle.answers.specs.Machine.{accepted, rejected, going}
use Rattle.answers.specs.Answers.{read, refuse, Decoding, settled}
use Rattle.bitstream.specs.Bits.{bits_of}
use Rattle.bitstream.specs.Told.{payload_limit}
use Rattle.entropy_elements.specs.Answers.{reading_of, decode_of, encode_of}
use Rattle.entropy_elements.specs.Decoding.{nil, OutC, decode}
use Rattle.entropy_elements.specs.Limits.{block_limit}
use Rattle.entropy_elements.proofs.ArgumentLaws.{arguments-taken, taken_of, decode_of-fits, encode_of-fit}
use Rattle.cart_bytes.specs.Bytes.{ints_of, bytes_of}
use Rattle.cart_bytes.proofs.ByteLaws.{bytes-zeros, length-ints}
use Rattle.cart.specs.Coefficients.{in_bytes, decode_bytes_of, encode_bytes_of}

-- ---- encoding

module _ (cs : List ℕ) (b : ℕ) (old : List ℕ) where
  -- where the arguments are taken, the coder's own
  pub encode-ints : b ≤ block_limit → length cs ≡ 256 * b → encode_bytes_of cs b old ≡ encode_of (ints_of cs) b old
  unfolding encode_bytes_of
  encode-ints h e =
      let long : length (ints_of cs) ≡ 64 * b = length-ints cs (64 * b) (omega arith) in
      rw (arguments-taken 256 0 b (length cs) h (omega arith) e)
      (sym (encode_of-fit (ints_of cs) b old (arguments-taken 64 0 b (length (ints_of cs)) h (omega arith) long)))

-- ---- decoding

module _ (p : List ℕ) (b : ℕ) (old : List ℕ) where
  module _ (h : b ≤ block_limit) (l : length p ≤ payload_limit) (e : length old ≡ 256 * b) where
    pub decode-full : decode_bytes_of p b old ≡ in_bytes (reading_of p b)
    unfolding decode_bytes_of
    decode-full = rw (arguments-taken 256 (length p) b (length old) h l e)

    pub decode-ints : (list : List ℤ) → length list ≡ 64 * b → decode_bytes_of p b old ≡ in_bytes (decode_of p b list)
    decode-ints list long = decode-full ∙ ap in_bytes (sym (decode_of-fits p b list h l long))

    -- a refused payload leaves zeros
    pub decode-zeros : {k : ℕ} → (decode_bytes_of p b old).answer ≡ refuse k → (decode_bytes_of p b old).list ≡ replicate (256 * b) 0
    decode-zeros {k} a = by (decode b (bits_of p)) decode-full
      where
        zeros : bytes_of (nil (64 * b)) ≡ replicate (256 * b) 0
        zeros = let n : 4 * (64 * b) ≡ 256 * b = omega arith in bytes-zeros (64 * b) ∙ ap (λ (m : ℕ). replicate m 0) n

        by : (o : OutC) → decode_bytes_of p b old ≡ in_bytes (settled (pos 0) (bits_of p) (64 * b) o) → (decode_bytes_of p b old).list ≡ replicate (256 * b) 0
        by (accepted cs rest) d =
            let clash : read (length (bits_of p) - length rest) ≡ refuse k = sym (ap (λ (x : Decoding ℕ). x.answer) d) ∙ a in
            cc
        by (rejected n u) d = ap (λ (x : Decoding ℕ). x.list) d ∙ zeros
        by (going s o u) d = ap (λ (x : Decoding ℕ). x.list) d ∙ zeros

-- ---- what the functions need: of the list only the front is lent

pub ruleset encodes = (taken_of, length-take-le, encode-ints)

pub ruleset decodes = (taken_of, length-take-le, decode-ints)

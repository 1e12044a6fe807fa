-- Laws of `writing_of` and `encode_of`, case by case.
-- Assumes nothing.
use Prim.Native.Nat.{ℕ, ◌≤◌, ◌<◌}
use native.Mathlib.Omega.{arith}
use mathlib.Core.Path.{◌≡◌, sym, ◌∙◌}
use mathlib.Core.Bool.{true}
use mathlib.Core.List.{List}
use lib.IntN.{ℤ}
use lib.ListN.{length}
use Rattle.answers.specs.Answers.{encoding, wrote, needs}
use Rattle.bitstream.specs.Bytes.{bytes_for, stored}
use Rattle.bitstream.specs.Written.{written}
use Rattle.bitstream.proofs.WrittenLaws.{written-room, written-done}
use Rattle.entropy_elements.specs.Elements.{encode}
use Rattle.entropy_elements.specs.Limits.{in_range, Encodable}
use Rattle.entropy_elements.specs.Answers.{writing_of, encode_of}
use Rattle.entropy_elements.proofs.ArgumentLaws.{arguments-taken, encode_of-fit}

module _ (cs : List ℤ) (b : ℕ) (old : List ℕ) where
  pub writing-in : in_range cs ≡ true → writing_of cs b old ≡ written (encode b cs) old
  unfolding writing_of
  writing-in r = simp r

module _ {b n : ℕ} {cs : List ℤ} (old : List ℕ) (f : Encodable b cs) (counted : n ≡ length (encode b cs)) where
  pub writing-room : length old < bytes_for n → encoding (needs (bytes_for n)) old ≡ writing_of cs b old
  writing-room h = written-room (encode b cs) old counted h ∙ sym (writing-in cs b old f.small)

  pub writing-done : {r : ℕ} {buf : List ℕ} → bytes_for n ≤ length old → r ≡ length (encode b cs) → buf ≡ stored old (encode b cs)
      → encoding (wrote (record { bytes = bytes_for n; bits = r })) buf ≡ writing_of cs b old
  writing-done h e s = written-done (encode b cs) old counted h e s ∙ sym (writing-in cs b old f.small)

pub encode-fits : {b : ℕ} {cs : List ℤ} (old : List ℕ) → Encodable b cs → encode_of cs b old ≡ writing_of cs b old
encode-fits {b} {cs} old f = encode_of-fit cs b old (arguments-taken 64 0 b (length cs) f.few (omega arith) f.full)

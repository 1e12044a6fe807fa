-- Laws of `slice_writing_of` and `written_slice`: in range, and done.
-- Assumes nothing.
use Prim.Native.Nat.{ℕ, ◌*◌, ◌≤◌}
use mathlib.Core.Path.{◌≡◌, ap}
use mathlib.Core.Bool.{true}
use mathlib.Core.List.{List}
use native.Mathlib.Omega.{arith}
use lib.IntN.{ℤ}
use lib.ListN.{length}
use Rattle.answers.specs.Answers.{Size}
use Rattle.bitstream.specs.Bytes.{bytes_for}
use Rattle.entropy_elements.specs.Elements.{encode}
use Rattle.entropy_elements.specs.Limits.{block_bytes, in_range, Encodable}
use Rattle.entropy_writing.proofs.WritingLaws.{encode-le}
use Rattle.slice_shape.specs.Shapes.{is_interlaced, chroma_blocks}
use Rattle.slice_shape.specs.Encoding.{scans_of, codes_of, written_slice, slice_writing_of}

module _ (blocks : List ℤ) (m f s : ℕ) (old : List ℕ) where
  pub writing-in : {c : ℕ} → c ≡ chroma_blocks f → in_range blocks ≡ true
      → slice_writing_of blocks m f s old ≡ written_slice (codes_of m c (scans_of (is_interlaced s) m c blocks)) old
  unfolding slice_writing_of
  writing-in e r = simp (r, ← e)

pub bytes_of : {s t : Size} → s ≡ t → s.bytes ≡ t.bytes
bytes_of e = ap (λ (x : Size). x.bytes) e

-- a code's bytes at the most
pub bytes_le : {b : ℕ} {cs : List ℤ} → Encodable b cs → bytes_for (length (encode b cs)) ≤ block_bytes * b
bytes_le f = omega (arith, encode-le f)

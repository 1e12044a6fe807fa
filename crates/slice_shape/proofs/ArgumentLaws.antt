-- Laws of a slice's arguments: the cases of their test, what is left where they are taken, and what a call then comes to.
-- Assumes nothing.
use Prim.Native.Nat.{ℕ, ◌*◌, ◌≤◌}
use mathlib.Core.Path.{◌≡◌, refl}
use mathlib.Core.Bool.{true, ◌&&◌}
use mathlib.Core.List.{List}
use native.Mathlib.Omega.{arith}
use lib.IntN.{ℤ}
use lib.ListN.{length}
use borrow.Author.Tests.{le-leb}
use Rattle.answers.specs.Answers.{fit}
use Rattle.bitstream.specs.Told.{payload_limit}
use Rattle.slice_shape.specs.Shapes.{known_chroma, known_scan, chroma_blocks, in_limit, slice_length}
use Rattle.slice_shape.specs.Arguments.{payloads_fit, slice_arguments, TakenSlice}
use Rattle.slice_shape.specs.Encoding.{slice_writing_of, encode_slice_of}
use Rattle.slice_shape.specs.Decoding.{slice_reading_of, decode_slice_of}
use Rattle.slice_shape.proofs.ShapeLaws.{few-of}

pub limits-fit : (m : ℕ) {y cb cr : ℕ} → in_limit m ≡ true → y ≤ payload_limit → cb ≤ payload_limit → cr ≤ payload_limit → in_limit m && payloads_fit y cb cr ≡ true
limits-fit m {y} {cb} {cr} h hy hb hr = simp (h, le-leb y payload_limit hy, le-leb cb payload_limit hb, le-leb cr payload_limit hr)

module _ (each y cb cr m f s n : ℕ) where
  pub arguments-taken : known_chroma f && known_scan s ≡ true → in_limit m && payloads_fit y cb cr ≡ true → {c : ℕ} → c ≡ chroma_blocks f → n ≡ each * slice_length m c
      → slice_arguments each y cb cr m f s n ≡ fit
  unfolding slice_arguments
  arguments-taken known limits chroma full = grind arith

  -- what is left where they are taken
  pub taken_of : slice_arguments each y cb cr m f s n ≡ fit → TakenSlice each y cb cr m (chroma_blocks f) n
  unfolding slice_arguments
  taken_of is = record {
    few = few-of f (grind arith) refl;
    fits-y = grind arith;
    fits-cb = grind arith;
    fits-cr = grind arith;
    full = grind arith;
  }

  -- the same arguments, where another number of values stands for a coefficient
  pub arguments-as : (each' n' : ℕ) → n' ≡ each' * slice_length m (chroma_blocks f) → slice_arguments each y cb cr m f s n ≡ fit → slice_arguments each' y cb cr m f s n' ≡ fit
  unfolding slice_arguments
  arguments-as each' n' h is = grind arith

-- ---- encoding and decoding, by what their arguments are answered

module _ (blocks : List ℤ) (m f s : ℕ) (old : List ℕ) where
  pub encode_slice_of-fit : slice_arguments 1 0 0 0 m f s (length blocks) ≡ fit → encode_slice_of blocks m f s old ≡ slice_writing_of blocks m f s old
  unfolding encode_slice_of
  encode_slice_of-fit e = rw e

module _ (y cb cr : List ℕ) (m f s : ℕ) (old : List ℤ) where
  pub decode_slice_of-fit : slice_arguments 1 (length y) (length cb) (length cr) m f s (length old) ≡ fit → decode_slice_of y cb cr m f s old ≡ slice_reading_of y cb cr m f s
  unfolding decode_slice_of
  decode_slice_of-fit e = rw e

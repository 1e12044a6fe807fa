-- Coefficients in range are below 2^29. So with w = 29 the theorems of Demand and SliceDemand are about every list that encode does not refuse with 13, 1,
-- 2 or 4.
-- Assumes nothing.
use Prim.Native.Nat.{ℕ, ◌*◌, ◌≤◌}
use native.Mathlib.Omega.{arith}
use mathlib.Core.Path.{◌≡◌}
use mathlib.Core.Bool.{true, ◌&&◌}
use mathlib.Core.List.{List}
use lib.ListN.{length}
use Rattle.entropy_elements.specs.Limits.{block_limit, in_range}
use Rattle.entropy_elements.proofs.RangeLaws.{small-below}
use Rattle.entropy.proofs.Demand as E
use Rattle.slice_shape.specs.Shapes.{known_chroma, known_scan, chroma_blocks, in_limit, slice_length}
use Rattle.slice.proofs.Demand as S
use Rattle.cart_bytes.specs.Bytes.{ints_of}
use Rattle.cart_bytes.proofs.ByteLaws.{length-ints}

module _ (bytes : List ℕ) (small : in_range (ints_of bytes) ≡ true) where
  -- coefficients in range, of a number of blocks and of bytes that is taken
  pub given-coefficients : {b : ℕ} → b ≤ block_limit → length bytes ≡ 256 * b → E.Given b 29 (ints_of bytes)
  given-coefficients {b} few full = record { blocks = few; all = length-ints bytes (64 * b) (omega arith); width = omega arith; below = (small-below (ints_of bytes) small).1 }

  -- blocks of coefficients in range, of a slice whose arguments are taken
  pub given-slice : {m f s : ℕ} → known_chroma f && known_scan s ≡ true → in_limit m ≡ true → length bytes ≡ 4 * slice_length m (chroma_blocks f)
      → S.Given m f s 29 (ints_of bytes)
  given-slice {m} {f} known limit full =
      record { known = known; limit = limit; all = length-ints bytes (slice_length m (chroma_blocks f)) full; width = omega arith; below = (small-below (ints_of bytes) small).1 }

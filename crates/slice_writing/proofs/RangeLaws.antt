-- The scanned lists of blocks in range are in range, so that each is fit to be encoded.
-- Assumes nothing.
use Prim.Native.Nat.{ℕ, zero, suc, ◌*◌, ◌≤◌}
use mathlib.Core.Path.{◌≡◌}
use mathlib.Core.Bool.{Bool, true}
use mathlib.Core.List.{List}
use native.Mathlib.Nat.{mul-le-mul}
use native.Mathlib.Omega.{arith}
use lib.IntN.{ℤ, nat_abs}
use Rattle.entropy_elements.specs.Limits.{most, in_range, Encodable}
use Rattle.entropy_elements.proofs.RoundTrip.{Small}
use Rattle.entropy_elements.proofs.RangeLaws.{nat_abs-in_range, in_range-small}
use Rattle.slice_scan.specs.Scan.{tab, scanned_of}
use Rattle.slice_scan.proofs.ScanLaws.{length-scanned}
use Rattle.slice_shape.specs.Shapes.{blocks_per, component_limit, InSliceLimits}

tab-small : (n : ℕ) (f : ℕ → ℤ) → ((k : ℕ) → nat_abs (f k) ≤ most) → Small (tab n f)
tab-small zero f h = tt
tab-small (suc n) f h = (h 0, tab-small n (λ k. f (suc k)) (λ k. h (suc k)))

in_range-scanned : (i : Bool) (m per off c : ℕ) (blocks : List ℤ) → in_range blocks ≡ true → in_range (scanned_of i m per off c blocks) ≡ true
unfolding scanned_of
in_range-scanned i m per off c blocks small = in_range-small _ (tab-small (64 * (m * c)) _ (λ k. nat_abs-in_range blocks _ small))

-- a component of b blocks a macroblock, from off on
module _ {m c : ℕ} (blocks : List ℤ) (few : InSliceLimits m c) (small : in_range blocks ≡ true) (i : Bool) (off b : ℕ) where
  pub scanned_fine : {l : List ℤ} → b ≤ 4 → l ≡ scanned_of i m (blocks_per c) off b blocks → Encodable (m * b) l
  scanned_fine h e =
      let part : m * b ≤ component_limit = mul-le-mul few.few-m h in
      rw e (record {
        few = omega arith;
        full = length-scanned i m (blocks_per c) off b blocks;
        small = in_range-scanned i m (blocks_per c) off b blocks small;
      })

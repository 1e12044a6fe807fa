-- Laws of the shape of a slice: what the tests of its arguments leave, and how much that is at the most.
-- Assumes nothing.
use Prim.Native.Nat.{ℕ, ◌*◌, ◌≤◌}
use mathlib.Core.Path.{◌≡◌}
use mathlib.Core.Bool.{true}
use native.Mathlib.Nat.{mul-le-mul}
use native.Mathlib.Omega.{arith}
use Rattle.slice_shape.specs.Shapes.{chroma_blocks, blocks_per, in_limit, slice_length, component_limit, component_list, slice_list, InSliceLimits}

pub few-of : {m c : ℕ} (f : ℕ) → in_limit m ≡ true → c ≡ chroma_blocks f → InSliceLimits m c
unfolding chroma_blocks
few-of f h e = record { some-m = grind arith; few-m = grind arith; some-c = grind arith; few-c = grind arith }

-- the blocks of a component, its coefficients, and those of the slice
pub few-part : {m c : ℕ} → InSliceLimits m c → m * c ≤ component_limit
few-part h = mul-le-mul h.few-m h.few-c

pub few-long : {m c : ℕ} → InSliceLimits m c → 64 * (m * c) ≤ component_list
few-long h = omega (arith, few-part h)

pub few-slice : {m c : ℕ} → InSliceLimits m c → slice_length m c ≤ slice_list
few-slice {m} {c} h = let per : blocks_per c ≤ 12 = omega (arith, h.few-c) in omega (arith, mul-le-mul h.few-m per)

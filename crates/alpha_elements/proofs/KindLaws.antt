-- Laws of the kinds: which code number is which, and what widths, limits and masks have to do with each other.
-- Assumes nothing.
use Prim.Native.Nat.{◌+◌, ◌*◌, ◌^◌, ◌≤◌, ◌<◌}
use native.Mathlib.Omega.{arith}
use mathlib.Core.Path.{◌≡◌, refl}
use Rattle.alpha_elements.specs.declared.AlphaChannelType.{AlphaChannelType}
use Rattle.alpha_elements.specs.declared.AlphaChannelType.TheVariants.{Eight, Sixteen}
use Rattle.alpha_elements.specs.Kinds.{width_of, small_width_of, limit_of, mask_of, most_bits_of, code_of, selects, kind_of}

-- ---- code numbers

pub kind-code : (k : AlphaChannelType) → kind_of (code_of k) ≡ selects k
unfolding kind_of
kind-code Eight = refl
kind-code Sixteen = refl

-- ---- widths, limits and masks

pub pow-width : (k : AlphaChannelType) → 2 ^ width_of k ≡ mask_of k + 1
pow-width Eight = refl
pow-width Sixteen = refl

pub pow_small : (k : AlphaChannelType) → 2 ^ small_width_of k ≡ limit_of k
pow_small Eight = refl
pow_small Sixteen = refl

-- with a sign behind it
pub pow-small-sign : (k : AlphaChannelType) → 2 ^ (small_width_of k + 1) ≡ 2 * limit_of k
pow-small-sign Eight = refl
pow-small-sign Sixteen = refl

pub most-bits : (k : AlphaChannelType) → most_bits_of k ≡ width_of k + 2
most-bits Eight = refl
most-bits Sixteen = refl

pub record Sizes (k : AlphaChannelType) : Type 0 where
  pub width : width_of k ≤ 16
  pub small : small_width_of k ≤ 6
  pub narrow : small_width_of k + 1 ≤ width_of k
  pub limit : limit_of k < mask_of k
  pub mask : mask_of k ≤ 65535
  pub most : most_bits_of k ≤ most_bits_of Sixteen

pub sizes : (k : AlphaChannelType) → Sizes k
sizes Eight = omega arith
sizes Sixteen = omega arith

-- Laws on whole numbers: a sum that leads back, and the magnitude of a sum, which `omega` reads as an unknown elsewhere.
-- Assumes nothing.
use mathlib.Core.Path.{◌≡◌}
use Prim.Native.Nat.{◌+◌, ◌^◌, ◌≤◌, ◌<◌}
use native.Mathlib.Omega.{arith}
use lib.IntN.{ℤ, ◌+ℤ◌, ◌-ℤ◌, nat_abs}
use mir.Syntax.{Width}
use mir.Val.{SFits, hbits}
use Rattle.std.proofs.lemmas.Int.{ints, fits_signed_from_abs}

pub sfits-nat_abs : {w : Width} (z : ℤ) → nat_abs z < 2 ^ hbits w → SFits w z
sfits-nat_abs {w} z h = fits_signed_from_abs w z h

pub add_back : (a c : ℤ) → a +ℤ (c -ℤ a) ≡ c
add_back a c = omega (arith, ints)

pub nat_abs-sub : (x y : ℤ) → nat_abs (x -ℤ y) ≤ nat_abs x + nat_abs y
nat_abs-sub x y = grind (arith, ints)

-- The laws of signs: S and its inverse, the negation of a DC difference.
-- Assumes nothing.
use mathlib.Core.Path.{◌≡◌}
use mathlib.Core.Bool.{Bool}
use Prim.Native.Nat.{ℕ, ◌*◌, ◌≤◌}
use native.Mathlib.Omega.{arith}
use lib.IntN.{ℤ, nat_abs}
use Rattle.std.proofs.lemmas.Bool.Decides.{nat_tests}
use Rattle.std.proofs.lemmas.Int.{ints}
use Rattle.codeword_signs.specs.Signs.{symbol_of, integer_of, turned}

-- ---- S and its inverse
pub symbol-le : (z : ℤ) → symbol_of z ≤ 2 * nat_abs z
unfolding symbol_of
symbol-le z = grind (arith, ints)

pub integer-symbol : (z : ℤ) → integer_of (symbol_of z) ≡ z
unfolding symbol_of integer_of
integer-symbol z = grind (arith, nat_tests, ints)

pub symbol-integer : (s : ℕ) → symbol_of (integer_of s) ≡ s
unfolding symbol_of integer_of
symbol-integer s = grind (arith, nat_tests, ints)

-- ---- a difference, turned
pub turned-turned : (b : Bool) (z : ℤ) → turned b (turned b z) ≡ z
unfolding turned
turned-turned b z = grind (arith, ints)

pub nat_abs-turned : (b : Bool) (z : ℤ) → nat_abs (turned b z) ≡ nat_abs z
unfolding turned
nat_abs-turned b z = grind (arith, ints)

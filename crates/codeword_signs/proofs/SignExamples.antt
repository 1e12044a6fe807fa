-- S, its inverse and the negation of a difference, by computation: at zero, at the sign flip, at both ends of a coefficient and of an i32.
-- Assumes nothing.
use mathlib.Core.Path.{◌≡◌, refl}
use mathlib.Core.Bool.{true, false}
use Prim.Native.Nat.{ℕ}
use lib.IntN.{ℤ, pos, negsuc}
use Rattle.codeword_signs.specs.Signs.{symbol_of, integer_of, turned}

-- a number and its symbol, both ways
record Maps (z : ℤ) (s : ℕ) : Type 0 where
  there : symbol_of z ≡ s
  back : integer_of s ≡ z

zero : Maps (pos 0) 0
unfolding symbol_of integer_of
zero = record { there = refl; back = refl }

minus_one : Maps (negsuc 0) 1
unfolding symbol_of integer_of
minus_one = record { there = refl; back = refl }

one : Maps (pos 1) 2
unfolding symbol_of integer_of
one = record { there = refl; back = refl }

top : Maps (pos 536870911) 1073741822
unfolding symbol_of integer_of
top = record { there = refl; back = refl }

bottom : Maps (negsuc 536870910) 1073741821
unfolding symbol_of integer_of
bottom = record { there = refl; back = refl }

i32-top : Maps (pos 2147483647) 4294967294
unfolding symbol_of integer_of
i32-top = record { there = refl; back = refl }

i32-bottom : Maps (negsuc 2147483647) 4294967295
unfolding symbol_of integer_of
i32-bottom = record { there = refl; back = refl }

-- a difference keeps its sign after one that is not negative, and loses it after a negative one
record Turns (z minus : ℤ) : Type 0 where
  kept : turned false z ≡ z
  lost : turned true z ≡ minus

turned_zero : Turns (pos 0) (pos 0)
unfolding turned
turned_zero = record { kept = refl; lost = refl }

turned-one : Turns (pos 1) (negsuc 0)
unfolding turned
turned-one = record { kept = refl; lost = refl }

turned-minus-one : Turns (negsuc 0) (pos 1)
unfolding turned
turned-minus-one = record { kept = refl; lost = refl }

turned-top : Turns (pos 536870911) (negsuc 536870910)
unfolding turned
turned-top = record { kept = refl; lost = refl }

turned-bottom : Turns (negsuc 536870910) (pos 536870911)
unfolding turned
turned-bottom = record { kept = refl; lost = refl }

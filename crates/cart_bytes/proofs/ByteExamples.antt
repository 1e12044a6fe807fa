-- Numbers and their bytes, by computation: around zero, at the ends of a coefficient's range and of an i32's.
-- Assumes nothing.
use mathlib.Core.Path.{◌≡◌, refl}
use mathlib.Core.List.{List, [], ◌∷◌}
use Prim.Native.Nat.{ℕ}
use lib.IntN.{ℤ, pos, negsuc}
use Rattle.cart_bytes.specs.Bytes.{int_of, word_of, ints_of, bytes_of}

-- numbers and their bytes, both ways
record Are (xs : List ℤ) (bs : List ℕ) : Type 0 where
  there : bytes_of xs ≡ bs
  back : ints_of bs ≡ xs

around-zero : Are (pos 0 ∷ pos 1 ∷ negsuc 0 ∷ []) (0 ∷ 0 ∷ 0 ∷ 0 ∷ 1 ∷ 0 ∷ 0 ∷ 0 ∷ 255 ∷ 255 ∷ 255 ∷ 255 ∷ [])
unfolding ints_of bytes_of int_of word_of
around-zero = record { there = refl; back = refl }

order : Are (pos 67305985 ∷ []) (1 ∷ 2 ∷ 3 ∷ 4 ∷ [])
unfolding ints_of bytes_of int_of word_of
order = record { there = refl; back = refl }

coefficient-ends : Are (pos 536870911 ∷ negsuc 536870910 ∷ []) (255 ∷ 255 ∷ 255 ∷ 31 ∷ 1 ∷ 0 ∷ 0 ∷ 224 ∷ [])
unfolding ints_of bytes_of int_of word_of
coefficient-ends = record { there = refl; back = refl }

i32-ends : Are (pos 2147483647 ∷ negsuc 2147483647 ∷ []) (255 ∷ 255 ∷ 255 ∷ 127 ∷ 0 ∷ 0 ∷ 0 ∷ 128 ∷ [])
unfolding ints_of bytes_of int_of word_of
i32-ends = record { there = refl; back = refl }

-- a rest of fewer than four bytes gives nothing
rest-lost : ints_of (7 ∷ 0 ∷ 0 ∷ 0 ∷ 1 ∷ 2 ∷ 3 ∷ []) ≡ pos 7 ∷ []
unfolding ints_of int_of
rest-lost = refl

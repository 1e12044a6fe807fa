-- Laws on flags: a search that looks at all of a list and remembers in w whether it has found one.
-- Assumes nothing.
use mathlib.Core.Path.{◌≡◌}
use mathlib.Core.Bool.{Bool, true, not, ◌&&◌, ◌||◌}
use Prim.Native.Nat.{ℕ}
use native.Mathlib.Omega.{arith}
use lib.Dec.{leb, ltb}
use Rattle.std.proofs.lemmas.Bool.Decides.{nat_tests}

-- a number m that is at most n, or not
pub found-more : (w : Bool) (m n : ℕ) (b : Bool) → (w || not (leb m n && b)) ≡ ((w || ltb n m) || not b)
found-more w m n b = grind (arith, nat_tests)

-- nothing is left
pub found_all : (w : Bool) → (w || not true) ≡ w
found_all w = grind arith

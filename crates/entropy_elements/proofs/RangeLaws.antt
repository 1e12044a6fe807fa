-- The laws of a coefficient's range, an element at a time.
-- Assumes nothing.
use mathlib.Core.Path.{◌≡◌, refl}
use mathlib.Core.Bool.{true, not}
use mathlib.Core.List.{List, [], ◌∷◌}
use Prim.Native.Nat.{ℕ, zero, suc, ◌≤◌}
use native.Mathlib.Omega.{arith}
use lib.Dec.{ltb}
use lib.IntN.{ℤ, pos, nat_abs}
use lib.ListN.{get_or}
use Rattle.std.specs.List.{list_any}
use Rattle.std.proofs.lemmas.Bool.Decides.{nat_tests}
use Rattle.entropy_elements.specs.Limits.{most, in_range}
use Rattle.entropy_elements.proofs.RoundTrip.{Small}
use Rattle.entropy_elements.proofs.SizeLaws.{Below}

-- ---- whether any is out of range
pub not_in_range : (cs : List ℤ) → list_any (λ c. ltb most (nat_abs c)) cs ≡ not (in_range cs)
unfolding in_range
not_in_range [] = refl
not_in_range (c ∷ cs) = grind (arith, nat_tests, not_in_range cs)

-- ---- what it says of each coefficient
pub nat_abs-in_range : (cs : List ℤ) (i : ℕ) → in_range cs ≡ true → nat_abs (get_or cs i (pos 0)) ≤ most
unfolding in_range
nat_abs-in_range [] i e = omega arith
nat_abs-in_range (c ∷ cs) zero e = grind (arith, nat_tests)
nat_abs-in_range (c ∷ cs) (suc i) e = nat_abs-in_range cs i (grind (arith, nat_tests))

-- and of all at once: each is below 2^29
pub small-below : (cs : List ℤ) → in_range cs ≡ true → Small cs × Below 29 cs
unfolding in_range
small-below [] e = (tt, tt)
small-below (c ∷ cs) e =
    let r = small-below cs (grind (arith, nat_tests)) in
    let h : nat_abs c ≤ most = grind (arith, nat_tests) in
    ((h, r.0), (omega arith, r.1))

-- and what each says of all
pub in_range-small : (cs : List ℤ) → Small cs → in_range cs ≡ true
unfolding in_range
in_range-small [] s = refl
in_range-small (c ∷ cs) s = grind (arith, nat_tests, s.0, in_range-small cs s.1)

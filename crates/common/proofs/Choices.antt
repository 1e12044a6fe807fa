-- Laws on choices: a `cond` whose test is known.
-- Assumes nothing.
use mathlib.Core.Path.{◌≡◌}
use mathlib.Core.Bool.{Bool, true, false, cond}

pub cond_yes {ℓ} : {A : Type ℓ} {b : Bool} (x y : A) → b ≡ true → cond b x y ≡ x
cond_yes x y e = rw e

pub cond_no {ℓ} : {A : Type ℓ} {b : Bool} (x y : A) → b ≡ false → cond b x y ≡ y
cond_no x y e = rw e

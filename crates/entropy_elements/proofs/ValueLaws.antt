-- The laws of DCs and levels: in range or out, and what their symbols give back.
-- Assumes nothing.
use mathlib.Core.Path.{◌≡◌, ap, ◌∙◌}
use mathlib.Core.Bool.{Bool, false}
use Prim.Native.Nat.{ℕ, ◌-◌, ◌≤◌, ◌<◌}
use native.Mathlib.Omega.{arith}
use lib.IntN.{ℤ, pos, negsuc, nat_abs, ◌-ℤ◌}
use borrow.Author.Tests.{le-leb, lt-ltb}
use Rattle.common.proofs.Integers.{add_back}
use Rattle.codeword_signs.specs.Signs.{is_negative, symbol_of, turned, signed}
use Rattle.codeword_signs.proofs.SignLaws.{integer-symbol, turned-turned}
use Rattle.entropy_elements.specs.Limits.{most}
use Rattle.std.specs.Prelude.{Some}
use Rattle.entropy_elements.specs.Values.{some_dc, dc_of, first_dc, next_dc, level_of}

-- ---- a DC
pub dc-is : (z : ℤ) (neg : Bool) (m : ℕ) → nat_abs z ≤ most → dc_of z neg m ≡ some_dc z neg m
unfolding dc_of
dc-is z neg m h = simp (le-leb (nat_abs z) most h)

-- the encoder's symbols, read
pub first-symbol : (z : ℤ) → nat_abs z ≤ most → first_dc (symbol_of z) ≡ some_dc z false 3
unfolding first_dc
first-symbol z h = rw (integer-symbol z) (dc-is z false 3 h)

pub next-symbol : (dc : ℤ) (neg : Bool) (z : ℤ) → nat_abs z ≤ most
    → next_dc dc neg (symbol_of (turned neg (z -ℤ dc))) ≡ some_dc z (is_negative (z -ℤ dc)) (nat_abs (z -ℤ dc))
unfolding next_dc
next-symbol dc neg z h =
    rw (integer-symbol (turned neg (z -ℤ dc)), turned-turned neg (z -ℤ dc), add_back dc z) (dc-is z (is_negative (z -ℤ dc)) (nat_abs (z -ℤ dc)) h)

-- ---- a level
pub level-is : (neg : Bool) (s : ℕ) → s < most → level_of neg s ≡ Some (signed neg s)
unfolding level_of
level-is neg s h = simp (lt-ltb s most h)

pub signed-nat_abs : (z : ℤ) → 0 < nat_abs z → signed (is_negative z) (nat_abs z - 1) ≡ z
signed-nat_abs (pos n) h = ap pos (omega arith)
signed-nat_abs (negsuc n) h = ap negsuc (omega arith)

pub level-back : (z : ℤ) → 0 < nat_abs z → nat_abs z ≤ most → level_of (is_negative z) (nat_abs z - 1) ≡ Some z
level-back z h k = level-is (is_negative z) (nat_abs z - 1) (omega arith) ∙ ap Some (signed-nat_abs z h)

-- DCs and levels from their symbols: document 01, "Choice of codebook" and refusal 8. Over whole numbers.
use Rattle.std.specs.Prelude.{ℕ, Bool, false, cond, leb, ltb, ℤ, nat_abs, ◌+ℤ◌, Option, Some, None}
use Rattle.codeword_signs.specs.Signs.{is_negative, integer_of, turned, signed}
use Rattle.entropy_elements.specs.Limits.{most}
use Rattle.entropy_elements.specs.declared.values.Dc.{Dc}

-- a DC with its difference's sign and magnitude
abbrev pub some_dc : ℤ → Bool → ℕ → Option Dc
some_dc dc neg m = Some (record { dc = dc; negative = neg; magnitude = m })

-- where the DC is in range
unfoldable pub dc_of : ℤ → Bool → ℕ → Option Dc
dc_of dc neg m = cond (leb (nat_abs dc) most) (some_dc dc neg m) None

-- the first DC counts as a difference of 3
unfoldable pub first_dc : ℕ → Option Dc
first_dc s = dc_of (integer_of s) false 3

-- the DC after dc, by its difference's symbol
unfoldable pub next_dc : ℤ → Bool → ℕ → Option Dc
next_dc dc neg s =
    let d = turned neg (integer_of s) in
    dc_of (dc +ℤ d) (is_negative d) (nat_abs d)

-- a level of magnitude s + 1 in range
unfoldable pub level_of : Bool → ℕ → Option ℤ
level_of neg s = cond (ltb s most) (Some (signed neg s)) None

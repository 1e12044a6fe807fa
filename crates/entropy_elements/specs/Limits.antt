-- The limits of the coefficient coder: document 01, "What the cart keeps".
use Rattle.std.specs.Prelude.{ℕ, ◌*◌, ◌≤◌, ◌≡◌, Bool, true, ◌&&◌, List, [], ◌∷◌, leb, ℤ, nat_abs, length}

-- blocks per call
abbrev pub block_limit : ℕ
block_limit = 32

-- coefficients per call
abbrev pub list_limit : ℕ
list_limit = 64 * block_limit

-- the most bytes of a block's code: 8 x (2 x 29 + 5); and the most bits of a call's
abbrev pub block_bytes : ℕ
block_bytes = 504

abbrev pub code_limit : ℕ
code_limit = 8 * (block_bytes * block_limit)

-- the largest magnitude of a coefficient
abbrev pub most : ℕ
most = 536870911

-- every coefficient is in range
unfoldable pub in_range : List ℤ → Bool
in_range [] = true
in_range (c ∷ cs) = leb (nat_abs c) most && in_range cs

-- arguments of an encoding that are not refused
pub record Encodable (blocks : ℕ) (cs : List ℤ) : Type 0 where
  pub few : blocks ≤ block_limit
  pub full : length cs ≡ 64 * blocks
  pub small : in_range cs ≡ true

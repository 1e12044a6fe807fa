-- What was read of the bits B, however it was read, and the bit behind it.
use Rattle.std.specs.Prelude.{ℕ, ◌≤◌, ◌≡◌, Bool, List, ◌∷◌, length, drop}
use Rattle.answers.specs.Reading.{got, Reader}

-- at bit p, the reader m gives v, and bit q is the next
pub record Gives (m : Reader) (B : List Bool) (p v q : ℕ) : Type 0 where
  pub is : m (drop p B) ≡ got v (drop q B)
  pub within : q ≤ length B

-- the bit at p, and bit q is the next
pub record HasBit (B : List Bool) (p : ℕ) (b : Bool) (q : ℕ) : Type 0 where
  pub is : drop p B ≡ b ∷ drop q B
  pub within : q ≤ length B

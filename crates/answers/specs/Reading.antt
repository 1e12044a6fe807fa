-- What a reader is: it takes the bits that are unread, and gives a value and the bits that are then unread, or the number of a refusal.
use Rattle.std.specs.Prelude.{ℕ, Bool, List}

pub data Parsed : Type 0 where
  got : ℕ → List Bool → Parsed
  refused : ℕ → Parsed

abbrev pub Reader : Type 0
Reader = List Bool → Parsed

-- what is read next may depend on the value
abbrev pub after : Parsed → (ℕ → Reader) → Parsed
after (got v rest) f = f v rest
after (refused k) f = refused k

infixl 20 ◌then◌
abbrev pub ◌then◌ : Reader → (ℕ → Reader) → Reader
◌then◌ m f bs = after (m bs) f

-- What bits are: document 01, "Bits". The high bit of a byte or of a field stands in front; data is at its end once only zeros are
-- unread. A bit is a Bool, true for 1.
use Rattle.std.specs.Prelude.{ℕ, zero, suc, ◌+◌, ◌*◌, ◌/◌, ◌%◌, ◌^◌, Bool, true, false, List, [], ◌∷◌, ◌++◌, eqb, length, replicate}

-- a number's lowest binary digit, as a bit
abbrev pub odd : ℕ → Bool
odd v = eqb (v % 2) 1

-- a bit as a digit
abbrev pub val : Bool → ℕ
val true = 1
val false = 0

-- the n low bits of v
unfoldable pub field : ℕ → ℕ → List Bool
field zero v = []
field (suc n) v = odd (v / 2 ^ n) ∷ field n v

-- the number that bits spell
unfoldable pub number : List Bool → ℕ
number [] = 0
number (b ∷ bs) = val b * 2 ^ length bs + number bs

-- the bits of bytes
unfoldable pub bits_of : List ℕ → List Bool
bits_of [] = []
bits_of (b ∷ bs) = field 8 b ++ bits_of bs

abbrev pub zeros : ℕ → List Bool
zeros n = replicate n false

-- data has ended: no 1 is among the bits that are unread
unfoldable pub ended : List Bool → Bool
ended [] = true
ended (true ∷ bs) = false
ended (false ∷ bs) = ended bs

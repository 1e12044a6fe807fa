-- Coefficients as bytes: document 01, "Port order and change of shape". Four bytes each, the lowest first, 32-bit two's complement.
use Rattle.std.specs.Prelude.{ℕ, ◌+◌, ◌-◌, ◌*◌, ◌/◌, ◌%◌, cond, List, [], ◌∷◌, ℤ, pos, negsuc, ltb}

-- the number of a 32-bit pattern, and the pattern of a number
unfoldable pub int_of : ℕ → ℤ
int_of w = cond (ltb w 2147483648) (pos w) (negsuc (4294967295 - w))

unfoldable pub word_of : ℤ → ℕ
word_of (pos n) = n
word_of (negsuc n) = 4294967295 - n

-- the pattern of four bytes, and the four bytes of a pattern in front of others
abbrev pub joined : ℕ → ℕ → ℕ → ℕ → ℕ
joined a b c d = a + 256 * b + 65536 * c + 16777216 * d

abbrev pub word_then : ℕ → List ℕ → List ℕ
word_then w bs = w % 256 ∷ w / 256 % 256 ∷ w / 65536 % 256 ∷ w / 16777216 % 256 ∷ bs

-- the numbers of a list of bytes; a rest of fewer than four bytes gives nothing
unfoldable pub ints_of : List ℕ → List ℤ
ints_of [] = []
ints_of (a ∷ []) = []
ints_of (a ∷ b ∷ []) = []
ints_of (a ∷ b ∷ c ∷ []) = []
ints_of (a ∷ b ∷ c ∷ d ∷ bs) = int_of (joined a b c d) ∷ ints_of bs

-- the bytes of a list of numbers
unfoldable pub bytes_of : List ℤ → List ℕ
bytes_of [] = []
bytes_of (x ∷ xs) = word_then (word_of x) (bytes_of xs)

-- Signs: document 01, "Choice of codebook", S(n) and the negation of a DC difference; RDD 36, Table 8. Over whole numbers.
use Rattle.std.specs.Prelude.{ℕ, suc, ◌-◌, ◌*◌, ◌/◌, ◌%◌, Bool, true, false, cond, ℤ, pos, negsuc, neg_ℤ, eqb}

abbrev pub is_negative : ℤ → Bool
is_negative (pos n) = false
is_negative (negsuc n) = true

-- S(n): 2n for n >= 0 and 2|n| - 1 below zero
unfoldable pub symbol_of : ℤ → ℕ
symbol_of (pos n) = 2 * n
symbol_of (negsuc n) = 2 * suc n - 1

-- the number whose symbol is s
unfoldable pub integer_of : ℕ → ℤ
integer_of s = cond (eqb (s % 2) 0) (pos (s / 2)) (negsuc (s / 2))

-- d, negated where the last difference was negative
unfoldable pub turned : Bool → ℤ → ℤ
turned true d = neg_ℤ d
turned false d = d

-- the number of magnitude s + 1 with its sign
abbrev pub signed : Bool → ℕ → ℤ
signed true s = negsuc s
signed false s = pos (suc s)

-- Laws of coefficients as bytes: a pattern and its number, a pattern and its four bytes, lists of them; both ways back.
-- Assumes nothing.
use mathlib.Core.Path.{◌≡◌, refl, ap, ap₂, ◌∙◌}
use mathlib.Core.List.{List, [], ◌∷◌, ◌++◌}
use Prim.Native.Nat.{ℕ, zero, suc, ◌+◌, ◌-◌, ◌*◌, ◌/◌, ◌%◌, ◌<◌}
use native.Mathlib.Omega.{arith}
use lib.IntN.{ℤ, pos}
use lib.ListN.{length, get_or, take, replicate}
use mir.Syntax.{w32}
use mir.Val.{SFits}
use Rattle.std.specs.Int.{cast_signed, cast_unsigned, from_le_bytes, to_le_bytes}
use Rattle.std.specs.Simd.{first_chunks}
use Rattle.std.proofs.lemmas.Bool.Decides.{nat_tests}
use Rattle.std.proofs.lemmas.Grind.{common_steps}
use Rattle.std.proofs.lemmas.Int.{to_z-of_z}
use Rattle.std.proofs.lemmas.Nat.{from_le_bytes-to_le_bytes_4, le_bytes_4}
use Rattle.cart_bytes.specs.Bytes.{int_of, word_of, joined, word_then, ints_of, bytes_of}

-- ---- a pattern and its number, which the code casts

int_cast : (w : ℕ) → int_of w ≡ cast_signed w32 w
unfolding int_of
int_cast w = grind (arith, nat_tests)

word_cast : (z : ℤ) → SFits w32 z → word_of z ≡ cast_unsigned w32 z
unfolding word_of
word_cast z h = grind arith

pub word_lt : (z : ℤ) → SFits w32 z → word_of z < 4294967296
unfolding word_of
word_lt z h = grind arith

pub int_word : (z : ℤ) → SFits w32 z → int_of (word_of z) ≡ z
unfolding word_of int_of
int_word z h = grind (arith, nat_tests)

pub word-int : (w : ℕ) → w < 4294967296 → word_of (int_of w) ≡ w
unfolding word_of int_of
word-int w h = grind (arith, nat_tests)

-- ---- a pattern and its four bytes

pub word_bytes : (w : ℕ) → w < 4294967296 → joined (w % 256) (w / 256 % 256) (w / 65536 % 256) (w / 16777216 % 256) ≡ w
word_bytes w h = omega (arith, from_le_bytes-to_le_bytes_4 w h)

pub bytes_word : (a b c d : ℕ) (bs : List ℕ) → a < 256 → b < 256 → c < 256 → d < 256
    → word_then (joined a b c d) bs ≡ a ∷ b ∷ c ∷ d ∷ bs
bytes_word a b c d bs ha hb hc hd =
    let four : List ℕ = a ∷ b ∷ c ∷ d ∷ [] in
    let small : (i : ℕ) → get_or four i 0 < 256 = λ i. grind arith in
    ap (λ (t : List ℕ). t ++ bs) (le_bytes_4 four (joined a b c d) refl small (omega arith))

-- ---- what stands at a place, and lengths

-- one number more, that of four bytes
pub ints-more : (bs : List ℕ) (i : ℕ) → i < length bs / 4
    → take (i + 1) (ints_of bs) ≡ take i (ints_of bs) ++ cast_signed w32 (from_le_bytes w32 (get_or (first_chunks 4 (length bs / 4) bs) i [])) ∷ []
unfolding ints_of
ints-more [] i h = absurd (omega arith)
ints-more (a ∷ []) i h = absurd (omega arith)
ints-more (a ∷ b ∷ []) i h = absurd (omega arith)
ints-more (a ∷ b ∷ c ∷ []) i h = absurd (omega arith)
ints-more (a ∷ b ∷ c ∷ d ∷ bs) zero h =
    let e : suc (suc (suc (suc (length bs)))) / 4 ≡ suc (length bs / 4) = omega arith in
    rw e (ap (λ (x : ℤ). x ∷ []) (int_cast (joined a b c d) ∙ ap (cast_signed w32) (omega arith)))
ints-more (a ∷ b ∷ c ∷ d ∷ bs) (suc i) h =
    let e : suc (suc (suc (suc (length bs)))) / 4 ≡ suc (length bs / 4) = omega arith in
    let e' : suc i + 1 ≡ suc (i + 1) = omega arith in
    rw (e, e') (ap (λ (xs : List ℤ). int_of (joined a b c d) ∷ xs) (ints-more bs i (omega arith)))

pub ints-long : (bs : List ℕ) → length (ints_of bs) ≡ length bs / 4
unfolding ints_of
ints-long [] = refl
ints-long (a ∷ []) = refl
ints-long (a ∷ b ∷ []) = refl
ints-long (a ∷ b ∷ c ∷ []) = refl
ints-long (a ∷ b ∷ c ∷ d ∷ bs) = omega (arith, ints-long bs)

pub length-ints : (bs : List ℕ) (n : ℕ) → length bs ≡ 4 * n → length (ints_of bs) ≡ n
length-ints bs n e = omega (arith, ints-long bs)

-- the bytes of one number more
pub bytes-more : (xs : List ℤ) (i : ℕ) → i < length xs → SFits w32 (get_or xs i (pos 0))
    → take (4 * (i + 1)) (bytes_of xs) ≡ take (4 * i) (bytes_of xs) ++ to_le_bytes w32 (cast_unsigned w32 (get_or xs i (pos 0)))
unfolding bytes_of
bytes-more [] i h f = absurd (omega arith)
bytes-more (x ∷ xs) zero h f = ap (to_le_bytes w32) (word_cast x f)
bytes-more (x ∷ xs) (suc i) h f =
    let e : 4 * (suc i + 1) ≡ suc (suc (suc (suc (4 * (i + 1))))) = omega arith in
    let e' : 4 * suc i ≡ suc (suc (suc (suc (4 * i)))) = omega arith in
    rw (e, e') (ap (word_then (word_of x)) (bytes-more xs i (omega arith) f))

pub length-bytes : (xs : List ℤ) → length (bytes_of xs) ≡ 4 * length xs
unfolding bytes_of
length-bytes [] = refl
length-bytes (x ∷ xs) = let h = length-bytes xs in omega arith

-- what the loops of `load` and `store` need
pub ruleset loads = (ints-more, ints-long, common_steps, to_z-of_z)

pub ruleset stores = (bytes-more, length-bytes, common_steps, to_z-of_z)

-- ---- there and back

pub ints-bytes : (xs : List ℤ) → ((j : ℕ) → SFits w32 (get_or xs j (pos 0))) → ints_of (bytes_of xs) ≡ xs
unfolding ints_of bytes_of
ints-bytes [] h = refl
ints-bytes (x ∷ xs) h = ap₂ (λ (y : ℤ) (ys : List ℤ). y ∷ ys) (ap int_of (word_bytes (word_of x) (word_lt x (h 0))) ∙ int_word x (h 0)) (ints-bytes xs (λ j. h (suc j)))

pub bytes-ints : (bs : List ℕ) (n : ℕ) → length bs ≡ 4 * n → ((j : ℕ) → get_or bs j 0 < 256) → bytes_of (ints_of bs) ≡ bs
unfolding ints_of bytes_of
bytes-ints [] n e h = refl
bytes-ints (a ∷ []) n e h = absurd (omega arith)
bytes-ints (a ∷ b ∷ []) n e h = absurd (omega arith)
bytes-ints (a ∷ b ∷ c ∷ []) n e h = absurd (omega arith)
bytes-ints (a ∷ b ∷ c ∷ d ∷ bs) n e h =
    let w : ℕ = joined a b c d in
    let lt : w < 4294967296 = omega (arith, h 0, h 1, h 2, h 3) in
    ap₂ word_then (word-int w lt) (bytes-ints bs (n - 1) (omega arith) (λ j. h (suc (suc (suc (suc j))))))
    ∙ bytes_word a b c d bs (h 0) (h 1) (h 2) (h 3)

-- ---- a list of zeros

pub bytes-zeros : (n : ℕ) → bytes_of (replicate n (pos 0)) ≡ replicate (4 * n) 0
unfolding bytes_of word_of
bytes-zeros zero = refl
bytes-zeros (suc n) =
    let e : 4 * suc n ≡ suc (suc (suc (suc (4 * n)))) = omega arith in
    rw e (ap (λ (bs : List ℕ). 0 ∷ 0 ∷ 0 ∷ 0 ∷ bs) (bytes-zeros n))

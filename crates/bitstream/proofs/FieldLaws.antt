-- Laws of `field` and `number`: a field and its parts, a number and its bits.
-- Assumes nothing.
use mathlib.Core.Path.{◌≡◌, refl, sym, ap, ap₂, ◌∙◌, subst}
use mathlib.Core.Bool.{Bool, true, false}
use mathlib.Core.List.{List, [], ◌∷◌, ◌++◌}
use Prim.Native.Nat.{ℕ, zero, suc, ◌+◌, ◌-◌, ◌*◌, ◌/◌, ◌%◌, ◌^◌, ◌≤◌, ◌<◌}
use native.Mathlib.Nat.{zero-add, suc-add, add_comm, add-zero, mod-one, mod-eq_of_lt, zero-div, zero-mul, pow-suc, not-suc-le-zero, lt_of_lt_of_le}
use native.Mathlib.Numerals.{one-add, add-one}
use native.Mathlib.Omega.{arith}
use lib.Dec.{eqb}
use lib.ListN.{length, get_or, take, drop, length-append, length-take, length-drop, take-append-drop}
use lib.Seq.{take-suc}
use lib.Pow as P
use lib.Pow.{pow_pos, pow_mono, pow-add, shr-shr, high, low, mod-pow-add, mod-mod-pow}
use borrow.Author.Tests.{eqb-true, eqb-false}
use Rattle.bitstream.specs.Bits.{odd, val, field, number, zeros}

-- ---- a bit and a digit

pub val-lt : (b : Bool) → val b < 2
val-lt true = omega arith
val-lt false = omega arith

pub odd_val : (b : Bool) → odd (val b) ≡ b
odd_val true = refl
odd_val false = refl

pub val-odd : (d : ℕ) → val (odd d) ≡ d % 2
val-odd d = go (odd d) refl
  where
    go : (b : Bool) → odd d ≡ b → val b ≡ d % 2
    go true e = sym (eqb-true (d % 2) 1 e)
    go false e = omega (arith, eqb-false (d % 2) 1 e)

-- ---- field

pub length-field : (n v : ℕ) → length (field n v) ≡ n
unfolding field
length-field zero v = refl
length-field (suc n) v = ap suc (length-field n v)

-- a field is its high part and its low part
pub field-split : (n m v : ℕ) → field (n + m) v ≡ field n (v / 2 ^ m) ++ field m v
unfolding field
field-split zero m v = ap (λ (k : ℕ). field k v) (zero-add m)
field-split (suc n) m v =
    ap (λ (k : ℕ). field k v) (suc-add n m)
    ∙ ap₂ (λ (x : ℕ) (t : List Bool). odd x ∷ t) (ap (λ (k : ℕ). v / 2 ^ k) (add_comm n m) ∙ sym (shr-shr v m n)) (field-split n m v)

-- only the n low digits count
pub field-cong : (n v w : ℕ) → v % 2 ^ n ≡ w % 2 ^ n → field n v ≡ field n w
unfolding field
field-cong zero v w e = refl
field-cong (suc n) v w e =
    let e' : v % 2 ^ (1 + n) ≡ w % 2 ^ (1 + n) = subst (λ (k : ℕ). v % 2 ^ k ≡ w % 2 ^ k) (sym (one-add n)) e in
    ap₂ (λ (x : ℕ) (t : List Bool). eqb x 1 ∷ t)
    (sym (P.field v 1 n) ∙ ap (λ (x : ℕ). x / 2 ^ n) e' ∙ P.field w 1 n)
    (field-cong n v w (sym (mod-mod-pow v 1 n) ∙ ap (λ (x : ℕ). x % 2 ^ n) e' ∙ mod-mod-pow w 1 n))

-- two fields side by side are one field
pub field-join : (n m a b : ℕ) → b < 2 ^ m → field n a ++ field m b ≡ field (n + m) (a * 2 ^ m + b)
field-join n m a b h =
    sym (field-split n m (a * 2 ^ m + b)
    ∙ ap₂ (λ (x : ℕ) (t : List Bool). field n x ++ t) (high a m h)
    (field-cong m (a * 2 ^ m + b) b (low a m h ∙ sym (mod-eq_of_lt h))))

pub field-zero : (n : ℕ) → field n 0 ≡ zeros n
unfolding field
field-zero zero = refl
field-zero (suc n) = ap₂ (λ (x : ℕ) (t : List Bool). odd x ∷ t) (zero-div (2 ^ n)) (field-zero n)

-- zero bits in front of a field widen it
pub field-widen : (n m v : ℕ) → v < 2 ^ m → zeros n ++ field m v ≡ field (n + m) v
field-widen n m v h =
    ap (λ (t : List Bool). t ++ field m v) (sym (field-zero n))
    ∙ field-join n m 0 v h
    ∙ ap (λ (x : ℕ). field (n + m) x) (ap (λ (x : ℕ). x + v) (zero-mul (2 ^ m)) ∙ zero-add v)

-- zero bits behind a field shift it
pub field-pad : (n k v : ℕ) → field n v ++ zeros k ≡ field (n + k) (v * 2 ^ k)
field-pad n k v =
    ap (λ (t : List Bool). field n v ++ t) (sym (field-zero k))
    ∙ field-join n k v 0 (pow_pos k)
    ∙ ap (λ (x : ℕ). field (n + k) x) (add-zero (v * 2 ^ k))

-- the rest of a field is a field
pub drop-field : (n v j : ℕ) → j ≤ n → drop j (field n v) ≡ field (n - j) v
unfolding field
drop-field zero v zero h = refl
drop-field zero v (suc j) h = absurd (not-suc-le-zero h)
drop-field (suc n) v zero h = let e : suc n ≡ suc n - 0 = omega arith in ap (λ (m : ℕ). field m v) e
drop-field (suc n) v (suc j) h = let e : n - j ≡ suc n - suc j = omega arith in drop-field n v j (omega arith) ∙ ap (λ (m : ℕ). field m v) e

pub get_or-field : (n v i : ℕ) → i < n → get_or (field n v) i false ≡ odd (v / 2 ^ (n - suc i))
unfolding field
get_or-field zero v i h = absurd (not-suc-le-zero h)
get_or-field (suc n) v zero h = let e : n ≡ suc n - 1 = omega arith in ap (λ (m : ℕ). odd (v / 2 ^ m)) e
get_or-field (suc n) v (suc i) h =
    let e : n - suc i ≡ suc n - suc (suc i) = omega arith in
    get_or-field n v i (omega arith) ∙ ap (λ (m : ℕ). odd (v / 2 ^ m)) e

-- ---- number

pub number-field : (n v : ℕ) → number (field n v) ≡ v % 2 ^ n
unfolding number field
number-field zero v = sym (mod-one v)
number-field (suc n) v =
    ap₂ ◌+◌ (ap₂ (λ (x k : ℕ). x * 2 ^ k) (val-odd (v / 2 ^ n)) (length-field n v)) (number-field n v)
    ∙ sym (mod-pow-add v 1 n)
    ∙ ap (λ (k : ℕ). v % 2 ^ k) (one-add n)

pub number_lt : (bs : List Bool) → number bs < 2 ^ length bs
unfolding number
number_lt [] = omega arith
number_lt (true ∷ bs) = omega (arith, number_lt bs, pow-suc 2 (length bs))
number_lt (false ∷ bs) = omega (arith, number_lt bs, pow-suc 2 (length bs))

pub field-number : (bs : List Bool) → field (length bs) (number bs) ≡ bs
unfolding number field
field-number [] = refl
field-number (b ∷ bs) =
    ap₂ (λ (x : ℕ) (t : List Bool). odd x ∷ t) (high (val b) (length bs) (number_lt bs))
    (field-cong (length bs) (val b * 2 ^ length bs + number bs) (number bs)
    (low (val b) (length bs) (number_lt bs) ∙ sym (mod-eq_of_lt (number_lt bs))) ∙ field-number bs)
    ∙ ap (λ (x : Bool). x ∷ bs) (odd_val b)

pub number_append : (xs ys : List Bool) → number (xs ++ ys) ≡ number xs * 2 ^ length ys + number ys
unfolding number
number_append [] ys = let e : number ys ≡ 0 * 2 ^ length ys + number ys = omega arith in e
number_append (true ∷ xs) ys =
    let l : 2 ^ length (xs ++ ys) ≡ 2 ^ length xs * 2 ^ length ys = ap (λ (n : ℕ). 2 ^ n) (length-append xs ys) ∙ pow-add 2 (length xs) (length ys) in
    omega (arith, number_append xs ys)
number_append (false ∷ xs) ys = omega (arith, number_append xs ys)

pub number-take-lt : (i : ℕ) (bs : List Bool) → number (take i bs) < 2 ^ i
number-take-lt i bs = lt_of_lt_of_le (number_lt (take i bs)) (pow_mono (omega (arith, length-take i bs)))

-- one bit more of a list
pub number-take-more : (i : ℕ) (bs : List Bool) → i < length bs → number (take (i + 1) bs) ≡ number (take i bs) * 2 + val (get_or bs i false)
unfolding number
number-take-more i bs h =
    rw (add-one, take-suc bs i false)
    (number_append (take i bs) (get_or bs i false ∷ []) ∙ omega arith)

-- the first n bits and the bits behind them, out of a list's number
module _ (bs : List Bool) (n m : ℕ) (e : length bs ≡ n + m) where
  halves : number bs ≡ number (take n bs) * 2 ^ m + number (drop n bs)
  halves =
      let l : length (drop n bs) ≡ m = length-drop n bs ∙ omega arith in
      ap number (sym (take-append-drop n bs)) ∙ number_append (take n bs) (drop n bs)
      ∙ ap (λ (k : ℕ). number (take n bs) * 2 ^ k + number (drop n bs)) l

  small : number (drop n bs) < 2 ^ m
  small = let l : length (drop n bs) ≡ m = length-drop n bs ∙ omega arith in subst (λ (k : ℕ). number (drop n bs) < 2 ^ k) l (number_lt (drop n bs))

  pub number-take : number bs / 2 ^ m ≡ number (take n bs)
  number-take = ap (λ (x : ℕ). x / 2 ^ m) halves ∙ high (number (take n bs)) m small

  pub number-drop : number bs % 2 ^ m ≡ number (drop n bs)
  number-drop = ap (λ (x : ℕ). x % 2 ^ m) halves ∙ low (number (take n bs)) m small

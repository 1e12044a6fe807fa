-- What stands at a bit position of a payload: a bit, a field, the end of data.
-- Assumes nothing.
use mathlib.Core.Path.{◌≡◌, refl, sym, ap, ap₂, ◌∙◌, subst}
use mathlib.Core.Bool.{Bool, true, false, ◌&&◌}
use mathlib.Core.List.{List, [], ◌∷◌, ◌++◌}
use Prim.Native.Nat.{ℕ, zero, suc, ◌+◌, ◌-◌, ◌*◌, ◌/◌, ◌%◌, ◌^◌, ◌≤◌, ◌<◌}
use native.Mathlib.Nat.{zero-mul, mod-eq_of_lt, mod-lt, lt_of_lt_of_le}
use native.Mathlib.Numerals.{add-one}
use native.Mathlib.Omega.{arith}
use lib.Dec.{eqb}
use lib.Pow.{pow_pos, pow_mono, shl-shr, shr-shr}
use mir.Val.{bool_byte}
use lib.ListN.{length, get_or, take, drop, length-drop, take-append-drop, drop_of_length-le, get_or-append}
use lib.Seq.{drop-cons, drop-drop, drop-append-le, take-append-le, take-suc, get_or-drop, length-take-le}
use borrow.Author.Tests.{ne_eqb}
use Rattle.std.specs.List.{list_all}
use Rattle.common.proofs.Numbers.{shl-mod}
use Rattle.bitstream.specs.Windows.{word_at, shown, Shows}
use Rattle.bitstream.specs.Bits.{odd, val, field, number, bits_of, zeros, ended}
use Rattle.bitstream.proofs.FieldLaws.{length-field, drop-field, get_or-field, number-field, number_append, number-take, number-drop, number-take-lt, number-take-more}
use Rattle.bitstream.proofs.BitsLaws.{length-bits, bits-append, bits-drop}

-- ---- a bit

-- what is unread at p: the rest of a byte, and the bytes after it
pub bits-split : (s : List ℕ) (p : ℕ) → p / 8 < length s → drop p (bits_of s) ≡ field (8 - p % 8) (get_or s (p / 8) 0) ++ bits_of (drop (p / 8 + 1) s)
unfolding bits_of
bits-split s p h =
    let b : ℕ = get_or s (p / 8) 0 in
    let e : p ≡ 8 * (p / 8) + p % 8 = omega arith in
    ap (λ (k : ℕ). drop k (bits_of s)) e
    ∙ sym (drop-drop (p % 8) (8 * (p / 8)) (bits_of s))
    ∙ ap (drop (p % 8)) (sym (bits-drop (p / 8) s) ∙ ap bits_of (drop-cons s (p / 8) 0 h ∙ ap (λ (n : ℕ). b ∷ drop n s) (sym (add-one (p / 8)))))
    ∙ drop-append-le (p % 8) (field 8 b) (bits_of (drop (p / 8 + 1) s)) (omega (arith, length-field 8 b))
    ∙ ap (λ (l : List Bool). l ++ bits_of (drop (p / 8 + 1) s)) (drop-field 8 b (p % 8) (omega arith))

-- the bit at p, as code takes it out of its byte
pub bit_at : (s : List ℕ) (p : ℕ) → p < 8 * length s → get_or (bits_of s) p false ≡ odd (get_or s (p / 8) 0 / 2 ^ (7 - p % 8))
bit_at s p h =
    let b : ℕ = get_or s (p / 8) 0 in
    let n : ℕ = 8 - p % 8 in
    let z : p ≡ p + 0 = omega arith in
    let k : 8 - p % 8 - 1 ≡ 7 - p % 8 = omega arith in
    ap (λ (i : ℕ). get_or (bits_of s) i false) z ∙ sym (get_or-drop p (bits_of s) 0 false)
    ∙ ap (λ (l : List Bool). get_or l 0 false) (bits-split s p (omega arith))
    ∙ get_or-append (field n b) (bits_of (drop (p / 8 + 1) s)) false 0 (omega (arith, length-field n b))
    ∙ get_or-field n b 0 (omega arith)
    ∙ ap (λ (i : ℕ). odd (b / 2 ^ i)) k

-- ---- a field, bit by bit

pub byte-val : (b : Bool) → bool_byte b ≡ val b
byte-val true = refl
byte-val false = refl

-- v is the number of the first i bits, and b the bit behind them
pub field-turn : (bs : List Bool) (i v : ℕ) (b : Bool) → i < length bs → v ≡ number (take i bs) → b ≡ get_or bs i false
    → v * 2 + bool_byte b ≡ number (take (i + 1) bs)
field-turn bs i v b h ev eb = ap₂ (λ (x y : ℕ). x * 2 + y) ev (byte-val b ∙ ap val eb) ∙ sym (number-take-more i bs h)

pub number-take-32 : (i : ℕ) (bs : List Bool) → i ≤ 32 → number (take i bs) < 2 ^ 32
number-take-32 i bs h = lt_of_lt_of_le (number-take-lt i bs) (pow_mono {j = 32} h)

-- ---- no 1 among bits

pub ended-append : (xs ys : List Bool) → ended (xs ++ ys) ≡ (ended xs && ended ys)
unfolding ended
ended-append [] ys = refl
ended-append (true ∷ xs) ys = refl
ended-append (false ∷ xs) ys = ended-append xs ys

pub ended-zeros : (n : ℕ) → ended (zeros n) ≡ true
unfolding ended
ended-zeros zero = refl
ended-zeros (suc n) = ended-zeros n

-- a 1 after zeros is not overlooked
pub ended-one : (z : ℕ) (rest : List Bool) → ended (zeros z ++ true ∷ rest) ≡ false
unfolding ended
ended-one zero rest = refl
ended-one (suc z) rest = ended-one z rest

-- bits have ended exactly if their number is 0
pub ended-number : (bs : List Bool) → ended bs ≡ eqb (number bs) 0
unfolding ended number
ended-number [] = refl
ended-number (true ∷ bs) = sym (ne_eqb (1 * 2 ^ length bs + number bs) 0 (omega (arith, pow_pos (length bs))))
ended-number (false ∷ bs) = let e : number bs ≡ 0 * 2 ^ length bs + number bs = omega arith in ended-number bs ∙ ap (λ (x : ℕ). eqb x 0) e

pub ended-field : (n v : ℕ) → ended (field n v) ≡ eqb (v % 2 ^ n) 0
ended-field n v = ended-number (field n v) ∙ ap (λ (x : ℕ). eqb x 0) (number-field n v)

-- ---- a field, out of eight bytes

-- one byte more
pub load-more : (s : List ℕ) (i j : ℕ) → i + j < length s → get_or s (i + j) 0 < 256
    → number (bits_of (take (j + 1) (drop i s))) ≡ number (bits_of (take j (drop i s))) * 256 + get_or s (i + j) 0
unfolding bits_of number
load-more s i j h small =
    let b : ℕ = get_or (drop i s) j 0 in
    let e : b ≡ get_or s (i + j) 0 = get_or-drop i s j 0 in
    ap (λ (k : ℕ). number (bits_of (take k (drop i s)))) (add-one j)
    ∙ ap (λ (l : List ℕ). number (bits_of l)) (take-suc (drop i s) j 0 (omega (arith, length-drop i s)))
    ∙ ap number (bits-append (take j (drop i s)) (b ∷ []))
    ∙ number_append (bits_of (take j (drop i s))) (bits_of (b ∷ []))
    ∙ ap₂ (λ (x y : ℕ). number (bits_of (take j (drop i s))) * 2 ^ x + y) (length-bits (b ∷ []))
    (number_append (field 8 b) [] ∙ omega (arith, number-field 8 b, mod-eq_of_lt {n = get_or s (i + j) 0} {m = 256} small))

-- eight of them, as `from_be_bytes` adds them up
pub load-eight : (s : List ℕ) (i : ℕ) → i + 8 ≤ length s → ((k : ℕ) → get_or s k 0 < 256)
    → number (bits_of (take 8 (drop i s)))
    ≡ get_or s i 0 * 2 ^ 56 + get_or s (i + 1) 0 * 2 ^ 48 + get_or s (i + 2) 0 * 2 ^ 40 + get_or s (i + 3) 0 * 2 ^ 32 + get_or s (i + 4) 0 * 2 ^ 24
    + get_or s (i + 5) 0 * 2 ^ 16
    + get_or s (i + 6) 0 * 2 ^ 8
    + get_or s (i + 7) 0
unfolding bits_of number
load-eight s i h small =
    let none : number (bits_of (take 0 (drop i s))) ≡ 0 = refl in
    let here : get_or s (i + 0) 0 ≡ get_or s i 0 = ap (λ (k : ℕ). get_or s k 0) (omega arith) in
    let more = λ (j : ℕ) (l : i + j < length s). load-more s i j l (small (i + j)) in
    omega (
      arith,
      none,
      here,
      more 0 (omega arith),
      more 1 (omega arith),
      more 2 (omega arith),
      more 3 (omega arith),
      more 4 (omega arith),
      more 5 (omega arith),
      more 6 (omega arith),
      more 7 (omega arith),
    )

-- a word of eight bytes, without its first k bits
number-high : (w : List Bool) (k : ℕ) → length w ≡ 64 → k ≤ 64 → (number w * 2 ^ k) % 2 ^ 64 ≡ number (drop k w) * 2 ^ k
number-high w k len fits =
    let a : 64 ≡ 64 - k + k = omega arith in
    ap (λ (t : ℕ). (number w * 2 ^ k) % 2 ^ t) a ∙ shl-mod (number w) (64 - k) k ∙ ap (λ (y : ℕ). y * 2 ^ k) (number-drop w k (64 - k) (omega arith))

-- the first n of them
number-part : (x : List Bool) (k n : ℕ) → length x ≡ 64 - k → k + n ≤ 64 → number x * 2 ^ k / 2 ^ (64 - n) ≡ number (take n x)
number-part x k n len fits =
    let m : 64 - n ≡ k + (64 - k - n) = omega arith in
    let l : length x ≡ n + (64 - k - n) = omega arith in
    ap (λ (t : ℕ). number x * 2 ^ k / 2 ^ t) m
    ∙ sym (shr-shr (number x * 2 ^ k) k (64 - k - n))
    ∙ ap (λ (y : ℕ). y / 2 ^ (64 - k - n)) (shl-shr (number x) k)
    ∙ number-take x n (64 - k - n) l

-- what is unread at p, where eight bytes are left: the rest of them, and the bytes behind
module _ (s : List ℕ) (p : ℕ) (room : p / 8 + 8 ≤ length s) where
  abbrev eight : List Bool
  eight = bits_of (take 8 (drop (p / 8) s))

  abbrev rest : List Bool
  rest = drop (p % 8) eight

  length-eight : length eight ≡ 64
  length-eight =
      length-bits (take 8 (drop (p / 8) s)) ∙ ap (λ (x : ℕ). 8 * x) (length-take-le 8 (drop (p / 8) s) (omega (arith, length-drop (p / 8) s)))

  length_rest : length rest ≡ 64 - p % 8
  length_rest = length-drop (p % 8) eight ∙ ap (λ (x : ℕ). x - p % 8) length-eight

  unread-is : drop p (bits_of s) ≡ rest ++ bits_of (drop 8 (drop (p / 8) s))
  unread-is =
      let e : p ≡ 8 * (p / 8) + p % 8 = omega arith in
      ap (λ (x : ℕ). drop x (bits_of s)) e ∙ sym (drop-drop (p % 8) (8 * (p / 8)) (bits_of s))
      ∙ ap (drop (p % 8))
      (sym (bits-drop (p / 8) s) ∙ ap bits_of (sym (take-append-drop 8 (drop (p / 8) s))) ∙ bits-append (take 8 (drop (p / 8) s)) (drop 8 (drop (p / 8) s)))
      ∙ drop-append-le (p % 8) eight (bits_of (drop 8 (drop (p / 8) s))) (omega (arith, length-eight))

  word-is : word_at s p ≡ number rest * 2 ^ (p % 8)
  unfolding word_at
  word-is = number-high eight (p % 8) length-eight (omega arith)

  pub word-shows : Shows shown (word_at s p) (drop p (bits_of s))
  unfolding word_at
  word-shows =
      record {
        fits = mod-lt (number eight * 2 ^ (p % 8)) (pow_pos 64);
        long = omega (arith, length-bits s, length-drop p (bits_of s));
        is = ap (λ (x : ℕ). x / 2 ^ (64 - shown)) word-is
            ∙ number-part rest (p % 8) shown length_rest (omega arith)
            ∙ sym (ap (λ (l : List Bool). number (take shown l)) unread-is
            ∙ ap number (take-append-le shown rest (bits_of (drop 8 (drop (p / 8) s))) (omega (arith, length_rest))));
      }

  -- a word that is not 0 has a 1 among the bits
  pub word_some : (word_at s p ≡ 0 → ⊥) → ended (drop p (bits_of s)) ≡ false
  word_some n =
      let some : number rest ≡ 0 → ⊥ = λ z. n (word-is ∙ ap (λ (x : ℕ). x * 2 ^ (p % 8)) z ∙ zero-mul (2 ^ (p % 8))) in
      ap ended unread-is
      ∙ ended-append rest (bits_of (drop 8 (drop (p / 8) s)))
      ∙ ap (λ (b : Bool). b && ended (bits_of (drop 8 (drop (p / 8) s)))) (ended-number rest ∙ ne_eqb (number rest) 0 some)

-- ---- the end of data

-- what is unread at p: the rest of its byte, and the bytes after it
pub ended_at : (s : List ℕ) (p : ℕ) → p / 8 < length s
    → ended (drop p (bits_of s)) ≡ (eqb (get_or s (p / 8) 0 % 2 ^ (8 - p % 8)) 0 && ended (bits_of (drop (p / 8 + 1) s)))
ended_at s p h =
    ap ended (bits-split s p h)
    ∙ ended-append (field (8 - p % 8) (get_or s (p / 8) 0)) (bits_of (drop (p / 8 + 1) s))
    ∙ ap (λ (b : Bool). b && ended (bits_of (drop (p / 8 + 1) s))) (ended-field (8 - p % 8) (get_or s (p / 8) 0))

pub ended-past : (s : List ℕ) (p : ℕ) → length s ≤ p / 8 → ended (drop p (bits_of s)) ≡ true
unfolding ended
ended-past s p h = let l : length (bits_of s) ≤ p = omega (arith, length-bits s) in ap ended (drop_of_length-le (bits_of s) l)

-- so bytes have ended where all are 0
ended_bytes : (s : List ℕ) → ((k : ℕ) → get_or s k 0 < 256) → list_all (λ b. eqb b 0) s ≡ ended (bits_of s)
unfolding bits_of ended
ended_bytes [] small = refl
ended_bytes (b ∷ s) small =
    let whole : b % 2 ^ 8 ≡ b = mod-eq_of_lt (small 0) in
    sym (ended-append (field 8 b) (bits_of s)
    ∙ ap₂ (λ (x y : Bool). x && y) (ended-field 8 b ∙ ap (λ (n : ℕ). eqb n 0) whole) (sym (ended_bytes s (λ k. small (suc k)))))

pub ended_all : (s : List ℕ) (i : ℕ) → ((k : ℕ) → get_or s k 0 < 256) → list_all (λ b. eqb b 0) (drop i s) ≡ ended (bits_of (drop i s))
ended_all s i small = ended_bytes (drop i s) (λ k. subst (λ (b : ℕ). b < 256) (sym (get_or-drop i s k 0)) (small (i + k)))

-- Laws of `bytes`, `pack` and `stored`: a code as bytes, and what a lent buffer then holds.
-- Assumes nothing.
use mathlib.Core.Path.{◌≡◌, refl, sym, ap, ap₂, ◌∙◌}
use mathlib.Core.Bool.{Bool, false}
use mathlib.Core.List.{List, [], ◌∷◌, ◌++◌, append_assoc, append-nil}
use Prim.Native.Nat.{ℕ, zero, suc, ◌+◌, ◌-◌, ◌*◌, ◌%◌, ◌^◌, ◌≤◌, ◌<◌}
use native.Mathlib.Nat.{zero-add, suc-add, sub-zero, zero-sub, suc-sub-suc, not-suc-le-zero, le_of_suc-le-suc, le_refl, mul-one, mod-eq_of_lt}
use native.Mathlib.Omega.{arith}
use lib.ListN.{length, get_or, take, drop, length-append, length-drop, replicate-append-replicate, drop_of_length-le}
use lib.Seq.{length-take-le, take-append-le, drop-append-le, take-append_seam, drop-append-add, drop-drop}
use Rattle.bitstream.specs.Bits.{field, number, bits_of, zeros}
use Rattle.bitstream.specs.Bytes.{bytes_for, bytes, pack, stored}
use Rattle.bitstream.proofs.FieldLaws.{length-field, number-field, field-number, field-pad, number-take-lt}
use Rattle.bitstream.proofs.BitsLaws.{length-bits, bits-append}

-- ---- numbers below 256

abbrev pub Bytes : List ℕ → Type 0
Bytes s = (j : ℕ) → get_or s j 0 < 256

pub take-lt : (i : ℕ) (s : List ℕ) → Bytes s → Bytes (take i s)
take-lt zero s b j = omega arith
take-lt (suc i) [] b j = omega arith
take-lt (suc i) (x ∷ s) b zero = b 0
take-lt (suc i) (x ∷ s) b (suc j) = take-lt i s (λ k. b (suc k)) j

-- ---- zero bits behind others

take-zeros : (n m : ℕ) → n ≤ m → take n (zeros m) ≡ zeros n
take-zeros zero m h = refl
take-zeros (suc n) zero h = absurd (not-suc-le-zero h)
take-zeros (suc n) (suc m) h = ap (λ (t : List Bool). false ∷ t) (take-zeros n m (le_of_suc-le-suc h))

-- the first n bits, where zeros make up what is missing, and the bits that are left
take-pad-drop : (n m : ℕ) (bs : List Bool) → n ≤ m → take n (bs ++ zeros m) ++ drop n bs ≡ bs ++ zeros (n - length bs)
take-pad-drop zero m bs h = sym (ap (λ (k : ℕ). bs ++ zeros k) (zero-sub (length bs)) ∙ append-nil bs)
take-pad-drop (suc n) m [] h = append-nil (take (suc n) (zeros m)) ∙ take-zeros (suc n) m h ∙ ap zeros (sym (sub-zero (suc n)))
take-pad-drop (suc n) m (b ∷ bs) h =
    ap (λ (t : List Bool). b ∷ t)
    (take-pad-drop n m bs (omega arith) ∙ ap (λ (k : ℕ). bs ++ zeros k) (sym (suc-sub-suc n (length bs))))

-- ---- bytes

pub length-bytes : (k : ℕ) (bs : List Bool) → length (bytes k bs) ≡ k
unfolding bytes
length-bytes zero bs = refl
length-bytes (suc k) bs = ap suc (length-bytes k (drop 8 bs))

pub bytes_lt : (k : ℕ) (bs : List Bool) → Bytes (bytes k bs)
unfolding bytes
bytes_lt zero bs j = omega arith
bytes_lt (suc k) bs zero = number-take-lt 8 (bs ++ zeros 8)
bytes_lt (suc k) bs (suc j) = bytes_lt k (drop 8 bs) j

-- whole bytes in front
bytes_whole : (i k : ℕ) (w t : List Bool) → length w ≡ 8 * i → bytes (i + k) (w ++ t) ≡ bytes i w ++ bytes k t
unfolding bytes
bytes_whole zero k [] t e = ap (λ (n : ℕ). bytes n t) (zero-add k)
bytes_whole zero k (b ∷ w) t e = absurd (omega arith)
bytes_whole (suc i) k w t e =
    let h : 8 ≤ length w = omega arith in
    ap (λ (n : ℕ). bytes n (w ++ t)) (suc-add i k)
    ∙ ap₂ (λ (x y : List Bool). number x ∷ bytes (i + k) y)
    (ap (take 8) (append_assoc w t (zeros 8)) ∙ take-append-le 8 w (t ++ zeros 8) h ∙ sym (take-append-le 8 w (zeros 8) h))
    (drop-append-le 8 w t h)
    ∙ ap (λ (l : List ℕ). number (take 8 (w ++ zeros 8)) ∷ l) (bytes_whole i k (drop 8 w) t (length-drop 8 w ∙ omega arith))

-- the bits of the next byte
byte-bits : (bs : List Bool) → field 8 (number (take 8 (bs ++ zeros 8))) ≡ take 8 (bs ++ zeros 8)
byte-bits bs =
    let t : List Bool = take 8 (bs ++ zeros 8) in
    let l : length t ≡ 8 = length-take-le 8 (bs ++ zeros 8) (omega (arith, length-append bs (zeros 8))) in
    ap (λ (k : ℕ). field k (number t)) (sym l) ∙ field-number t

bits-bytes : (k : ℕ) (bs : List Bool) → length bs ≤ 8 * k → bits_of (bytes k bs) ≡ bs ++ zeros (8 * k - length bs)
unfolding bytes bits_of
bits-bytes zero [] h = refl
bits-bytes zero (b ∷ bs) h = absurd (omega arith)
bits-bytes (suc k) bs h =
    let t : List Bool = take 8 (bs ++ zeros 8) in
    let n : ℕ = 8 * k - length (drop 8 bs) in
    let e : 8 - length bs + n ≡ 8 * suc k - length bs = omega (arith, length-drop 8 bs) in
    ap₂ ◌++◌ (byte-bits bs) (bits-bytes k (drop 8 bs) (omega (arith, length-drop 8 bs)))
    ∙ sym (append_assoc t (drop 8 bs) (zeros n))
    ∙ ap (λ (x : List Bool). x ++ zeros n) (take-pad-drop 8 8 bs (le_refl 8))
    ∙ append_assoc bs (zeros (8 - length bs)) (zeros n)
    ∙ ap (λ (x : List Bool). bs ++ x) (replicate-append-replicate (8 - length bs) n false ∙ ap zeros e)

bytes_bits : (s : List ℕ) → Bytes s → bytes (length s) (bits_of s) ≡ s
unfolding bytes bits_of field
bytes_bits [] b = refl
bytes_bits (x ∷ s) b = ap₂ ◌∷◌ (number-field 8 x ∙ mod-eq_of_lt (b 0)) (bytes_bits s (λ j. b (suc j)))

-- ---- pack

pub length-pack : (bs : List Bool) → length (pack bs) ≡ bytes_for (length bs)
unfolding pack
length-pack bs = length-bytes (bytes_for (length bs)) bs

pub pack-lt : (bs : List Bool) → Bytes (pack bs)
unfolding pack
pack-lt bs = bytes_lt (bytes_for (length bs)) bs

pub pack-whole : (w t : List Bool) (i : ℕ) → length w ≡ 8 * i → pack (w ++ t) ≡ pack w ++ pack t
unfolding pack
pack-whole w t i e =
    let k : ℕ = bytes_for (length t) in
    let all : bytes_for (length (w ++ t)) ≡ i + k = omega (arith, length-append w t) in
    let front : i ≡ bytes_for (length w) = omega arith in
    ap (λ (n : ℕ). bytes n (w ++ t)) all ∙ bytes_whole i k w t e ∙ ap (λ (n : ℕ). bytes n w ++ bytes k t) front

-- up to eight bits are one byte
pub pack-short : (t : List Bool) → 0 < length t → length t ≤ 8 → pack t ≡ number (t ++ zeros (8 - length t)) ∷ []
unfolding pack bytes
pack-short t p h =
    let one : bytes_for (length t) ≡ 1 = omega arith in
    let first : take 8 (t ++ zeros 8) ≡ t ++ zeros (8 - length t) =
    sym (append-nil (take 8 (t ++ zeros 8)))
    ∙ ap (λ (x : List Bool). take 8 (t ++ zeros 8) ++ x) (sym (drop_of_length-le t h))
    ∙ take-pad-drop 8 8 t (le_refl 8) in
    ap (λ (n : ℕ). bytes n t) one ∙ ap (λ (x : List Bool). number x ∷ []) first

-- a field that is one byte, the last one
pub pack-last : (n v : ℕ) → 0 < n → n ≤ 8 → pack (field n v) ≡ (v * 2 ^ (8 - n) % 256) ∷ []
pack-last n v p h =
    let l : length (field n v) ≡ n = length-field n v in
    let eight : n + (8 - n) ≡ 8 = omega arith in
    pack-short (field n v) (omega arith) (omega arith)
    ∙ ap (λ (x : ℕ). x ∷ [])
    (ap (λ (k : ℕ). number (field n v ++ zeros (8 - k))) l
    ∙ ap number (field-pad n (8 - n) v)
    ∙ number-field (n + (8 - n)) (v * 2 ^ (8 - n))
    ∙ ap (λ (k : ℕ). v * 2 ^ (8 - n) % 2 ^ k) eight)

-- a field that is one byte, before others
pub pack-byte : (y : ℕ) (rest : List Bool) → pack (field 8 y ++ rest) ≡ (y % 256) ∷ pack rest
pack-byte y rest =
    pack-whole (field 8 y) rest 1 (length-field 8 y)
    ∙ ap (λ (p : List ℕ). p ++ pack rest) (pack-last 8 y (omega arith) (le_refl 8) ∙ ap (λ (x : ℕ). (x % 256) ∷ []) (mul-one y))

-- ---- pack and bits_of

-- a code's bytes are its bits, then zeros up to a byte
pub bits-pack : (bs : List Bool) → bits_of (pack bs) ≡ bs ++ zeros (8 * bytes_for (length bs) - length bs)
unfolding pack
bits-pack bs = bits-bytes (bytes_for (length bs)) bs (omega arith)

pub pack-bits : (s : List ℕ) → Bytes s → pack (bits_of s) ≡ s
unfolding pack
pack-bits s b =
    let e : bytes_for (length (bits_of s)) ≡ length s = omega (arith, length-bits s) in
    ap (λ (n : ℕ). bytes n (bits_of s)) e ∙ bytes_bits s b

-- ---- stored

pub stored-none : (old : List ℕ) → stored old [] ≡ old
unfolding stored pack bytes
stored-none old = refl

-- whole bytes in front
pub stored-whole : (old : List ℕ) (w t : List Bool) (i : ℕ) → length w ≡ 8 * i → stored old (w ++ t) ≡ pack w ++ stored (drop i old) t
unfolding stored
stored-whole old w t i whole =
    let lw : length (pack w) ≡ i = length-pack w ∙ omega arith in
    ap (λ (p : List ℕ). p ++ drop (length p) old) (pack-whole w t i whole)
    ∙ append_assoc (pack w) (pack t) (drop (length (pack w ++ pack t)) old)
    ∙ ap (λ (n : ℕ). pack w ++ (pack t ++ drop n old))
    (length-append (pack w) (pack t) ∙ ap (λ (n : ℕ). n + length (pack t)) lw)
    ∙ ap (λ (l : List ℕ). pack w ++ (pack t ++ l)) (sym (drop-drop (length (pack t)) i old))

module _ (old : List ℕ) (bits : List Bool) where
  pub stored-payload : take (bytes_for (length bits)) (stored old bits) ≡ pack bits
  unfolding stored
  stored-payload =
      ap (λ (n : ℕ). take n (stored old bits)) (sym (length-pack bits)) ∙ take-append_seam (pack bits) (drop (length (pack bits)) old)

  pub length-stored : bytes_for (length bits) ≤ length old → length (stored old bits) ≡ length old
  unfolding stored
  length-stored h = omega (arith, length-append (pack bits) (drop (length (pack bits)) old), length-drop (length (pack bits)) old, length-pack bits)

  pub bits-stored : take (length bits) (bits_of (stored old bits)) ≡ bits
  unfolding stored
  bits-stored =
      let rest : List ℕ = drop (length (pack bits)) old in
      let pad : List Bool = zeros (8 * bytes_for (length bits) - length bits) in
      ap (take (length bits))
      (bits-append (pack bits) rest ∙ ap (λ (x : List Bool). x ++ bits_of rest) (bits-pack bits) ∙ append_assoc bits pad (bits_of rest))
      ∙ take-append_seam bits (pad ++ bits_of rest)

  -- bytes beyond the code keep their content
  pub drop-stored : (n : ℕ) → bytes_for (length bits) ≤ n → drop n (stored old bits) ≡ drop n old
  unfolding stored
  drop-stored n h =
      let k : ℕ = length (pack bits) in
      let e : k + (n - k) ≡ n = omega (arith, length-pack bits) in
      ap (λ (m : ℕ). drop m (stored old bits)) (sym e)
      ∙ drop-append-add (pack bits) (drop k old) (n - k)
      ∙ drop-drop (n - k) k old
      ∙ ap (λ (m : ℕ). drop m old) e

-- a code is written over a part of it
pub stored-stored : (old : List ℕ) (bs f : List Bool) → stored (stored old bs) (bs ++ f) ≡ stored old (bs ++ f)
unfolding stored
stored-stored old bs f =
    ap (λ (l : List ℕ). pack (bs ++ f) ++ l)
    (drop-stored old bs (length (pack (bs ++ f))) (omega (arith, length-pack (bs ++ f), length-append bs f)))

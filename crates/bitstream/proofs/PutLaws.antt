-- Laws of `put_at`, `stored_from` and `Puts`: to write on behind a code, by bits and by bytes.
-- Assumes nothing.
use mathlib.Core.Path.{◌≡◌, refl, sym, ap, ap₂, ◌∙◌, subst}
use mathlib.Core.Bool.{Bool}
use mathlib.Core.List.{List, [], ◌++◌, append_assoc}
use Prim.Native.Nat.{ℕ, zero, suc, ◌+◌, ◌-◌, ◌*◌, ◌/◌, ◌%◌, ◌^◌, ◌≤◌, ◌<◌}
use native.Mathlib.Nat.{lt_of_lt_of_le, mod-lt, mod-mod}
use native.Mathlib.Numerals.{add-one}
use native.Mathlib.Omega.{arith}
use lib.ListN.{length, get_or, take, drop, set, length-append, take-append-drop}
use lib.Pow.{pow_pos, pow_mono, shr_lt, shl_lt}
use lib.Seq.{length-take-le, take-append-le, take_at, take-add, take-suc-set, drop-set-lt, drop-cons, append_snoc, set_split}
use Rattle.bitstream.specs.Bits.{field, bits_of}
use Rattle.bitstream.specs.Bytes.{pack, stored, put_at}
use Rattle.bitstream.specs.Puts.{Holds, Puts, stored_from, Begun}
use Rattle.bitstream.proofs.FieldLaws.{length-field, field-split, field-join, field-cong}
use Rattle.bitstream.proofs.BitsLaws.{length-bits, bits-take, bits-drop}
use Rattle.bitstream.proofs.BytesLaws.{Bytes, take-lt, pack-byte, pack-last, pack-bits, stored-none, stored-stored, stored-whole, bits-stored}

-- ---- put_at

-- what is held, with more bits behind it
pub put-stored : (old : List ℕ) (bs f : List Bool) → put_at (stored old bs) (length bs) f ≡ stored old (bs ++ f)
unfolding put_at
put-stored old bs f = ap (λ (t : List Bool). stored (stored old bs) (t ++ f)) (bits-stored old bs) ∙ stored-stored old bs f

-- what is put behind what was put is put at once
pub put-put : (e : List ℕ) (p : ℕ) (xs ys : List Bool) → p ≤ 8 * length e → put_at (put_at e p xs) (p + length xs) ys ≡ put_at e p (xs ++ ys)
unfolding put_at
put-put e p xs ys h =
    let t : List Bool = take p (bits_of e) in
    let l : length t ≡ p = length-take-le p (bits_of e) (omega (arith, length-bits e)) in
    let at : p + length xs ≡ length (t ++ xs) = omega (arith, length-append t xs) in
    ap (λ (k : ℕ). put_at (stored e (t ++ xs)) k ys) at ∙ put-stored e (t ++ xs) ys ∙ ap (stored e) (append_assoc t xs ys)

-- ---- Holds and Puts

pub held_none : (old : List ℕ) → Holds old [] old 0
held_none old = record { is = sym (stored-none old); count = refl }

pub puts_of : (e : List ℕ) (p : ℕ) (f : List Bool) → Puts e p f (put_at e p f) (p + length f)
puts_of e p f =
    record {
      next = refl;
      held = λ old bs H.
          record {
            is = ap₂ (λ (l : List ℕ) (k : ℕ). put_at l k f) H.is (sym H.count) ∙ put-stored old bs f;
            count = length-append bs f ∙ ap (λ (k : ℕ). k + length f) H.count;
          };
    }

pub puts-at : {e e' : List ℕ} {p p' : ℕ} {bs : List Bool} → p' ≡ p + length bs → e' ≡ put_at e p bs → Puts e p bs e' p'
puts-at {e} {e'} {p} {p'} {bs} n b = rw (n, b) (puts_of e p bs)

pub puts_then : {e e₁ e₂ : List ℕ} {p p₁ p₂ : ℕ} {a b : List Bool} → Puts e p a e₁ p₁ → Puts e₁ p₁ b e₂ p₂ → Puts e p (a ++ b) e₂ p₂
puts_then {e} {e₁} {e₂} {p} {p₁} {p₂} {a} {b} x y =
    record {
      next = omega (arith, x.next, y.next, length-append a b);
      held = λ old bs H. subst (λ (l : List Bool). Holds old l e₂ p₂) (append_assoc bs a b) (y.held old (bs ++ a) (x.held old bs H));
    }

-- ---- stored_from: byte by byte

pub from-none : (old : List ℕ) (i : ℕ) → stored_from old i [] ≡ old
unfolding stored_from
from-none old i = ap (λ (l : List ℕ). take i old ++ l) (stored-none (drop i old)) ∙ take-append-drop i old

-- a whole byte is a store
pub from_byte : (old : List ℕ) (i y : ℕ) (rest : List Bool) → i < length old
    → stored_from old i (field 8 y ++ rest) ≡ stored_from (set old i (y % 256)) (i + 1) rest
unfolding stored_from stored
from_byte old i y rest h =
    let v : ℕ = y % 256 in
    ap₂ (λ (p l : List ℕ). take i old ++ (p ++ drop (length p) l)) (pack-byte y rest) (drop-cons old i 0 h)
    ∙ sym (append_snoc (take i old) v (stored (drop (suc i) old) rest))
    ∙ sym (ap₂ (λ (a b : List ℕ). a ++ stored b rest) (take-suc-set old i v h) (drop-set-lt (suc i) old i v (omega arith)))
    ∙ ap (λ (k : ℕ). stored_from (set old i v) k rest) (sym (add-one i))

-- and so are the last bits
pub from_last : (old : List ℕ) (i n v : ℕ) → i < length old → 0 < n → n ≤ 8 → stored_from old i (field n v) ≡ set old i (v * 2 ^ (8 - n) % 256)
unfolding stored_from stored
from_last old i n v h p l =
    ap₂ (λ (b r : List ℕ). take i old ++ (b ++ drop (length b) r)) (pack-last n v p l) (drop-cons old i 0 h)
    ∙ sym (set_split old i (v * 2 ^ (8 - n) % 256) h)

-- ---- put_at by stored_from

-- the bits that stand in the byte begun
begun-bits : (e : List ℕ) (i r : ℕ) → 8 * i + r ≤ 8 * length e → r < 8 → take r (drop (8 * i) (bits_of e)) ≡ take r (field 8 (get_or e i 0))
unfolding bits_of
begun-bits e i zero h l = refl
begun-bits e i (suc r) h l =
    let y : ℕ = get_or e i 0 in
    ap (take (suc r)) (sym (bits-drop i e) ∙ ap bits_of (drop-cons e i 0 (omega arith)))
    ∙ take-append-le (suc r) (field 8 y) (bits_of (drop (suc i) e)) (omega (arith, length-field 8 y))

pub put-from : (e : List ℕ) (p : ℕ) (f : List Bool) → p ≤ 8 * length e → Bytes e
    → put_at e p f ≡ stored_from e (p / 8) (take (p % 8) (field 8 (get_or e (p / 8) 0)) ++ f)
unfolding put_at stored_from
put-from e p f h b =
    let i : ℕ = p / 8 in
    let r : ℕ = p % 8 in
    let w : List Bool = take (8 * i) (bits_of e) in
    let t : List Bool = take r (drop (8 * i) (bits_of e)) in
    let lw : length w ≡ 8 * i = length-take-le (8 * i) (bits_of e) (omega (arith, length-bits e)) in
    let at : p ≡ 8 * i + r = omega arith in
    let front : pack w ≡ take i e = ap pack (sym (bits-take i e)) ∙ pack-bits (take i e) (take-lt i e b) in
    ap (λ (k : ℕ). stored e (take k (bits_of e) ++ f)) at
    ∙ ap (λ (x : List Bool). stored e (x ++ f)) (take-add (8 * i) r (bits_of e))
    ∙ ap (stored e) (append_assoc w t f)
    ∙ stored-whole e w (t ++ f) i lw
    ∙ ap₂ (λ (a : List ℕ) (x : List Bool). a ++ stored (drop i e) (x ++ f)) front (begun-bits e i r (omega arith) (omega arith))

-- ---- the byte begun, as a number

pub begun-none : (buf : List ℕ) (p : ℕ) → p % 8 ≡ 0 → Begun buf p 0
unfolding field
begun-none buf p z =
    record {
      small = pow_pos (p % 8);
      is = subst (λ (k : ℕ). field k 0 ≡ take k (field 8 (get_or buf (p / 8) 0))) (sym z) refl;
    }

pub begun-shift : (buf : List ℕ) (p : ℕ) → get_or buf (p / 8) 0 < 256 → Begun buf p (get_or buf (p / 8) 0 / 2 ^ (8 - p % 8))
begun-shift buf p h =
    let y : ℕ = get_or buf (p / 8) 0 in
    let r : ℕ = p % 8 in
    let m : ℕ = 8 - r in
    let e : r + m ≡ 8 = omega arith in
    record {
      small = shr_lt r m (subst (λ (k : ℕ). y < 2 ^ k) (sym e) h);
      is = sym (take_at (field r (y / 2 ^ m)) (field m y) r (length-field r (y / 2 ^ m)))
          ∙ ap (take r) (sym (field-split r m y) ∙ ap (λ (k : ℕ). field k y) e);
    }

-- ---- a field behind the byte begun, as a word

module _ {e : List ℕ} {p b : ℕ} (n v : ℕ) (begun : Begun e p b) where
  pub word_lt : n ≤ 56 → b * 2 ^ n + v % 2 ^ n < 2 ^ 64
  word_lt h =
      let hi : b * 2 ^ n < 2 ^ 63 = lt_of_lt_of_le (shl_lt (p % 8) n begun.small) (pow_mono {i = p % 8 + n} {j = 63} (omega arith)) in
      let lo : v % 2 ^ n < 2 ^ 56 = lt_of_lt_of_le (mod-lt v (pow_pos n)) (pow_mono {i = n} {j = 56} h) in
      omega arith

  pub put_word : p ≤ 8 * length e → Bytes e → put_at e p (field n v) ≡ stored_from e (p / 8) (field (p % 8 + n) (b * 2 ^ n + v % 2 ^ n))
  put_word h small =
      put-from e p (field n v) h small
      ∙ ap (stored_from e (p / 8))
      (ap₂ ◌++◌ (sym begun.is) (field-cong n v (v % 2 ^ n) (sym (mod-mod v (2 ^ n))))
      ∙ field-join (p % 8) n b (v % 2 ^ n) (mod-lt v (pow_pos n)))

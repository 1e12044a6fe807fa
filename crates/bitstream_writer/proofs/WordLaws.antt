-- Laws of fields as words: zeros in front and a bit behind, and putting one or two of them.
-- Assumes nothing.
use mathlib.Core.Path.{◌≡◌, refl, sym, ap, ap₂, ◌∙◌}
use mathlib.Core.Bool.{Bool, true, false}
use mathlib.Core.List.{List, [], ◌∷◌, ◌++◌}
use Prim.Native.Nat.{ℕ, suc, ◌+◌, ◌*◌, ◌^◌, ◌≤◌, ◌<◌}
use native.Mathlib.Nat.{lt_of_lt_of_le, mul-le-mul_right}
use native.Mathlib.Omega.{arith}
use lib.ListN.{length, length-append}
use lib.Pow.{pow_mono, pow-add}
use Rattle.bitstream.specs.Bits.{val, field, zeros}
use Rattle.bitstream.specs.Bytes.{put_at}
use Rattle.bitstream.specs.Puts.{Puts}
use Rattle.bitstream.proofs.FieldLaws.{val-lt, length-field, field-join, field-zero, field-widen}
use Rattle.bitstream.proofs.PutLaws.{put-put, puts-at}
use Rattle.bitstream_writer.specs.declared.Word.{Word}
use Rattle.bitstream_writer.specs.Words.{Spells, OneMore, WordOf, IsWord, Joins, word_bits}

-- ---- z zeros, a 1 and w bits more are one field

module _ (z w v : ℕ) (low : v < 2 ^ w) where
  top_lt : 2 ^ w + v < 2 ^ (1 + w)
  top_lt = omega (arith, pow-add 2 1 w)

  pub word-field : field (z + 1 + w) (2 ^ w + v) ≡ zeros z ++ true ∷ field w v
  unfolding field
  word-field =
      let one : 1 * 2 ^ w + v ≡ 2 ^ w + v = omega arith in
      let len : z + (1 + w) ≡ z + 1 + w = omega arith in
      sym (ap (λ (t : List Bool). zeros z ++ t) (field-join 1 w 1 v low ∙ ap (field (1 + w)) one)
      ∙ field-widen z (1 + w) (2 ^ w + v) top_lt
      ∙ ap (λ (n : ℕ). field n (2 ^ w + v)) len)

  pub word-spells : w ≤ 32 → z + 1 + w ≤ 68 → Spells (zeros z ++ true ∷ field w v) (z + 1 + w) (2 ^ w + v)
  word-spells h short =
      record {
        is = word-field;
        fits = lt_of_lt_of_le top_lt (pow_mono (omega arith));
        small = lt_of_lt_of_le top_lt (pow_mono {j = 33} (omega arith));
        short = short;
      }

-- ---- one bit more

bit-field : (b : Bool) → field 1 (val b) ≡ b ∷ []
unfolding field
bit-field true = refl
bit-field false = refl

pub one_more_lem : (len value : ℕ) (bit : Bool) → value < 2 ^ 33 → value < 2 ^ len → OneMore len value bit (len + 1) (2 * value + val bit)
one_more_lem len value bit small fits =
    let p : 2 ^ (len + 1) ≡ 2 ^ len * 2 = pow-add 2 len 1 in
    let v : value * 2 ^ 1 + val bit ≡ 2 * value + val bit = omega arith in
    record {
      is = sym (ap (λ (t : List Bool). field len value ++ t) (sym (bit-field bit)) ∙ field-join len 1 value (val bit) (val-lt bit) ∙ ap (field (len + 1)) v);
      count = refl;
      fits = omega (arith, val-lt bit);
      small = omega (arith, val-lt bit);
    }

-- ---- a word put in two parts, of which the first is zeros

pub put-wide : (buf : List ℕ) (p n m v : ℕ) → p ≤ 8 * length buf → v < 2 ^ m
    → put_at (put_at buf p (field n 0)) (p + n) (field m v) ≡ put_at buf p (field (n + m) v)
put-wide buf p n m v h small =
    ap (λ (k : ℕ). put_at (put_at buf p (field n 0)) (p + k) (field m v)) (sym (length-field n 0))
    ∙ put-put buf p (field n 0) (field m v) h
    ∙ ap (put_at buf p) (ap (λ (t : List Bool). t ++ field m v) (field-zero n) ∙ field-widen n m v small)

-- ---- words that put_word takes

module _ {bs : List Bool} {w : Word} where
  pub word-spelt : {bs' : List Bool} → Spells bs w.len w.bits → bs ≡ bs' → WordOf bs' w
  word-spelt s e = record { is = s.is ∙ e; fits = s.fits; small = omega (arith, s.small); short = omega (arith, s.short) }

  pub word-length : WordOf bs w → length bs ≡ w.len
  word-length s = ap length (sym s.is) ∙ length-field w.len w.bits

  pub is_word : WordOf bs w → IsWord w
  is_word s = record { is = refl; fits = s.fits; small = s.small; short = s.short }

pub word_more : {bs : List Bool} {b : Bool} {n v : ℕ} {w : Word} → Spells bs n v → OneMore n v b w.len w.bits → WordOf (bs ++ (b ∷ [])) w
word_more {b = b} s m =
    record {
      is = m.is ∙ ap (λ (l : List Bool). l ++ (b ∷ [])) s.is;
      fits = m.fits;
      small = m.small;
      short = omega (arith, m.count, s.short);
    }

pub puts_word : {e e' : List ℕ} {p p' : ℕ} (w : Word) → p' ≡ p + w.len → e' ≡ put_at e p (word_bits w) → Puts e p (word_bits w) e' p'
puts_word w a b = puts-at (omega (arith, length-field w.len w.bits)) b

-- ---- two words, and both in one

module _ (a b : Word) (fa : a.bits < 2 ^ a.len) (fb : b.bits < 2 ^ b.len) where
  joined_lt : a.bits * 2 ^ b.len + b.bits < 2 ^ (a.len + b.len)
  joined_lt =
      let top : suc a.bits * 2 ^ b.len ≤ 2 ^ a.len * 2 ^ b.len = mul-le-mul_right (2 ^ b.len) fa in
      omega (arith, fb, pow-add 2 a.len b.len)

  pub joined_short : a.len + b.len ≤ 56 → a.bits * 2 ^ b.len + b.bits < 2 ^ 56
  joined_short h = omega (arith, joined_lt, pow_mono {i = a.len + b.len} {j = 56} h)

  pub joins_lem : Joins a b (record { len = a.len + b.len; bits = a.bits * 2 ^ b.len + b.bits })
  joins_lem = record { is = sym (field-join a.len b.len a.bits b.bits fb); count = refl; fits = joined_lt }

pub pair-length : (a b : Word) → length (word_bits a ++ word_bits b) ≡ a.len + b.len
pair-length a b = length-append (word_bits a) (word_bits b) ∙ ap₂ ◌+◌ (length-field a.len a.bits) (length-field b.len b.bits)

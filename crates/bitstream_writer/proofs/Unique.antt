-- Any two outcomes that a promise allows are equal: a theorem for each public function.
-- Assumes nothing.
use mathlib.Core.Path.{◌≡◌, sym, ap, ◌∙◌}
use mathlib.Core.Bool.{Bool}
use mathlib.Core.List.{List}
use Prim.Native.Nat.{ℕ, ◌+◌, ◌*◌, ◌^◌, ◌<◌}
use native.Mathlib.Nat.{mod-eq_of_lt}
use lib.ListN.{length}
use Rattle.bitstream.specs.Bits.{field, number}
use Rattle.bitstream.specs.Bytes.{bytes_for, put_at, stored}
use Rattle.bitstream.proofs.FieldLaws.{length-field, number-field}
use Rattle.bitstream_writer.specs.declared.Word.{Word}
use Rattle.bitstream_writer.specs.Words.{Spells, OneMore, Joins}

-- put, words::put_word
pub put-unique : (buf : List ℕ) (p n v r r' : ℕ) (b b' : List ℕ) → r ≡ p + n → r' ≡ p + n → b ≡ put_at buf p (field n v) → b' ≡ put_at buf p (field n v)
    → (r ≡ r') × (b ≡ b')
put-unique buf p n v r r' b b' e f g h = (e ∙ sym f, g ∙ sym h)

pub align-byte-unique : (p r r' : ℕ) → r ≡ 8 * bytes_for p → r' ≡ 8 * bytes_for p → r ≡ r'
align-byte-unique p r r' e f = e ∙ sym f

-- a field that spells bits, in as many digits as it has, is one number
spelled-value : (bits : List Bool) (n v : ℕ) → field n v ≡ bits → v < 2 ^ n → v ≡ number bits
spelled-value bits n v e h = sym (mod-eq_of_lt h) ∙ sym (number-field n v) ∙ ap number e

-- a word that spells bits
pub word-unique : (bits : List Bool) {n n' v v' : ℕ} → Spells bits n v → Spells bits n' v' → (n ≡ n') × (v ≡ v')
word-unique bits {n} {n'} {v} {v'} a b = (
  sym (length-field n v) ∙ ap length (a.is ∙ sym b.is) ∙ length-field n' v',
  spelled-value bits n v a.is a.fits ∙ sym (spelled-value bits n' v' b.is b.fits),
)

-- words::with_bit
pub with-bit-unique : (len value : ℕ) (bit : Bool) {n n' v v' : ℕ} → OneMore len value bit n v → OneMore len value bit n' v' → (n ≡ n') × (v ≡ v')
with-bit-unique len value bit {n} {n'} {v} {v'} a b = (
  a.count ∙ sym b.count,
  spelled-value _ n v a.is a.fits ∙ sym (spelled-value _ n' v' b.is b.fits),
)

-- words::join
pub join-unique : (a b : Word) {w w' : Word} → Joins a b w → Joins a b w' → (w.len ≡ w'.len) × (w.bits ≡ w'.bits)
join-unique a b {w} {w'} x y = (
  x.count ∙ sym y.count,
  spelled-value _ w.len w.bits x.is x.fits ∙ sym (spelled-value _ w'.len w'.bits y.is y.fits),
)

-- codes::Coded::count, codes::Coded::write
pub coded-unique : (bits : List Bool) (old : List ℕ) {r r' : ℕ} {b b' : List ℕ} → r ≡ length bits → r' ≡ length bits → b ≡ stored old bits → b' ≡ stored old bits
    → (r ≡ r') × (b ≡ b')
coded-unique bits old e f g h = (e ∙ sym f, g ∙ sym h)

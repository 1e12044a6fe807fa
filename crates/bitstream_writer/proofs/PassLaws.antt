-- Laws of a pass: a word counted, and a code that is being laid, what is laid of it and what is to come.
-- Assumes nothing.
use Rattle.std.proofs.Common.{◌≡◌, ℕ, ◌+◌, ◌≤◌, Bool, List, [], ◌++◌, length, refl, sym, subst, length-append, ap, arith}
use Rattle.bitstream.proofs.FieldLaws.{length-field}
use Rattle.bitstream.specs.Bytes.{stored}
use Rattle.bitstream.specs.Puts.{Puts}
use Rattle.bitstream.proofs.PutLaws.{held_none}
use Rattle.bitstream_writer.specs.declared.Word.{Word}
use Rattle.bitstream_writer.specs.Words.{word_bits}
use Rattle.bitstream_writer.specs.Passes.{PassLaws, Laying, Counts}
use Rattle.bitstream_writer.proofs.WordLaws.{pair-length}

-- a code that is put at the start of a buffer is stored there
pub puts_stored : {old buf : List ℕ} {bits : List Bool} {p : ℕ} → Puts old 0 bits buf p → buf ≡ stored old bits
puts_stored {old = old} x = (x.held old [] (held_none old)).is

pub counts_word : (buf : List ℕ) (p : ℕ) (w : Word) → Counts buf p (word_bits w) buf (p + w.len)
counts_word buf p w = record { next = omega (arith, length-field w.len w.bits); kept = refl }

pub counts_pair : (buf : List ℕ) (p : ℕ) (a b : Word) → Counts buf p (word_bits a ++ word_bits b) buf (p + (a.len + b.len))
counts_pair buf p a b =
    record { next = omega (arith, pair-length a b); kept = refl }

-- what is to come is one of two equal lists
pub laying-at : {Lays : List ℕ → ℕ → List Bool → List ℕ → ℕ → Type 0} {e buf : List ℕ} {p at : ℕ} {whole rest rest' : List Bool} → Laying Lays e p whole buf at rest → rest ≡ rest'
    → Laying Lays e p whole buf at rest'
laying-at {Lays = Lays} {e = e} {buf = buf} {p = p} {at = at} {whole = whole} l s = subst (λ (t : List Bool). Laying Lays e p whole buf at t) s l

module _ {Room : ℕ → ℕ → Type 0} {Lays : List ℕ → ℕ → List Bool → List ℕ → ℕ → Type 0} (laws : PassLaws Room Lays) where
  pub laying-start : (e : List ℕ) (p : ℕ) (whole : List Bool) → Laying Lays e p whole e p whole
  laying-start e p whole = record { left = refl; on = λ x. x }

  -- another code was laid before it
  pub laying-after : {e e₁ buf : List ℕ} {p p₁ at : ℕ} {all a whole rest : List Bool} → all ≡ a ++ whole → Lays e p a e₁ p₁ → Laying Lays e₁ p₁ whole buf at rest
      → Laying Lays e p all buf at rest
  laying-after {e = e} {p = p} {a = a} {whole = whole} s x l =
      record {
        left = omega (arith, l.left, laws.next x, length-append a whole, ap length s);
        on = λ {buf' = b} {p' = q} y. subst (λ (t : List Bool). Lays e p t b q) (sym s) (laws.behind x (l.on y));
      }

  module _ {e buf : List ℕ} {p at : ℕ} {whole rest : List Bool} (l : Laying Lays e p whole buf at rest) where
    pub laying-last : rest ≡ [] → Lays e p whole buf at
    laying-last z = l.on (subst (λ (t : List Bool). Lays buf at t buf at) (sym z) (laws.none buf at))

    module _ (a rest' : List Bool) (s : rest ≡ a ++ rest') where
      pub laying-more : {buf' : List ℕ} {at' : ℕ} → Lays buf at a buf' at' → Laying Lays e p whole buf' at' rest'
      laying-more x =
          record {
            left = omega (arith, l.left, laws.next x, length-append a rest', ap length s);
            on = λ {buf' = b} {p' = q} y. l.on (subst (λ (t : List Bool). Lays buf at t b q) (sym s) (laws.behind x y));
          }

      -- what is next has room where the whole has
      pub laying-room : {k n : ℕ} → p + length whole ≤ n → Room k n → Room k (at + length a)
      laying-room h room = laws.less (omega (arith, l.left, length-append a rest', ap length s)) room

      -- what is next as a word
      pub word-more : (w : Word) {buf' : List ℕ} {at' : ℕ} → word_bits w ≡ a → Lays buf at (word_bits w) buf' at' → Laying Lays e p whole buf' at' rest'
      word-more w {buf' = b} {at' = q} is x = laying-more (subst (λ (t : List Bool). Lays buf at t b q) is x)

      pub word-room : (w : Word) {k n : ℕ} → word_bits w ≡ a → p + length whole ≤ n → Room k n → Room k (at + w.len)
      word-room w is h room = rw (← length-field w.len w.bits, is) (laying-room h room)

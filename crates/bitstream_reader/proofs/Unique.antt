-- Any two outcomes that a promise allows are equal. `bit_pos` and `end_of_data` promise `r ≡ X`: `equal-unique` of `common`.
-- Assumes nothing.
use Prim.Native.Nat.{ℕ}
use mathlib.Core.Path.{◌≡◌, sym, ◌∙◌}
use mathlib.Core.List.{List}
use denote.Ref.{Bor}
use Rattle.answers.specs.Reading.{Reader}
use Rattle.bitstream.specs.Told.{Outcome, told_read}
use Rattle.bitstream.proofs.Unique.{Read, told_read-once}
use Rattle.bitstream_reader.specs.Readers.{outcome_from, advanced}
use Rattle.bitstream_reader.specs.declared.BitReader.{BitReader}
use Rattle.bitstream_reader.specs.declared.Fields.{Fields}

pub new-unique : (s : Bor (List ℕ)) (b b' : BitReader) → (b.payload ≡ s) × (b.at ≡ 0) → (b'.payload ≡ s) × (b'.at ≡ 0) → b ≡ b'
new-unique s b b' e f = λ i. record { payload = (e.0 ∙ sym f.0) i; at = (e.1 ∙ sym f.1) i }

-- of `read_bits` and `read_bit`: the answer, and the reader at exit
pub read-unique : (m : Reader) (b : BitReader) (r r' : Read) (x x' : BitReader)
    → (told_read r ≡ outcome_from m b) × (x ≡ advanced m b) → (told_read r' ≡ outcome_from m b) × (x' ≡ advanced m b) → (r ≡ r') × (x ≡ x')
read-unique m b r r' x x' e f = (told_read-once (outcome_from m b) e.0 f.0, e.1 ∙ sym f.1)

pub first-fields-unique : (o o' : Outcome) (r r' : Fields) → (told_read r.first ≡ o) × (told_read r.second ≡ o') → (told_read r'.first ≡ o) × (told_read r'.second ≡ o') → r ≡ r'
first-fields-unique o o' r r' e f =
    λ i. record { first = told_read-once o {r = r.first} {r' = r'.first} e.0 f.0 i; second = told_read-once o' {r = r.second} {r' = r'.second} e.1 f.1 i }

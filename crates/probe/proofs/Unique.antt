-- Any two outcomes that a promise allows are equal: the functions that read share one promise over the outcome, and so one theorem;
-- so do those that give an entry of a table.
-- Assumes nothing.
use mathlib.Core.Path.{◌≡◌, sym, ◌∙◌}
use mathlib.Core.Bool.{Bool}
use mathlib.Core.List.{List}
use Prim.Native.Nat.{ℕ}
use Rattle.bitstream.specs.Told.{Outcome}
use Rattle.bitstream.specs.Bits.{val}
use Rattle.probe.specs.Bits.{result_of, next_told, put_outcome, put_buffer, align_outcome, Answers}
use Rattle.probe.specs.Numbers.{Number}

-- probe_read_bits, probe_read_bit, probe_zero_prefix, probe_read_exp_golomb, probe_read_combo, and each field of probe_first_fields
pub read-unique : (x : Outcome) {r r' v v' n n' : ℕ} → Answers x r v n → Answers x r' v' n' → (r ≡ r') × (v ≡ v') × (n ≡ n')
read-unique x a b = (a.result-is ∙ sym b.result-is, a.value-is ∙ sym b.value-is, a.next-is ∙ sym b.next-is)

-- probe_end_of_data and probe_is_default
pub flag-unique : (x : Bool) {r r' : ℕ} → r ≡ val x → r' ≡ val x → r ≡ r'
flag-unique x e f = e ∙ sym f

pub put-unique : (buf : List ℕ) (at n v : ℕ) {r r' p p' : ℕ} {b b' : List ℕ}
    → r ≡ result_of (put_outcome buf at n) → r' ≡ result_of (put_outcome buf at n)
    → p ≡ next_told (put_outcome buf at n) → p' ≡ next_told (put_outcome buf at n)
    → b ≡ put_buffer (put_outcome buf at n) buf at n v → b' ≡ put_buffer (put_outcome buf at n) buf at n v
    → (r ≡ r') × (p ≡ p') × (b ≡ b')
put-unique buf at n v e e' f f' g g' = (e ∙ sym e', f ∙ sym f', g ∙ sym g')

pub align-byte-unique : (at : ℕ) {r r' p p' : ℕ} → r ≡ result_of (align_outcome at) → r' ≡ result_of (align_outcome at)
    → p ≡ next_told (align_outcome at) → p' ≡ next_told (align_outcome at) → (r ≡ r') × (p ≡ p')
align-byte-unique at e e' f f' = (e ∙ sym e', f ∙ sym f')

-- probe_scan
pub entry-unique : (x : Number) {r r' v v' : ℕ} → r ≡ x.result → r' ≡ x.result → v ≡ x.value → v' ≡ x.value → (r ≡ r') × (v ≡ v')
entry-unique x e e' f f' = (e ∙ sym e', f ∙ sym f')

-- probe_blocks_per_mb and probe_alpha_code
pub number-unique : (x : Number) {r r' v v' : ℕ} → r ≡ x.result → r' ≡ x.result → v ≡ x.value → v' ≡ x.value → (r ≡ r') × (v ≡ v')
number-unique x e e' f f' = (e ∙ sym e', f ∙ sym f')

-- Any two outcomes that a promise allows are equal: a theorem for each public function.
-- Assumes nothing.
use mathlib.Core.Path.{◌≡◌, refl, sym, ap, ◌∙◌}
use mathlib.Core.Bool.{Bool}
use mathlib.Core.List.{List}
use Prim.Native.Nat.{ℕ}
use lib.ListN.{drop}
use Rattle.bitstream.specs.Bits.{bits_of, ended}
use Rattle.bitstream.specs.Reading.{read_bits, zero_prefix}
use Rattle.bitstream.specs.Told.{Outcome, gives, refusal, told_read, outcome_at}
use Rattle.bitstream.specs.declared.Cursor.{Cursor}
use Rattle.answers.specs.declared.Refusal.{Refusal}
use Rattle.std.specs.Prelude.{Result, Ok, Err}
use Rattle.answers.proofs.Unique.{refusal_of, refusal_of-number}

-- ---- what an answer says tells the answer

-- a read's answer
abbrev pub Read : Type 0
Read = Result (ℕ × Cursor) Refusal

answer_of : Outcome → Read
answer_of (gives v p) = Ok (v, record { at = p })
answer_of (refusal k) = Err (refusal_of k)

answer_of-told : (r : Read) → answer_of (told_read r) ≡ r
unfolding answer_of
answer_of-told (Ok (v, c)) = refl
answer_of-told (Err why) = ap Err (refusal_of-number why)

pub told_read-once : (x : Outcome) {r r' : Read} → told_read r ≡ x → told_read r' ≡ x → r ≡ r'
told_read-once x {r} {r'} e f = sym (answer_of-told r) ∙ ap answer_of (e ∙ sym f) ∙ answer_of-told r'

pub new-unique : (r r' : Cursor) → r.at ≡ 0 → r'.at ≡ 0 → r ≡ r'
new-unique r r' e f = ap {B = Cursor} (λ (p : ℕ). record { at = p }) (e ∙ sym f)

pub read-bits-unique : (n : ℕ) (s : List ℕ) (p : ℕ) (r r' : Read) → told_read r ≡ outcome_at (read_bits n) s p → told_read r' ≡ outcome_at (read_bits n) s p → r ≡ r'
read-bits-unique n s p r r' = told_read-once (outcome_at (read_bits n) s p)

pub read-bit-unique : (s : List ℕ) (p : ℕ) (r r' : Read) → told_read r ≡ outcome_at (read_bits 1) s p → told_read r' ≡ outcome_at (read_bits 1) s p → r ≡ r'
read-bit-unique s p r r' = told_read-once (outcome_at (read_bits 1) s p)

pub zero-prefix-unique : (cap : ℕ) (s : List ℕ) (p : ℕ) (r r' : Read) → told_read r ≡ outcome_at (zero_prefix cap) s p → told_read r' ≡ outcome_at (zero_prefix cap) s p → r ≡ r'
zero-prefix-unique cap s p r r' = told_read-once (outcome_at (zero_prefix cap) s p)

pub end-of-data-unique : (s : List ℕ) (p : ℕ) (r r' : Bool) → r ≡ ended (drop p (bits_of s)) → r' ≡ ended (drop p (bits_of s)) → r ≡ r'
end-of-data-unique s p r r' e f = e ∙ sym f

-- What an answer of the code says of a payload's bits: a reader's, a field's, and a single bit's.
-- Assumes nothing.
use Prim.Native.Nat.{ℕ, ◌+◌, ◌-◌, ◌/◌, ◌%◌, ◌^◌, ◌≤◌, ◌<◌}
use native.Mathlib.Omega.{arith}
use mathlib.Core.Path.{◌≡◌, sym, ap, ◌∙◌}
use mathlib.Core.Bool.{Bool}
use mathlib.Core.List.{List, [], ◌∷◌}
use lib.Dec.{eqb}
use lib.ListN.{length, drop, length-drop}
use Rattle.bitstream.specs.Bits.{field, bits_of}
use Rattle.answers.specs.Reading.{got, refused, Reader}
use Rattle.bitstream.specs.Reading.{read_field, read_bits}
use Rattle.answers.specs.Machine.{Step, refuses}
use Rattle.bitstream.specs.Told.{InPayload, gives, told_read, outcome, outcome_at}
use Rattle.answers.specs.Refusals.{number_of}
use Rattle.bitstream.specs.declared.Cursor.{Cursor}
use Rattle.answers.specs.declared.Refusal.{Refusal}
use Rattle.std.specs.Prelude.{Result, Ok, Err}
use Rattle.bitstream.proofs.ReadLaws.{Local, read_field-short, read_field-all, read_bits-field, field-read_field, read_bits-local, outcome_at-fits, told-got, told-refused}

-- ---- the reader m at bit `at`

-- what it gives and how many bits it takes, as an answer says it
pub told-taken : (m : Reader) (p : List ℕ) (at : ℕ) → InPayload p at → (v k : ℕ) → m (drop at (bits_of p)) ≡ got v (drop k (drop at (bits_of p)))
    → k ≤ length (drop at (bits_of p)) → gives v (at + k) ≡ outcome_at m p at
told-taken m p at pl v k e h =
    let bs : List Bool = drop at (bits_of p) in
    let n : at + (length bs - length (drop k bs)) ≡ at + k = omega (arith, length-drop k bs) in
    sym (outcome_at-fits m p at pl.fits ∙ ap (outcome at bs) e ∙ ap (gives v) n)

module _ (m : Reader) (p : List ℕ) (at : ℕ) (r : Result (ℕ × Cursor) Refusal) (pl : InPayload p at) (e : told_read r ≡ outcome_at m p at) where
  pub read_no : (why : Refusal) → r ≡ Err why → m (drop at (bits_of p)) ≡ refused (number_of why)
  read_no why q = told-refused m p at pl.fits (number_of why) (ap told_read (sym q) ∙ e)

  module _ (local : Local m) (v : ℕ) (c : Cursor) (q : r ≡ Ok (v, c)) where
    taken : (m (drop at (bits_of p)) ≡ got v (drop c.at (bits_of p))) × (at ≤ c.at) × (c.at - at ≤ length (drop at (bits_of p)))
    taken = told-got m p at local pl.fits v c.at (ap told_read (sym q) ∙ e)

    pub read-got : m (drop at (bits_of p)) ≡ got v (drop c.at (bits_of p))
    read-got = taken.0

    pub read-placed : InPayload p c.at
    read-placed = record { fits = pl.fits; within = omega (arith, taken.1, taken.2, length-drop at (bits_of p), pl.within) }

-- ---- a field of w bits

module _ (p : List ℕ) (at w : ℕ) (r : Result (ℕ × Cursor) Refusal) (pl : InPayload p at) (narrow : w ≤ 32) (e : told_read r ≡ outcome_at (read_bits w) p at) where
  abbrev bs : List Bool
  bs = drop at (bits_of p)

  pub field-no : (why : Refusal) → r ≡ Err why → read_field w bs ≡ refused (number_of why)
  field-no why q = sym (read_bits-field w bs narrow) ∙ read_no (read_bits w) p at r pl e why q

  module _ (v : ℕ) (c : Cursor) (q : r ≡ Ok (v, c)) where
    pub field-got : read_field w bs ≡ got v (drop c.at (bits_of p))
    field-got = sym (read_bits-field w bs narrow) ∙ read-got (read_bits w) p at r pl e (read_bits-local w) v c q

    pub field-placed : InPayload p c.at
    field-placed = read-placed (read_bits w) p at r pl e (read_bits-local w) v c q

-- ---- a bit

bit-none : (bs : List Bool) (k : ℕ) → read_field 1 bs ≡ refused k → (bs ≡ []) × (k ≡ 5)
bit-none [] k e =
    let x : refused 5 ≡ refused k = sym (read_field-short 1 [] (omega arith)) ∙ e in
    ((cc), (cc))
bit-none (g ∷ u) k e =
    let x = read_field-all 1 (g ∷ u) (omega arith) in
    absurd (let z : ◌≡◌ {A = ℕ} 0 1 = cc in omega arith)

pub bit-some : (bs : List Bool) (v : ℕ) (t : List Bool) → read_field 1 bs ≡ got v t → bs ≡ eqb v 1 ∷ t
unfolding field
bit-some bs v t e =
    let f = field-read_field 1 bs v t e in
    let small : v < 2 = f.1 in
    let x : v / 2 ^ 0 % 2 ≡ v = omega arith in
    f.0 ∙ ap (λ (n : ℕ). eqb n 1 ∷ t) x

module _ (p : List ℕ) (at : ℕ) (r : Result (ℕ × Cursor) Refusal) (pl : InPayload p at) (e : told_read r ≡ outcome_at (read_bits 1) p at) where
  -- a step that wants a bit is refused where there is none
  pub bit-no : {S O : Type 0} (why : Refusal) → r ≡ Err why → (f : List Bool → Step S O) → f [] ≡ refuses 5 → f (drop at (bits_of p)) ≡ refuses (number_of why)
  bit-no why q f none =
      let x = bit-none (drop at (bits_of p)) (number_of why) (field-no p at 1 r pl (omega arith) e why q) in
      ap f x.0 ∙ none ∙ ap refuses (sym x.1)

  module _ (v : ℕ) (c : Cursor) (q : r ≡ Ok (v, c)) where
    pub bit-got : drop at (bits_of p) ≡ eqb v 1 ∷ drop c.at (bits_of p)
    bit-got = bit-some (drop at (bits_of p)) v (drop c.at (bits_of p)) (field-got p at 1 r pl (omega arith) e v c q)

    pub bit-placed : InPayload p c.at
    bit-placed = field-placed p at 1 r pl (omega arith) e v c q

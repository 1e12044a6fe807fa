-- What the functions over the bit layer give: a result and the numbers that come back.
use Rattle.std.specs.Prelude.{ℕ, ◌+◌, ◌*◌, ◌≡◌, cond, ◌&&◌, List, leb, length}
use Rattle.bitstream.specs.Bits.{field}
use Rattle.bitstream.specs.Bytes.{bytes_for, put_at}
use Rattle.bitstream.specs.Told.{payload_limit, Outcome, gives, refusal}

-- the result, the value and the next position of an outcome
abbrev pub result_of : Outcome → ℕ
result_of (gives v p) = 0
result_of (refusal k) = k

abbrev pub value_of : Outcome → ℕ
value_of (gives v p) = v
value_of (refusal k) = 0

abbrev pub next_told : Outcome → ℕ
next_told (gives v p) = p
next_told (refusal k) = 0

-- a field is put where it is at most 56 bits wide and there is room for it
unfoldable pub put_outcome : List ℕ → ℕ → ℕ → Outcome
put_outcome buf at n =
    cond (leb (length buf) payload_limit && leb n 56)
    (cond (leb (at + n) (8 * length buf)) (gives 0 (at + n)) (refusal 3))
    (refusal 1)

-- a refusal leaves the buffer as it was
abbrev pub put_buffer : Outcome → List ℕ → ℕ → ℕ → ℕ → List ℕ
put_buffer (gives v p) buf at n w = put_at buf at (field n w)
put_buffer (refusal k) buf at n w = buf

unfoldable pub align_outcome : ℕ → Outcome
align_outcome at = cond (leb at (8 * payload_limit)) (gives 0 (8 * bytes_for at)) (refusal 1)

-- a result and two numbers say what an outcome says
pub record Answers (x : Outcome) (result value next : ℕ) : Type 0 where
  pub result-is : result ≡ result_of x
  pub value-is : value ≡ value_of x
  pub next-is : next ≡ next_told x

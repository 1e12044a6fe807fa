-- What the answers of the code say, by document 01's numbers ("Refusal numbers"), and what they are to say.
use Rattle.std.specs.Prelude.{ℕ, ◌+◌, ◌-◌, ◌≤◌, Bool, cond, List, leb, length, drop, Result, Ok, Err}
use Rattle.bitstream.specs.Bits.{bits_of}
use Rattle.answers.specs.Reading.{Parsed, got, refused, Reader}
use Rattle.answers.specs.Refusals.{number_of}
use Rattle.answers.specs.declared.Refusal.{Refusal}
use Rattle.bitstream.specs.declared.Cursor.{Cursor}

-- a payload to decode has at most this many bytes
abbrev pub payload_limit : ℕ
payload_limit = 65536

-- a bit of such a payload, or its end
pub record InPayload (p : List ℕ) (at : ℕ) : Type 0 where
  pub fits : length p ≤ payload_limit
  pub within : at ≤ length (bits_of p)

-- a value and the bit after it, or the number of a refusal
pub data Outcome : Type 0 where
  gives : ℕ → ℕ → Outcome
  refusal : ℕ → Outcome

abbrev pub told_read : Result (ℕ × Cursor) Refusal → Outcome
told_read (Ok (v, c)) = gives v c.at
told_read (Err why) = refusal (number_of why)

-- reading began at bit p, where bs was unread
abbrev pub outcome : ℕ → List Bool → Parsed → Outcome
outcome p bs (got v rest) = gives v (p + (length bs - length rest))
outcome p bs (refused k) = refusal k

-- the outcome x, of a payload that is not too long
unfoldable pub within : List ℕ → Outcome → Outcome
within s x = cond (leb (length s) payload_limit) x (refusal 1)

-- the reader m at bit p of a payload
unfoldable pub outcome_at : Reader → List ℕ → ℕ → Outcome
outcome_at m s p = within s (outcome p (drop p (bits_of s)) (m (drop p (bits_of s))))

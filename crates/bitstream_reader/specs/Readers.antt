-- What the reader object does: it reads at its bit as the definitions of `bitstream` say, and then stands behind what it read; a refusal leaves it where it was.
use Rattle.std.specs.Prelude.{ℕ, List}
use Rattle.answers.specs.Reading.{Reader}
use Rattle.bitstream.specs.Told.{Outcome, gives, refusal, outcome_at}
use Rattle.bitstream_reader.specs.declared.BitReader.{BitReader}

-- the bit at which an outcome leaves a reading that began at p
abbrev pub next_of : ℕ → Outcome → ℕ
next_of p (gives v q) = q
next_of p (refusal k) = p

-- what m gives where b stands
abbrev pub outcome_from : Reader → BitReader → Outcome
outcome_from m b = outcome_at m b.payload.now b.at

-- b once m has read: the payload is the same
abbrev pub advanced : Reader → BitReader → BitReader
advanced m b = record { payload = b.payload; at = next_of b.at (outcome_from m b) }

-- what m' gives behind m, from bit p on
abbrev pub second_at : Reader → Reader → List ℕ → ℕ → Outcome
second_at m m' s p = outcome_at m' s (next_of p (outcome_at m s p))

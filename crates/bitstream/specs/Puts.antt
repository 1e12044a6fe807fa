-- What it is to write on. These relations join what several writes leave in a buffer; a function's own promise is the equation of `put_at`.
use Rattle.std.specs.Prelude.{ℕ, ◌+◌, ◌/◌, ◌%◌, ◌^◌, ◌<◌, ◌≡◌, Bool, List, ◌++◌, length, take, drop, get_or}
use Rattle.bitstream.specs.Bits.{field}
use Rattle.bitstream.specs.Bytes.{stored}

-- buf is old with the code bits at its start, and p is the code's length
pub record Holds (old : List ℕ) (bits : List Bool) (buf : List ℕ) (p : ℕ) : Type 0 where
  pub is : buf ≡ stored old bits
  pub count : length bits ≡ p

-- whatever code buf held up to bit p, buf' holds it with bits behind it, up to bit p'
pub record Puts (buf : List ℕ) (p : ℕ) (bits : List Bool) (buf' : List ℕ) (p' : ℕ) : Type 0 where
  pub next : p' ≡ p + length bits
  pub held : (old : List ℕ) (bs : List Bool) → Holds old bs buf p → Holds old (bs ++ bits) buf' p'

-- what a lent buffer holds once a code is written from byte i on
unfoldable pub stored_from : List ℕ → ℕ → List Bool → List ℕ
stored_from old i bits = take i old ++ stored (drop i old) bits

-- r is the number of the bits before bit p in the byte that p stands in
pub record Begun (buf : List ℕ) (p r : ℕ) : Type 0 where
  pub small : r < 2 ^ (p % 8)
  pub is : field (p % 8) r ≡ take (p % 8) (field 8 (get_or buf (p / 8) 0))

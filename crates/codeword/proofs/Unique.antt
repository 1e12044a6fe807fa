-- Any two outcomes that a promise allows are equal. The words promise `Spells`, which `word-unique` of bitstream_writer covers.
-- Assumes nothing.
use mathlib.Core.Path.{◌≡◌}
use mathlib.Core.List.{List}
use Prim.Native.Nat.{ℕ}
use Rattle.bitstream.specs.Told.{told_read, outcome_at}
use Rattle.bitstream.proofs.Unique.{Read, told_read-once}
use Rattle.codeword.specs.Codewords.{read_code}
use Rattle.codeword.specs.declared.Codebook.{Codebook}

-- Codebook::read
pub read-unique : (cb : Codebook) (s : List ℕ) (p : ℕ) (r r' : Read) → told_read r ≡ outcome_at (read_code cb) s p → told_read r' ≡ outcome_at (read_code cb) s p → r ≡ r'
read-unique cb s p r r' = told_read-once (outcome_at (read_code cb) s p)

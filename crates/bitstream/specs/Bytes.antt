-- Bits as bytes: document 01, "Bits" (zeros fill a code up to a byte) and "Refusal numbers" (what stands behind a code in a buffer
-- stays).
use Rattle.std.specs.Prelude.{ℕ, zero, suc, ◌+◌, ◌/◌, Bool, List, [], ◌∷◌, ◌++◌, length, take, drop}
use Rattle.bitstream.specs.Bits.{number, zeros, bits_of}

-- n / 8 rounded up
abbrev pub bytes_for : ℕ → ℕ
bytes_for n = (n + 7) / 8

-- k bytes, each of the next eight bits, with zero bits behind the last one
unfoldable pub bytes : ℕ → List Bool → List ℕ
bytes zero bs = []
bytes (suc k) bs = number (take 8 (bs ++ zeros 8)) ∷ bytes k (drop 8 bs)

-- a code as bytes
unfoldable pub pack : List Bool → List ℕ
pack bs = bytes (bytes_for (length bs)) bs

-- what the lent buffer old holds once a code is written at its start
unfoldable pub stored : List ℕ → List Bool → List ℕ
stored old bits = pack bits ++ drop (length (pack bits)) old

-- what a lent buffer holds once bits are put at bit p of it: its first p bits and these are the code
unfoldable pub put_at : List ℕ → ℕ → List Bool → List ℕ
put_at buf p bits = stored buf (take p (bits_of buf) ++ bits)

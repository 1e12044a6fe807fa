-- The three codes of a slice: in a buffer, and as payloads.
-- Assumes nothing.
use Prim.Native.Nat.{ℕ, ◌+◌, ◌≤◌}
use native.Mathlib.Omega.{arith}
use mathlib.Core.Path.{◌≡◌}
use mathlib.Core.Bool.{Bool}
use mathlib.Core.List.{List, [], ◌++◌, append_assoc, append-nil}
use lib.IntN.{ℤ}
use lib.ListN.{length, take, drop, replicate}
use lib.Seq.{take_at, drop_at, drop-drop}
use Rattle.answers.specs.Answers.{Size}
use Rattle.bitstream.specs.Bytes.{bytes_for, pack}
use Rattle.bitstream.specs.Told.{payload_limit}
use Rattle.bitstream.proofs.BytesLaws.{length-pack}
use Rattle.slice_shape.specs.Shapes.{is_interlaced, chroma_blocks, Components}
use Rattle.slice_shape.specs.Encoding.{scans_of, codes_of, laid, sizes_of}

-- the codes of a slice's blocks
abbrev pub codes_in : ℕ → ℕ → ℕ → List ℤ → Components (List Bool)
codes_in m f s blocks = let c = chroma_blocks f in codes_of m c (scans_of (is_interlaced s) m c blocks)

-- the bits of each code, and its bytes
abbrev pub lengths_of : Components (List Bool) → Components ℕ
lengths_of codes = record { y = length codes.y; cb = length codes.cb; cr = length codes.cr }

abbrev pub packs : Components (List Bool) → Components (List ℕ)
packs codes = record { y = pack codes.y; cb = pack codes.cb; cr = pack codes.cr }

-- the parts of a buffer where codes of these sizes stand one after another
abbrev pub parts_of : Components Size → List ℕ → Components (List ℕ)
parts_of s buf =
    record { y = take s.y.bytes buf; cb = take s.cb.bytes (drop s.y.bytes buf); cr = take s.cr.bytes (drop (s.y.bytes + s.cb.bytes) buf) }

-- each followed by so many zero bytes
abbrev pub followed : Components (List ℕ) → Components ℕ → Components (List ℕ)
followed p k = record { y = p.y ++ replicate k.y 0; cb = p.cb ++ replicate k.cb 0; cr = p.cr ++ replicate k.cr 0 }

abbrev pub none : Components ℕ
none = record { y = 0; cb = 0; cr = 0 }

pub followed-none : (p : Components (List ℕ)) → followed p none ≡ p
followed-none p = simp append-nil

-- payloads that decoding takes
pub record Payloads (p : Components (List ℕ)) : Type 0 where
  pub fits-y : length p.y ≤ payload_limit
  pub fits-cb : length p.cb ≤ payload_limit
  pub fits-cr : length p.cr ≤ payload_limit

-- to encode there are none
abbrev pub no_payloads : Components (List ℕ)
no_payloads = record { y = []; cb = []; cr = [] }

pub none-fit : Payloads no_payloads
none-fit = record { fits-y = omega arith; fits-cb = omega arith; fits-cr = omega arith }

-- the parts where the codes were laid are their bytes
pub parts-laid : (codes : Components (List Bool)) (rest : List ℕ) → parts_of (sizes_of codes) (laid codes ++ rest) ≡ packs codes
parts-laid codes rest =
    let p : ℕ = bytes_for (length codes.y) in
    let q : ℕ = bytes_for (length codes.cb) in
    simp (append_assoc, ← (drop-drop {A = ℕ} q p), take_at, drop_at, length-pack codes.y, length-pack codes.cb, length-pack codes.cr)

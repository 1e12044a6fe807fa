-- The codes of a slice's components: document 01, "Slice scan" and "Refusal numbers". Arguments are refused in the order 13, 1, 2, 4, 3 over the whole
-- slice, room is for the three codes together, and a refusal leaves the buffer as it was.
use Rattle.std.specs.Prelude.{ℕ, ◌+◌, ◌*◌, Bool, cond, List, ◌++◌, leb, ℤ, length, drop}
use Rattle.answers.specs.Answers.{on_arguments, Size, wrote, needs, declines, Encoding, encoding}
use Rattle.bitstream.specs.Bytes.{pack}
use Rattle.bitstream.specs.Written.{size_of}
use Rattle.entropy_elements.specs.Limits.{in_range}
use Rattle.entropy_elements.specs.Elements.{encode}
use Rattle.slice_scan.specs.Scan.{scanned_of}
use Rattle.slice_shape.specs.Shapes.{is_interlaced, chroma_blocks, blocks_per, Components}
use Rattle.slice_shape.specs.Arguments.{slice_arguments}

-- ---- the codes

-- the scanned lists of a slice's blocks
abbrev pub scans_of : Bool → ℕ → ℕ → List ℤ → Components (List ℤ)
scans_of i m c blocks =
    record { y = scanned_of i m (blocks_per c) 0 4 blocks; cb = scanned_of i m (blocks_per c) 4 c blocks; cr = scanned_of i m (blocks_per c) (4 + c) c blocks }

abbrev pub codes_of : ℕ → ℕ → Components (List ℤ) → Components (List Bool)
codes_of m c lists = record { y = encode (m * 4) lists.y; cb = encode (m * c) lists.cb; cr = encode (m * c) lists.cr }

-- one after another, each from a byte on
abbrev pub laid : Components (List Bool) → List ℕ
laid codes = pack codes.y ++ (pack codes.cb ++ pack codes.cr)

-- ---- the answer, and the buffer

abbrev pub sizes_of : Components (List Bool) → Components Size
sizes_of codes = record { y = size_of codes.y; cb = size_of codes.cb; cr = size_of codes.cr }

abbrev pub needed_for : Components Size → ℕ
needed_for s = s.y.bytes + s.cb.bytes + s.cr.bytes

-- three codes go into a buffer that is long enough for them
unfoldable pub written_slice : Components (List Bool) → List ℕ → Encoding (Components Size)
written_slice codes old =
    cond (leb (needed_for (sizes_of codes)) (length old)) (encoding (wrote (sizes_of codes)) (laid codes ++ drop (needed_for (sizes_of codes)) old))
    (encoding (needs (needed_for (sizes_of codes))) old)

-- ---- encoding

-- the writing of blocks: the range of their coefficients is looked at before the room
unfoldable pub slice_writing_of : List ℤ → ℕ → ℕ → ℕ → List ℕ → Encoding (Components Size)
slice_writing_of blocks m f s old =
    let c = chroma_blocks f in
    cond (in_range blocks) (written_slice (codes_of m c (scans_of (is_interlaced s) m c blocks)) old) (encoding (declines 4) old)

unfoldable pub encode_slice_of : List ℤ → ℕ → ℕ → ℕ → List ℕ → Encoding (Components Size)
encode_slice_of blocks m f s old =
    on_arguments (slice_arguments 1 0 0 0 m f s (length blocks)) (slice_writing_of blocks m f s old) (λ k. encoding (declines k) old)

-- What three lists come to: the blocks of a slice.
use Rattle.std.specs.Prelude.{◌*◌, cond, List, ℤ, take}
use Rattle.entropy_elements.specs.Decoding.{nil}
use Rattle.slice_scan.specs.Scan.{placed_of}
use Rattle.slice_shape.specs.Decoding.{SliceAnswer, all_read, SliceDecoding, slice_decoding}
use Rattle.slice_shape.specs.Shapes.{chroma_blocks, is_interlaced, slice_length, Components}
use Rattle.slice_shape.specs.declared.SliceShape.{SliceShape}

-- the blocks of the lists' components where all were read, or else zeros
abbrev pub settled_slice : SliceShape → SliceAnswer → Components (List ℤ) → SliceDecoding
settled_slice s a lists =
    let m = s.macroblocks in
    let c = chroma_blocks s.chroma in
    slice_decoding a
    (cond (all_read a) (placed_of (is_interlaced s.scan) m c (take (64 * (m * 4)) lists.y) (take (64 * (m * c)) lists.cb) (take (64 * (m * c)) lists.cr))
    (nil (slice_length m c)))

-- The reading of a slice's components: document 01, "Slice scan" and "Refusal numbers". Refused arguments leave the list as it was and name no component.
-- Components are read Y, Cb, Cr; the first refusal met names its component and sets the whole list to zero.
use Rattle.std.specs.Prelude.{ℕ, ◌*◌, Bool, true, false, cond, List, ℤ, length}
use Rattle.answers.specs.Answers.{on_arguments, DecodeAnswer, read, refuse, Decoding}
use Rattle.entropy_elements.specs.Answers.{reading_of}
use Rattle.entropy_elements.specs.Decoding.{nil}
use Rattle.slice_scan.specs.Scan.{placed_of}
use Rattle.slice_shape.specs.Shapes.{is_interlaced, chroma_blocks, slice_length, Components}
use Rattle.slice_shape.specs.Arguments.{slice_arguments}

-- done with the bits read of each component; or a refusal's component (0 none, 1 Y, 2 Cb, 3 Cr) and number
pub data SliceAnswer : Type 0 where
  read_all : Components ℕ → SliceAnswer
  refuse_in : ℕ → ℕ → SliceAnswer

pub record SliceDecoding : Type 0 where
  pub answer : SliceAnswer
  pub list : List ℤ

abbrev pub slice_decoding : SliceAnswer → List ℤ → SliceDecoding
slice_decoding a l = record { answer = a; list = l }

-- ---- three readings are joined

-- the answers of Y, Cb and Cr: all are read, or the first refusal stands
abbrev pub joined_answer : DecodeAnswer → DecodeAnswer → DecodeAnswer → SliceAnswer
joined_answer (refuse k) cb cr = refuse_in 1 k
joined_answer (read y) (refuse k) cr = refuse_in 2 k
joined_answer (read y) (read cb) (refuse k) = refuse_in 3 k
joined_answer (read y) (read cb) (read cr) = read_all (record { y = y; cb = cb; cr = cr })

abbrev pub all_read : SliceAnswer → Bool
all_read (read_all bits) = true
all_read (refuse_in component k) = false

-- and the list: the blocks of the three lists, or where a component is refused zeros
unfoldable pub joined_slice : Bool → ℕ → ℕ → Decoding ℤ → Decoding ℤ → Decoding ℤ → SliceDecoding
joined_slice i m c y cb cr =
    let a = joined_answer y.answer cb.answer cr.answer in
    slice_decoding a (cond (all_read a) (placed_of i m c y.list cb.list cr.list) (nil (slice_length m c)))

-- ---- decoding

-- the reading of three payloads
abbrev pub slice_reading_of : List ℕ → List ℕ → List ℕ → ℕ → ℕ → ℕ → SliceDecoding
slice_reading_of y cb cr m f s =
    let c = chroma_blocks f in joined_slice (is_interlaced s) m c (reading_of y (m * 4)) (reading_of cb (m * c)) (reading_of cr (m * c))

unfoldable pub decode_slice_of : List ℕ → List ℕ → List ℕ → ℕ → ℕ → ℕ → List ℤ → SliceDecoding
decode_slice_of y cb cr m f s old =
    on_arguments (slice_arguments 1 (length y) (length cb) (length cr) m f s (length old)) (slice_reading_of y cb cr m f s) (λ k. slice_decoding (refuse_in 0 k) old)

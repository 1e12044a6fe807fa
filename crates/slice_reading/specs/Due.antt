-- What the code spares itself: a component behind a refused one need not be read.
use Rattle.std.specs.Prelude.{ℕ, ◌*◌, ◌≡◌, List, ℤ, drop}
use Rattle.answers.specs.Answers.{DecodeAnswer, read, refuse}
use Rattle.entropy_elements.specs.Answers.{reading_of}
use Rattle.slice_shape.specs.Shapes.{chroma_blocks, zero_lists, Components}
use Rattle.slice_shape.specs.declared.SliceShape.{SliceShape}

abbrev pub due_behind : DecodeAnswer → ℕ → ℕ
due_behind (read bits) blocks = blocks
due_behind (refuse k) blocks = 0

-- the blocks of Cb that are due behind Y's payload, and those of Cr behind both
abbrev pub cb_due : SliceShape → List ℕ → ℕ
cb_due s y = due_behind (reading_of y (s.macroblocks * 4)).answer (s.macroblocks * chroma_blocks s.chroma)

abbrev pub cr_due : SliceShape → List ℕ → List ℕ → ℕ
cr_due s y cb = due_behind (reading_of cb (s.macroblocks * chroma_blocks s.chroma)).answer (cb_due s y)

-- the lists of Cb and Cr, of zeros at first, are behind what is due as they were: nothing more was read into them. Of a reading that is thrown away this
-- says nothing.
pub record Spared (s : SliceShape) (from-y from-cb : List ℕ) (lists : Components (List ℤ)) : Type 0 where
  pub cb : drop (64 * cb_due s from-y) lists.cb ≡ drop (64 * cb_due s from-y) zero_lists.cb
  pub cr : drop (64 * cr_due s from-y from-cb) lists.cr ≡ drop (64 * cr_due s from-y from-cb) zero_lists.cr

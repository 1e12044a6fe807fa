-- The arguments of a slice's coder: document 01, "What the cart keeps" and "Refusal numbers". They are refused in the order 13, 1, 2, over the whole slice,
-- before anything is read or written.
use Rattle.std.specs.Prelude.{ℕ, ◌*◌, ◌≤◌, ◌≡◌, Bool, cond, ◌&&◌, leb, eqb}
use Rattle.answers.specs.Answers.{ArgumentsAnswer, fit, unfit}
use Rattle.bitstream.specs.Told.{payload_limit}
use Rattle.slice_shape.specs.Shapes.{known_chroma, known_scan, chroma_blocks, in_limit, slice_length, InSliceLimits}

-- no payload of these lengths is too long
abbrev pub payloads_fit : ℕ → ℕ → ℕ → Bool
payloads_fit y cb cr = leb y payload_limit && leb cb payload_limit && leb cr payload_limit

-- payloads of y, cb and cr bytes (none to encode), m macroblocks, chroma format f, scan s, and n values for the blocks, `each` for a coefficient: 1, or
-- its 4 bytes
unfoldable pub slice_arguments : ℕ → ℕ → ℕ → ℕ → ℕ → ℕ → ℕ → ℕ → ArgumentsAnswer
slice_arguments each y cb cr m f s n =
    cond (known_chroma f && known_scan s)
    (cond (in_limit m && payloads_fit y cb cr) (cond (eqb n (each * slice_length m (chroma_blocks f))) fit (unfit 2)) (unfit 1))
    (unfit 13)

-- what is left where they are taken, for the code within; c is the chroma format's blocks
pub record TakenSlice (each y cb cr m c n : ℕ) : Type 0 where
  pub few : InSliceLimits m c
  pub fits-y : y ≤ payload_limit
  pub fits-cb : cb ≤ payload_limit
  pub fits-cr : cr ≤ payload_limit
  pub full : n ≡ each * slice_length m c

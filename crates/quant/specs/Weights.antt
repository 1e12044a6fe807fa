-- Weight matrices: document 01, "Matrices"; RDD 36, 7.3. A pair is one record of two tables of 64 weights, luma and chroma.
use Rattle.std.specs.Prelude.{ℕ, ◌+◌, ◌-◌, ◌*◌, ◌/◌, min, max, Bool, not, cond, ◌&&◌, List, map, leb, bytes_eq, Result, Ok, Err}
use Rattle.std.specs.List.{list_all}
use Rattle.answers.specs.Refusals.{number_of}
use Rattle.quant.specs.Tables.{fours, perceptual_luma, perceptual_chroma, proxy_luma, proxy_chroma, lt_weights, standard_weights, hq_weights}
use Rattle.quant.specs.declared.NoBlend.{NoBlend}
use Rattle.quant.specs.declared.QuantMatrices.{QuantMatrices}

-- ---- tables

-- every weight is 2..63
unfoldable pub valid_table : List ℕ → Bool
valid_table = list_all (λ w. leb 2 w && leb w 63)

-- ---- pairs

unfoldable pub weights_valid : QuantMatrices → Bool
weights_valid m = valid_table m.luma && valid_table m.chroma

-- whether a header carries a table for luma, and one for chroma: where it carries none, luma is all fours and chroma is luma's
unfoldable pub loads_luma : QuantMatrices → Bool
loads_luma m = not (bytes_eq m.luma fours)

unfoldable pub loads_chroma : QuantMatrices → Bool
loads_chroma m = not (bytes_eq m.chroma m.luma)

unfoldable pub is_default : QuantMatrices → Bool
is_default m = bytes_eq m.luma fours && bytes_eq m.chroma fours

abbrev pub flat_pair : QuantMatrices
flat_pair = record { luma = fours; chroma = fours }

abbrev pub perceptual_pair : QuantMatrices
perceptual_pair = record { luma = perceptual_luma; chroma = perceptual_chroma }

abbrev pub proxy_pair : QuantMatrices
proxy_pair = record { luma = proxy_luma; chroma = proxy_chroma }

abbrev pub lt_pair : QuantMatrices
lt_pair = record { luma = lt_weights; chroma = lt_weights }

abbrev pub standard_pair : QuantMatrices
standard_pair = record { luma = standard_weights; chroma = standard_weights }

abbrev pub hq_pair : QuantMatrices
hq_pair = record { luma = hq_weights; chroma = hq_weights }

-- ---- blends

-- of four and the perceptual weight w, for number p from 1 to 8
unfoldable pub blended : ℕ → ℕ → ℕ
blended p w = ((8 - p) * 4 + p * w + 4) / 8

-- held to 2..63
unfoldable pub blend_weight : ℕ → ℕ → ℕ
blend_weight p w = max 2 (min 63 (blended p w))

unfoldable pub blend_table : ℕ → List ℕ → List ℕ
blend_table p l = map (blend_weight p) l

abbrev pub blend_pair : ℕ → QuantMatrices
blend_pair p = record { luma = blend_table p perceptual_luma; chroma = blend_table p perceptual_chroma }

-- the answer by document 01's numbers
pub data BlendAnswer : Type 0 where
  blends : BlendAnswer
  no_blend : ℕ → BlendAnswer

-- an answer, and the pair that comes with it
pub record Blending : Type 0 where
  pub answer : BlendAnswer
  pub pair : QuantMatrices

abbrev pub answered : BlendAnswer → QuantMatrices → Blending
answered a m = record { answer = a; pair = m }

-- what an answer says; a refusal brings a pair as well
abbrev pub told_blend : Result QuantMatrices NoBlend → Blending
told_blend (Ok m) = answered blends m
told_blend (Err none) = answered (no_blend (number_of none.why)) none.pair

-- any number but 1 to 8 is an unknown selector, and the pair is then the flat one
unfoldable pub blend_of : ℕ → Blending
blend_of p = cond (leb 1 p && leb p 8) (answered blends (blend_pair p)) (answered (no_blend 13) flat_pair)

-- ---- the scale of a quantization index (RDD 36, Table 15)

unfoldable pub qscale_of : ℕ → ℕ
qscale_of i = cond (leb i 128) i (128 + 4 * (i - 128))

-- What the definitions give, by computation: the flags of each pair, blends, the scale at the ends of its two ranges.
-- Assumes nothing.
use mathlib.Core.Path.{◌≡◌, refl}
use mathlib.Core.Bool.{Bool, true, false}
use mathlib.Core.List.{List, [], ◌∷◌, map}
use Rattle.quant.specs.Weights.{valid_table, weights_valid, loads_luma, loads_chroma, is_default, flat_pair, perceptual_pair, proxy_pair, lt_pair, standard_pair, hq_pair, blended, blend_weight, blend_table, blend_pair, qscale_of}
use Rattle.quant.specs.declared.QuantMatrices.{QuantMatrices}

-- of a pair: whether it is valid, whether luma and chroma are loaded, whether it is the default
flags : QuantMatrices → List Bool
flags m = weights_valid m ∷ loads_luma m ∷ loads_chroma m ∷ is_default m ∷ []

-- flat loads nothing; perceptual and proxy load both, the others luma alone
pairs : map flags (flat_pair ∷ perceptual_pair ∷ proxy_pair ∷ lt_pair ∷ standard_pair ∷ hq_pair ∷ [])
    ≡ (true ∷ false ∷ false ∷ true ∷ [])
    ∷ (true ∷ true ∷ true ∷ false ∷ [])
    ∷ (true ∷ true ∷ true ∷ false ∷ [])
    ∷ (true ∷ true ∷ false ∷ false ∷ [])
    ∷ (true ∷ true ∷ false ∷ false ∷ [])
    ∷ (true ∷ true ∷ false ∷ false ∷ [])
    ∷ []
unfolding flags weights_valid valid_table loads_luma loads_chroma is_default
pairs = refl

-- document 01's own: p = 4, W = 2
blend-4-2 : blend_weight 4 2 ≡ 3
unfolding blend_weight blended
blend-4-2 = refl

-- number 8 is the perceptual pair itself
blend-8 : blend_pair 8 ≡ perceptual_pair
unfolding blend_table blend_weight blended
blend-8 = refl

scales : map qscale_of (0 ∷ 1 ∷ 128 ∷ 129 ∷ 224 ∷ 255 ∷ []) ≡ 0 ∷ 1 ∷ 128 ∷ 132 ∷ 512 ∷ 636 ∷ []
unfolding qscale_of
scales = refl

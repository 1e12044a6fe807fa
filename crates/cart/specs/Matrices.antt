-- What the functions on weight matrices give a caller in C.
use Rattle.std.specs.Prelude.{ℕ, List}
use Rattle.quant.specs.declared.QuantMatrices.{QuantMatrices}
use Rattle.quant.specs.Weights.{BlendAnswer, blends, no_blend, Blending}

-- two tables as a pair
abbrev pub pair_of : List ℕ → List ℕ → QuantMatrices
pair_of l c = record { luma = l; chroma = c }

-- a blend's result, and the tables after it: where it is refused, they are as they were
abbrev pub blend_result : BlendAnswer → ℕ
blend_result blends = 0
blend_result (no_blend k) = k

abbrev pub blended_pair : Blending → QuantMatrices → QuantMatrices
blended_pair b old = go b.answer
  where
    go : BlendAnswer → QuantMatrices
    go blends = b.pair
    go (no_blend k) = old

-- Any two outcomes that a promise allows are equal: of `QuantMatrices::blend`. The others promise `r ≡ X`, which `equal-unique` of common covers.
-- Assumes nothing.
use mathlib.Core.Path.{◌≡◌, refl, sym, ap, ◌∙◌}
use Prim.Native.Nat.{ℕ}
use Rattle.answers.proofs.Unique.{refusal_of, refusal_of-number}
use Rattle.std.specs.Prelude.{Result, Ok, Err}
use Rattle.answers.specs.declared.Refusal.{Refusal}
use Rattle.quant.specs.Weights.{BlendAnswer, blends, no_blend, Blending, told_blend, blend_of}
use Rattle.quant.specs.declared.NoBlend.{NoBlend}
use Rattle.quant.specs.declared.QuantMatrices.{QuantMatrices}

-- ---- what an answer says tells the answer

blend_from : BlendAnswer → QuantMatrices → Result QuantMatrices NoBlend
blend_from blends m = Ok m
blend_from (no_blend k) m = Err (record { why = refusal_of k; pair = m })

blend_from-told : (r : Result QuantMatrices NoBlend) → blend_from (told_blend r).answer (told_blend r).pair ≡ r
unfolding blend_from
blend_from-told (Ok m) = refl
blend_from-told (Err none) = ap (λ (why : Refusal). Err (record { why = why; pair = none.pair })) (refusal_of-number none.why)

pub blend-unique : (n : ℕ) (r r' : Result QuantMatrices NoBlend) → told_blend r ≡ blend_of n → told_blend r' ≡ blend_of n → r ≡ r'
blend-unique n r r' e f = sym (blend_from-told r) ∙ ap (λ (b : Blending). blend_from b.answer b.pair) (e ∙ sym f) ∙ blend_from-told r'

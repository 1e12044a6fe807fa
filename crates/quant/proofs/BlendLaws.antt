-- Laws of blends: a blended weight is in range without being held to it; a table that is filled from the front, or mapped by a closure.
-- Assumes nothing.
use mathlib.Core.Path.{◌≡◌, refl, sym, ap, ap₂, ◌∙◌, subst}
use mathlib.Core.Bool.{true}
use mathlib.Core.List.{List, ◌∷◌, ◌++◌, append-nil, map}
use mathlib.Core.Logic.{inl, inr}
use Prim.Native.Nat.{ℕ, zero, suc, ◌+◌, ◌≤◌, ◌<◌}
use native.Mathlib.Nat.{mul-le-mul_left}
use native.Mathlib.Omega.{arith}
use denote.Param.Members.{Mut, Called}
use lib.ListN.{length, get_or, take, drop, set, drop_of_length-le}
use lib.Seq.{take_all, append_snoc}
use Rattle.std.specs.Array.{MapsFrom, IsMapOf}
use Rattle.std.proofs.lemmas.Bool.{cases_eq}
use Rattle.std.proofs.lemmas.List.{ext_get_or, length-map, get_or-map, take_more_set, drop_more}
use Rattle.quant.specs.Tables.{perceptual_luma, perceptual_chroma}
use Rattle.quant.specs.Weights.{valid_table, blended, blend_weight, blend_table}
use Rattle.quant.proofs.WeightLaws.{valid-each}

-- ---- a weight

-- holding it to 2..63 never acts on a weight that is in range
pub blend-held : (p w : ℕ) → p ≤ 8 → 2 ≤ w → w ≤ 63 → blend_weight p w ≡ blended p w
unfolding blend_weight blended
blend-held p w h low high = omega (arith, mul-le-mul_left p low, mul-le-mul_left p high)

-- so it acts at no entry of the perceptual tables, whose weights are in range by computation
pub perceptual-held : (p k : ℕ) → p ≤ 8 → k < 64
    → (blend_weight p (get_or perceptual_luma k 0) ≡ blended p (get_or perceptual_luma k 0)) × (blend_weight p (get_or perceptual_chroma k 0) ≡ blended p (get_or perceptual_chroma k 0))
unfolding valid_table
perceptual-held p k h i = (at perceptual_luma refl refl, at perceptual_chroma refl refl)
  where
    at : (t : List ℕ) → valid_table t ≡ true → length t ≡ 64 → blend_weight p (get_or t k 0) ≡ blended p (get_or t k 0)
    at t v l = let e = valid-each t v k (omega arith) in blend-held p (get_or t k 0) h e.0 e.1

-- ---- a table, filled from the front: the first i entries of out, and what is still to blend, are the blended table

module _ (p : ℕ) (t out : List ℕ) (i : ℕ) (held : take i out ++ blend_table p (drop i t) ≡ blend_table p t) where
  pub blend-more : {v : ℕ} → i < length t → i < length out → v ≡ blend_weight p (get_or t i 0) → take (i + 1) (set out i v) ++ blend_table p (drop (i + 1) t) ≡ blend_table p t
  unfolding blend_table
  blend-more {v} h k e =
      let rest : List ℕ = blend_table p (drop (i + 1) t) in
      ap (λ (l : List ℕ). l ++ rest) (take_more_set out i v k)
      ∙ append_snoc (take i out) v rest
      ∙ ap (λ (x : ℕ). take i out ++ x ∷ rest) e
      ∙ ap (λ (l : List ℕ). take i out ++ blend_table p l) (sym (drop_more t i 0 h))
      ∙ held

  pub blend-all : length t ≤ i → length out ≤ i → out ≡ blend_table p t
  unfolding blend_table
  blend-all h k =
      sym (append-nil out)
      ∙ ap₂ (λ (l r : List ℕ). l ++ blend_table p r) (sym (take_all i out k)) (sym (drop_of_length-le t h))
      ∙ held

-- ---- a table, by a closure that each call leaves as it was

module _ {F : Type 0} (g : Mut F (ℕ × Unit {0}) ℕ) (h : ℕ → ℕ) (f : F) (gives : (x y : ℕ) (q : F) → Called g f (x, tt) y q → (q ≡ f) × (y ≡ h x)) where
  mapped_from : (xs ys : List ℕ) (i n : ℕ) → MapsFrom g f xs ys i n → (k : ℕ) → i ≤ k → k < i + n → get_or ys k 0 ≡ h (get_or xs k 0)
  mapped_from xs ys i zero m k a b = absurd (omega arith)
  mapped_from xs ys i (suc n) (q, x, y, stood, stands, call, rest) k a b =
      elim (cases_eq k i) [
        | inl e ↦ rw e (stands.1 0 ∙ (gives x y q call).1 ∙ ap h (sym (stood.1 0)))
        | inr e ↦ mapped_from xs ys (i + 1) n (subst (λ (p : F). MapsFrom g p xs ys (i + 1) n) (gives x y q call).0 rest) k (omega arith) (omega arith)
      ]

  pub mapped : (xs ys : List ℕ) (n : ℕ) → IsMapOf g f xs ys n → length xs ≡ n → ys ≡ map h xs
  mapped xs ys n m l =
      ext_get_or 0 ys (map h xs) (m.long ∙ sym l ∙ sym (length-map xs h))
      (λ k b. mapped_from xs ys 0 n m.each k (omega arith) (omega arith) ∙ sym (get_or-map h xs k 0 0 (omega arith)))

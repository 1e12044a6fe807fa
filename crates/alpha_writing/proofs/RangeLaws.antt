-- The laws of a sample's range, a sample at a time.
-- Assumes nothing.
use Prim.Native.Nat.{ℕ, zero, suc, ◌+◌, ◌≤◌, ◌<◌}
use native.Mathlib.Numerals.{add-one}
use native.Mathlib.Omega.{arith}
use mathlib.Core.Path.{◌≡◌, sym, ap, ◌∙◌}
use mathlib.Core.Bool.{Bool, true, not, ◌&&◌, ◌||◌}
use mathlib.Core.List.{List, [], ◌∷◌}
use lib.Dec.{leb, ltb}
use lib.ListN.{length, drop, get_or, drop_of_length-le}
use lib.Seq.{drop-cons}
use borrow.Author.Tests.{leb-true}
use Rattle.common.proofs.Flags.{found-more, found_all}
use Rattle.alpha_elements.specs.declared.AlphaChannelType.{AlphaChannelType}
use Rattle.alpha_elements.specs.Kinds.{mask_of}
use Rattle.alpha_elements.specs.Limits.{samples_in_range}
use Rattle.alpha_elements.proofs.StepLaws.{and-true}

-- one sample after another: w is whether one before i is out of range
module _ (k : AlphaChannelType) (ss : List ℕ) (i : ℕ) (w : Bool) where
  pub range-more : (m : ℕ) → m ≡ mask_of k → i < length ss
      → (w || not (samples_in_range k (drop i ss))) ≡ ((w || ltb m (get_or ss i 0)) || not (samples_in_range k (drop (i + 1) ss)))
  unfolding samples_in_range
  range-more m e h =
      ap (λ (l : List ℕ). w || not (samples_in_range k l)) (drop-cons ss i 0 h ∙ ap (λ (n : ℕ). get_or ss i 0 ∷ drop n ss) (sym (add-one i)))
      ∙ ap (λ (x : ℕ). w || not (leb (get_or ss i 0) x && samples_in_range k (drop (i + 1) ss))) (sym e)
      ∙ found-more w (get_or ss i 0) m (samples_in_range k (drop (i + 1) ss))

  pub range_all : not (samples_in_range k ss) ≡ (w || not (samples_in_range k (drop i ss))) → length ss ≤ i → w ≡ not (samples_in_range k ss)
  unfolding samples_in_range
  range_all e h = sym (e ∙ ap (λ (l : List ℕ). w || not (samples_in_range k l)) (drop_of_length-le ss h) ∙ found_all w)

-- what it says of the first sample, and of those behind some
pub first-in_range : (k : AlphaChannelType) (ss : List ℕ) → samples_in_range k ss ≡ true → get_or ss 0 0 ≤ mask_of k
unfolding samples_in_range
first-in_range k [] e = omega arith
first-in_range k (s ∷ ss) e = leb-true s (mask_of k) (and-true (leb s (mask_of k)) (samples_in_range k ss) e).0

pub range_drop : (k : AlphaChannelType) (n : ℕ) (ss : List ℕ) → samples_in_range k ss ≡ true → samples_in_range k (drop n ss) ≡ true
unfolding samples_in_range
range_drop k zero ss e = e
range_drop k (suc n) [] e = e
range_drop k (suc n) (s ∷ ss) e = range_drop k n ss (and-true (leb s (mask_of k)) (samples_in_range k ss) e).1

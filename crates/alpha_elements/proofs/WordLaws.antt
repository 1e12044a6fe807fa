-- Laws of differences and runs as codewords: each is the low bits of one number; and the cases of a difference, where p is one more than the previous
-- value.
-- Assumes nothing.
use Prim.Native.Nat.{ℕ, zero, suc, ◌+◌, ◌-◌, ◌*◌, ◌%◌, ◌^◌, ◌≤◌, ◌<◌}
use native.Mathlib.Nat.{lt_of_lt_of_le}
use native.Mathlib.Omega.{arith}
use mathlib.Core.Path.{◌≡◌, sym, ap, ◌∙◌, subst}
use mathlib.Core.Bool.{Bool, true, false}
use mathlib.Core.List.{List, ◌∷◌, ◌++◌}
use lib.IntN.{pos, negsuc, ◌-ℤ◌}
use lib.Pow.{pow_mono}
use Rattle.bitstream.specs.Bits.{val, field, zeros}
use Rattle.bitstream.proofs.FieldLaws.{val-lt, field-zero, field-widen}
use Rattle.bitstream_writer.specs.Words.{Spells}
use Rattle.bitstream_writer.proofs.WordLaws.{word-spells, one_more_lem}
use Rattle.alpha_elements.specs.declared.AlphaChannelType.{AlphaChannelType}
use Rattle.alpha_elements.specs.Kinds.{width_of, small_width_of, limit_of, mask_of}
use Rattle.alpha_elements.specs.Limits.{run_limit}
use Rattle.alpha_elements.specs.Values.{previous_of}
use Rattle.alpha_elements.specs.Elements.{AlphaElement, small_element, escaped_element, run_bits, alpha_element_bits, difference_element}
use Rattle.alpha_elements.proofs.KindLaws.{pow-width, pow_small, sizes}
use Rattle.alpha_elements.proofs.ValueLaws.{sub-ge, sub-lt, residue-pos, residue-small, residue-negsuc}
use Rattle.alpha_elements.proofs.ElementLaws.{difference-small, difference-none, difference-far, run-one, run_short, run_long}

-- ---- a difference

module _ (k : AlphaChannelType) where
  pub escaped-spells : (v : ℕ) → v ≤ mask_of k → Spells (alpha_element_bits k (escaped_element v)) (width_of k + 1) (mask_of k + 1 + v)
  unfolding alpha_element_bits
  escaped-spells v h =
      let s = sizes k in
      let l : 0 + 1 + width_of k ≡ width_of k + 1 = omega arith in
      let w = word-spells 0 (width_of k) v (omega (arith, pow-width k)) (omega (arith, s.width)) (omega (arith, s.width)) in
      subst (λ (n : ℕ). Spells (true ∷ field (width_of k) v) n (mask_of k + 1 + v)) l
      (subst (λ (x : ℕ). Spells (true ∷ field (width_of k) v) (0 + 1 + width_of k) (x + v)) (pow-width k) w)

  pub small-spells : (m : ℕ) (g : Bool) → m < limit_of k → Spells (alpha_element_bits k (small_element m g)) (small_width_of k + 2) (2 * m + val g)
  unfolding alpha_element_bits
  small-spells m g h =
      let n : ℕ = small_width_of k in
      let s = sizes k in
      let low : m < 2 ^ n = omega (arith, pow_small k) in
      let o = one_more_lem n m g (omega (arith, s.limit, s.mask)) low in
      let l : 1 + (n + 1) ≡ n + 2 = omega arith in
      record {
        is = sym (ap {B = List Bool} (λ t. false ∷ t) (sym o.is) ∙ field-widen 1 (n + 1) (2 * m + val g) o.fits ∙ ap (λ (i : ℕ). field i (2 * m + val g)) l);
        fits = lt_of_lt_of_le o.fits (pow_mono (omega arith));
        small = omega (arith, s.limit, s.mask, val-lt g);
        short = omega (arith, s.small);
      }

-- ---- a run

spells-wide : (z w v : ℕ) → v < 2 ^ w → w ≤ 33 → z + w ≤ 68 → Spells (zeros z ++ field w v) (z + w) v
spells-wide z w v h g l =
    record {
      is = sym (field-widen z w v h);
      fits = lt_of_lt_of_le h (pow_mono (omega arith));
      small = lt_of_lt_of_le h (pow_mono {j = 33} g);
      short = l;
    }

pub one-spells : (n : ℕ) → n ≡ 1 → Spells (run_bits n) 1 1
unfolding field
one-spells n e = rw (e, run-one) (word-spells 0 0 0 (omega arith) (omega arith) (omega arith))

pub short-spells : (n : ℕ) → 1 < n → n ≤ 16 → Spells (run_bits n) 5 (n - 1)
short-spells n h g = rw (run_short n h g) (spells-wide 1 4 (n - 1) (omega arith) (omega arith) (omega arith))

pub long-spells : (n : ℕ) → 16 < n → n ≤ run_limit → Spells (run_bits n) 16 (n - 1)
long-spells n h g = rw (run_long n (omega arith) h, field-zero) (spells-wide 5 11 (n - 1) (omega arith) (omega arith) (omega arith))

-- ---- the cases of a difference

-- the difference itself
previous-up : (p v : ℕ) → p ≤ v → pos v -ℤ previous_of p ≡ pos (v + 1 - p)
previous-up zero v h = let e : v + 1 ≡ v + 1 - 0 = omega arith in ap pos e
previous-up (suc q) v h = let e : v - q ≡ v + 1 - suc q = omega arith in sub-ge v q (omega arith) ∙ ap pos e

previous-same : (p v : ℕ) → v < p → p - 1 - v ≡ 0 → pos v -ℤ previous_of p ≡ pos 0
previous-same zero v h e = absurd (omega arith)
previous-same (suc q) v h e = let f : v - q ≡ 0 = omega arith in sub-ge v q (omega arith) ∙ ap pos f

previous-down : (p v : ℕ) → v < p → 0 < p - 1 - v → pos v -ℤ previous_of p ≡ negsuc (p - 1 - v - 1)
previous-down zero v h g = absurd (omega arith)
previous-down (suc q) v h g = let e : q - suc v ≡ suc q - 1 - v - 1 = omega arith in sub-lt v q (omega arith) ∙ ap negsuc e

module _ (k : AlphaChannelType) (p v : ℕ) where
  abbrev is : AlphaElement → Type 0
  is e = difference_element k (pos v -ℤ previous_of p) ≡ e

  pub up_small : p ≤ v → v + 1 - p ≤ limit_of k → is (small_element (v + 1 - p - 1) false)
  up_small h g = ap (difference_element k) (previous-up p v h) ∙ difference-small k (pos (v + 1 - p)) (omega arith) g

  pub up-far : p ≤ v → limit_of k < v + 1 - p → is (escaped_element ((v + 1 - p) % (mask_of k + 1)))
  up-far h g =
      ap (difference_element k) (previous-up p v h)
      ∙ difference-far k (pos (v + 1 - p)) g
      ∙ ap escaped_element (residue-pos (2 ^ width_of k) (v + 1 - p) ∙ ap (λ (m : ℕ). (v + 1 - p) % m) (pow-width k))

  pub same : v < p → p - 1 - v ≡ 0 → is (escaped_element 0)
  same h e =
      ap (difference_element k) (previous-same p v h e)
      ∙ difference-none k (pos 0) (omega arith)
      ∙ ap escaped_element (residue-small (2 ^ width_of k) 0 (omega (arith, pow-width k)))

  pub down-small : v < p → 0 < p - 1 - v → p - 1 - v ≤ limit_of k → is (small_element (p - 1 - v - 1) true)
  down-small h z g =
      let e : suc (p - 1 - v - 1) - 1 ≡ p - 1 - v - 1 = omega arith in
      ap (difference_element k) (previous-down p v h z)
      ∙ difference-small k (negsuc (p - 1 - v - 1)) (omega arith) (omega arith)
      ∙ ap (λ (m : ℕ). small_element m true) e

  pub down-far : v < p → 0 < p - 1 - v → p ≤ mask_of k + 1 → limit_of k < p - 1 - v → is (escaped_element (mask_of k + 1 - (p - 1 - v)))
  down-far h z b g =
      let w = pow-width k in
      let e : 2 ^ width_of k - 1 - (p - 1 - v - 1) ≡ mask_of k + 1 - (p - 1 - v) = omega arith in
      ap (difference_element k) (previous-down p v h z)
      ∙ difference-far k (negsuc (p - 1 - v - 1)) (omega arith)
      ∙ ap escaped_element (residue-negsuc (2 ^ width_of k) (p - 1 - v - 1) (omega arith) ∙ e)

-- Laws of samples and differences: a sample is its previous value and its difference, in either form, and how it is computed over natural numbers.
-- Assumes nothing.
use Prim.Native.Nat.{ℕ, zero, suc, ◌+◌, ◌-◌, ◌%◌, ◌^◌, ◌≤◌, ◌<◌}
use native.Mathlib.Nat.{mod-eq_of_lt, mod-lt, mod_self, add-mod_left}
use native.Mathlib.Omega.{arith}
use native.Mathlib.Decide.{dec_le}
use mathlib.Core.Path.{◌≡◌, refl, sym, ap, ◌∙◌}
use mathlib.Core.Bool.{Bool, true, false, cond}
use lib.Dec.{ltb}
use lib.Pow.{pow_pos}
use lib.IntN.{ℤ, pos, negsuc, nat_abs, ◌+ℤ◌, ◌-ℤ◌}
use borrow.Author.Tests.{lt-ltb, le-ltb, ltb-true, ltb-false}
use Rattle.common.proofs.Choices.{cond_yes, cond_no}
use Rattle.common.proofs.Integers.{add_back}
use Rattle.codeword_signs.specs.Signs.{signed, is_negative}
use Rattle.alpha_elements.specs.declared.AlphaChannelType.{AlphaChannelType}
use Rattle.alpha_elements.specs.Kinds.{width_of, limit_of, mask_of}
use Rattle.alpha_elements.specs.Values.{residue, sample_of, previous_of}
use Rattle.alpha_elements.proofs.KindLaws.{pow-width, sizes}

-- ---- differences of natural numbers

pub sub-ge : (s q : ℕ) → q ≤ s → pos s -ℤ pos q ≡ pos (s - q)
sub-ge s zero h = let e : s + 0 ≡ s - 0 = omega arith in ap pos e
sub-ge s (suc q) h = cond_no _ _ (le-ltb s (suc q) h)

pub sub-lt : (s q : ℕ) → s < q → pos s -ℤ pos q ≡ negsuc (q - suc s)
sub-lt s zero h = absurd (omega arith)
sub-lt s (suc q) h = cond_yes _ _ (lt-ltb s (suc q) h)

pub signed_is : (d : ℤ) → 1 ≤ nat_abs d → signed (is_negative d) (nat_abs d - 1) ≡ d
signed_is (pos zero) h = absurd (omega arith)
signed_is (pos (suc a)) h = let e : suc a - 1 ≡ a = omega arith in ap (λ (x : ℕ). pos (suc x)) e
signed_is (negsuc a) h = let e : suc a - 1 ≡ a = omega arith in ap (λ (x : ℕ). negsuc x) e

-- ---- residues

module _ (m : ℕ) where
  pub residue-lt : (z : ℤ) → 0 < m → residue m z < m
  unfolding residue
  residue-lt (pos a) h = mod-lt a h
  residue-lt (negsuc a) h = omega (arith, mod-lt a h)

  pub residue-pos : (a : ℕ) → residue m (pos a) ≡ a % m
  unfolding residue
  residue-pos a = refl

  pub residue-small : (a : ℕ) → a < m → residue m (pos a) ≡ a
  residue-small a h = residue-pos a ∙ mod-eq_of_lt h

  pub residue-negsuc : (a : ℕ) → a < m → residue m (negsuc a) ≡ m - 1 - a
  unfolding residue
  residue-negsuc a h = ap (λ (x : ℕ). m - 1 - x) (mod-eq_of_lt h)

  -- a natural number behind the previous value, of which p is one more
  pub residue-add : (p x : ℕ) → 0 < m → residue m (previous_of p +ℤ pos x) ≡ (p + (m - 1) + x) % m
  residue-add zero zero h =
      let e : 0 + (m - 1) + 0 ≡ m - 1 - 0 = omega arith in
      residue-negsuc 0 h ∙ sym (ap (λ (i : ℕ). i % m) e ∙ mod-eq_of_lt (omega arith))
  residue-add zero (suc x) h =
      let e : 0 + (m - 1) + suc x ≡ m + x = omega arith in
      let f : suc x - 1 ≡ x = omega arith in
      ap (residue m) (cond_no _ _ (le-ltb (suc x) 1 (omega arith)) ∙ ap pos f) ∙ residue-pos x ∙ sym (ap (λ (i : ℕ). i % m) e ∙ add-mod_left m x)
  residue-add (suc q) x h =
      let e : suc q + (m - 1) + x ≡ m + (q + x) = omega arith in
      residue-pos (q + x) ∙ sym (ap (λ (i : ℕ). i % m) e ∙ add-mod_left m (q + x))

  -- a natural number before it
  pub residue-sub : (p x : ℕ) → p ≤ m → suc x < m → residue m (previous_of p +ℤ negsuc x) ≡ (p + (m - 1) - suc x) % m
  residue-sub zero x h g =
      let e : 0 + (m - 1) - suc x ≡ m - 1 - suc x = omega arith in
      let f : suc (0 + x) ≡ suc x = omega arith in
      ap (λ (i : ℕ). residue m (negsuc i)) f ∙ residue-negsuc (suc x) g ∙ sym (ap (λ (i : ℕ). i % m) e ∙ mod-eq_of_lt (omega arith))
  residue-sub (suc q) x h g = go (ltb q (suc x)) refl
    where
      go : (t : Bool) → ltb q (suc x) ≡ t → residue m (cond t (negsuc (suc x - suc q)) (pos (q - suc x))) ≡ (suc q + (m - 1) - suc x) % m
      go true t =
          let l = ltb-true q (suc x) t in
          let e : suc q + (m - 1) - suc x ≡ m - 1 - (suc x - suc q) = omega arith in
          residue-negsuc (suc x - suc q) (omega arith) ∙ sym (ap (λ (i : ℕ). i % m) e ∙ mod-eq_of_lt (omega arith))
      go false t =
          let l = ltb-false q (suc x) t in
          let e : suc q + (m - 1) - suc x ≡ m + (q - suc x) = omega arith in
          residue-pos (q - suc x) ∙ sym (ap (λ (i : ℕ). i % m) e ∙ add-mod_left m (q - suc x))

-- ---- a sample over natural numbers, where p is one more than the previous value

module _ (k : AlphaChannelType) (p : ℕ) where
  width-pos : 0 < 2 ^ width_of k
  width-pos = pow_pos (width_of k)

  pub sample-add : (x : ℕ) → sample_of k (previous_of p) (pos x) ≡ (p + mask_of k + x) % (mask_of k + 1)
  unfolding sample_of
  sample-add x =
      let e : mask_of k + 1 - 1 ≡ mask_of k = omega arith in
      residue-add (2 ^ width_of k) p x width-pos
      ∙ ap (λ (w : ℕ). (p + (w - 1) + x) % w) (pow-width k)
      ∙ ap (λ (w : ℕ). (p + w + x) % (mask_of k + 1)) e

  pub sample-up : (x : ℕ) → sample_of k (previous_of p) (signed false x) ≡ (p + x) % (mask_of k + 1)
  sample-up x =
      let e : p + mask_of k + suc x ≡ mask_of k + 1 + (p + x) = omega arith in
      sample-add (suc x) ∙ ap (λ (i : ℕ). i % (mask_of k + 1)) e ∙ add-mod_left (mask_of k + 1) (p + x)

  pub sample-down : (x : ℕ) → p ≤ mask_of k + 1 → x < limit_of k → sample_of k (previous_of p) (signed true x) ≡ (p + mask_of k - (x + 1)) % (mask_of k + 1)
  unfolding sample_of
  sample-down x h g =
      let e : p + (mask_of k + 1 - 1) - suc x ≡ p + mask_of k - (x + 1) = omega arith in
      let w = pow-width k in
      let s = sizes k in
      residue-sub (2 ^ width_of k) p x (omega arith) (omega (arith, s.limit))
      ∙ ap (λ (w : ℕ). (p + (w - 1) - suc x) % w) (pow-width k)
      ∙ ap (λ (i : ℕ). i % (mask_of k + 1)) e

pub sample-lt : (k : AlphaChannelType) (p d : ℤ) → sample_of k p d < 2 ^ width_of k
unfolding sample_of
sample-lt k p d = residue-lt (2 ^ width_of k) (p +ℤ d) (pow_pos (width_of k))

-- ---- a sample's own difference gives it back

-- a previous value: -1, or a sample
abbrev pub Previous : ℕ → ℤ → Type 0
Previous m (pos q) = q < m
Previous m (negsuc zero) = Unit {0}
Previous m (negsuc (suc a)) = ⊥

residue-over : (m s : ℕ) → s < m → residue m (pos (m + s)) ≡ s
residue-over m s h = residue-pos m (m + s) ∙ add-mod_left m s ∙ mod-eq_of_lt h

residue-start : (m s : ℕ) → s < m → residue m (negsuc 0 +ℤ pos (residue m (pos (s + 1)))) ≡ s
residue-start m s b = elim (dec_le (suc (s + 1)) m) [ yes g ↦ low g | no g ↦ top (full g) ]
  where
    full : ¬ (suc (s + 1) ≤ m) → s + 1 ≡ m
    full g = omega arith

    low : suc (s + 1) ≤ m → residue m (negsuc 0 +ℤ pos (residue m (pos (s + 1)))) ≡ s
    low g =
        let e : 0 + (m - 1) + (s + 1) ≡ m + s = omega arith in
        ap (λ (x : ℕ). residue m (negsuc 0 +ℤ pos x)) (residue-small m (s + 1) g)
        ∙ residue-add m 0 (s + 1) (omega arith)
        ∙ ap (λ (x : ℕ). x % m) e ∙ add-mod_left m s ∙ mod-eq_of_lt b

    top : s + 1 ≡ m → residue m (negsuc 0 +ℤ pos (residue m (pos (s + 1)))) ≡ s
    top e =
        let z : residue m (pos (s + 1)) ≡ 0 = ap (λ (x : ℕ). residue m (pos x)) e ∙ residue-pos m m ∙ mod_self m in
        let w : m - 1 - 0 ≡ s = omega arith in
        ap (λ (x : ℕ). residue m (negsuc 0 +ℤ pos x)) z ∙ residue-negsuc m 0 (omega arith) ∙ w

residue-next : (m q s : ℕ) → q < m → s < m → residue m (pos q +ℤ pos (residue m (pos s -ℤ pos q))) ≡ s
residue-next m q s h b = elim (dec_le q s) [ yes g ↦ up g | no g ↦ down (turn g) ]
  where
    turn : ¬ (q ≤ s) → s < q
    turn g = omega arith

    up : q ≤ s → residue m (pos q +ℤ pos (residue m (pos s -ℤ pos q))) ≡ s
    up g =
        let v : residue m (pos s -ℤ pos q) ≡ s - q = ap (residue m) (sub-ge s q g) ∙ residue-small m (s - q) (omega arith) in
        let w : q + (s - q) ≡ s = omega arith in
        ap (λ (x : ℕ). residue m (pos (q + x))) v ∙ ap (λ (x : ℕ). residue m (pos x)) w ∙ residue-small m s b

    down : s < q → residue m (pos q +ℤ pos (residue m (pos s -ℤ pos q))) ≡ s
    down g =
        let v : residue m (pos s -ℤ pos q) ≡ m - 1 - (q - suc s) = ap (residue m) (sub-lt s q g) ∙ residue-negsuc m (q - suc s) (omega arith) in
        let w : q + (m - 1 - (q - suc s)) ≡ m + s = omega arith in
        ap (λ (x : ℕ). residue m (pos (q + x))) v ∙ ap (λ (x : ℕ). residue m (pos x)) w ∙ residue-over m s b

module _ (k : AlphaChannelType) (s : ℕ) (fits : s < 2 ^ width_of k) where
  -- as it is
  pub sample-difference : (p : ℤ) → sample_of k p (pos s -ℤ p) ≡ s
  unfolding sample_of
  sample-difference p = ap (residue (2 ^ width_of k)) (add_back p (pos s)) ∙ residue-small (2 ^ width_of k) s fits

  -- mod 2^w
  pub sample-residue : (p : ℤ) → Previous (2 ^ width_of k) p → sample_of k p (pos (residue (2 ^ width_of k) (pos s -ℤ p))) ≡ s
  unfolding sample_of
  sample-residue (negsuc (suc a)) h = absurd h
  sample-residue (negsuc zero) h = residue-start (2 ^ width_of k) s fits
  sample-residue (pos q) h = residue-next (2 ^ width_of k) q s h fits

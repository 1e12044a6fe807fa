-- Laws of small combinations: how wide a suffix and how large a base can be, and what the code makes of them.
-- Assumes nothing.
use Rattle.std.proofs.Common.{◌≡◌, ℕ, ◌+◌, ◌-◌, ◌*◌, ◌%◌, ◌^◌, ◌<◌, ◌≤◌, cond, leb, sym, refl, ap, ◌∙◌, mul-le-mul, pow-suc, add-one, arith, pow_mono, le-leb}
use native.Mathlib.Decide.{dec_le}
use borrow.Author.Tests.{lt-leb}
use Rattle.common.proofs.Choices.{cond_yes, cond_no}
use Rattle.bitstream.specs.Windows.{shown}
use Rattle.codeword.specs.Codewords.{width, base}
use Rattle.codeword.specs.Words.{InUse}
use Rattle.codeword.specs.declared.Codebook.{Codebook}
use Rattle.codeword.specs.declared.Codebook.TheVariants.{ExpGolomb, RiceExp}
use Rattle.codeword.proofs.CodeLaws.{width_low, base-low, width-high, base-high}
use Rattle.codeword_peek.specs.Peeks.{combo_of, as_book, Small}

-- ---- exp-Golomb is a combination

exp-widths : (k z : ℕ) → width (ExpGolomb k) z ≡ width (RiceExp 0 k (k + 1)) z
unfolding width
exp-widths k z = go (dec_le z 0)
  where
    go : Dec (z ≤ 0) → z + k ≡ cond (leb z 0) k (z - (0 + 1) + (k + 1))
    go (yes h) = let e : z + k ≡ k = omega arith in e ∙ sym (cond_yes _ _ (le-leb z 0 h))
    go (no h) = let e : z + k ≡ z - (0 + 1) + (k + 1) = omega arith in e ∙ sym (cond_no _ _ (lt-leb z 0 (omega arith)))

exp-bases : (k z : ℕ) → base (ExpGolomb k) z ≡ base (RiceExp 0 k (k + 1)) z
unfolding base
exp-bases k z = go (dec_le z 0)
  where
    go : Dec (z ≤ 0) → 2 ^ (z + k) - 2 ^ k ≡ cond (leb z 0) (z * 2 ^ k) ((0 + 1) * 2 ^ k + (2 ^ (z - (0 + 1) + (k + 1)) - 2 ^ (k + 1)))
    go (yes h) =
        let z0 : z ≡ 0 = omega arith in
        let a : z + k ≡ k = omega arith in
        let e : 2 ^ k - 2 ^ k ≡ 0 * 2 ^ k = omega arith in
        ap (λ (i : ℕ). 2 ^ i - 2 ^ k) a ∙ e ∙ ap (λ (i : ℕ). i * 2 ^ k) (sym z0) ∙ sym (cond_yes _ _ (le-leb z 0 h))
    go (no h) =
        let a : z + k ≡ z - (0 + 1) + (k + 1) = omega arith in
        let up : 2 ^ (k + 1) ≤ 2 ^ (z - (0 + 1) + (k + 1)) = pow_mono (omega arith) in
        let two : 2 ^ (k + 1) ≡ 2 ^ k * 2 = ap (λ (i : ℕ). 2 ^ i) (add-one k) ∙ pow-suc 2 k in
        let e : 2 ^ (z - (0 + 1) + (k + 1)) - 2 ^ k ≡ (0 + 1) * 2 ^ k + (2 ^ (z - (0 + 1) + (k + 1)) - 2 ^ (k + 1)) = omega arith in
        ap (λ (i : ℕ). 2 ^ i - 2 ^ k) a ∙ e ∙ sym (cond_no _ _ (lt-leb z 0 (omega arith)))

-- the same suffix follows the zeros of a codebook and of its combination
pub combo-widths : (cb : Codebook) (z : ℕ) → width (as_book (combo_of cb)) z ≡ width cb z
unfolding combo_of
combo-widths (ExpGolomb k) z = sym (exp-widths k z)
combo-widths (RiceExp q r e) z = refl

pub combo-bases : (cb : Codebook) (z : ℕ) → base (as_book (combo_of cb)) z ≡ base cb z
unfolding combo_of
combo-bases (ExpGolomb k) z = sym (exp-bases k z)
combo-bases (RiceExp q r e) z = refl

pub combo-small : (cb : Codebook) → InUse cb → Small (combo_of cb)
unfolding combo_of
combo-small (ExpGolomb k) u = record { last = omega arith; rice = u; exp = omega arith }
combo-small (RiceExp q r e) u = record { last = u.0; rice = omega (arith, u.1); exp = omega (arith, u.2) }

-- ---- a small combination behind q zeros

-- either way of reading on
module _ (last r e q : ℕ) where
  abbrev book : Codebook
  book = RiceExp last r e

  -- how long the codeword is; the second number may have wrapped where it is not taken
  pub length-picked : (far : ℕ) → last ≤ 2 → far < 2 ^ 32 → (far + last) % 2 ^ 32 ≡ 2 * q + e → cond (leb q last) (q + 1 + r) far ≡ q + 1 + width book q
  length-picked far hl small wraps = go (dec_le q last)
    where
      go : Dec (q ≤ last) → cond (leb q last) (q + 1 + r) far ≡ q + 1 + width book q
      go (yes h) = cond_yes (q + 1 + r) far (le-leb q last h) ∙ ap (λ (x : ℕ). q + 1 + x) (sym (width_low last r e q h))
      go (no h) =
          let f : far ≡ q + 1 + (q - (last + 1) + e) = omega arith in
          cond_no (q + 1 + r) far (lt-leb q last (omega arith)) ∙ f ∙ ap (λ (x : ℕ). q + 1 + x) (sym (width-high last r e q (omega arith)))

  module _ (hl : last ≤ 2) (hr : r ≤ 5) (he : e ≤ 6) where
    pub width-le : q ≤ 64 → width book q ≤ 70
    width-le h = go (dec_le q last)
      where
        go : Dec (q ≤ last) → width book q ≤ 70
        go (yes l) = omega (arith, width_low last r e q l)
        go (no l) = omega (arith, width-high last r e q (omega arith))

    -- a codeword that a word shows
    pub width-short : q + 1 + width book q ≤ shown → width book q ≤ 30
    width-short short = go (dec_le q last)
      where
        go : Dec (q ≤ last) → width book q ≤ 30
        go (yes l) = omega (arith, width_low last r e q l)
        go (no l) = omega (arith, width-high last r e q (omega arith))

    few : (m : ℕ) → m ≤ 3 → m * 2 ^ r ≤ 96
    few m h = mul-le-mul {n₁ = m} {m₁ = 2 ^ r} {n₂ = 3} {m₂ = 2 ^ 5} h (pow_mono hr)

    pub base-small : base book q ≤ 96 + 2 ^ width book q
    base-small = go (dec_le q last)
      where
        go : Dec (q ≤ last) → base book q ≤ 96 + 2 ^ width book q
        go (yes l) = omega (arith, base-low last r e q l, few q (omega arith))
        go (no l) =
            let w : 2 ^ width book q ≡ 2 ^ (q - (last + 1) + e) = ap (λ (i : ℕ). 2 ^ i) (width-high last r e q (omega arith)) in
            omega (arith, base-high last r e q (omega arith), few (last + 1) (omega arith))

    -- what the code adds to the codeword's number, and what it takes off
    module _ (m k x : ℕ) (em : m ≡ cond (leb q last) q (last + 1)) (ek : k ≡ cond (leb q last) r e) (low : 2 ^ width book q ≤ x) where
      abbrev Value : Type 0
      Value = (m * 2 ^ r ≤ 96) × (k ≤ 6) × (2 ^ k ≤ x + m * 2 ^ r) × (x + m * 2 ^ r - 2 ^ k ≡ base book q + (x - 2 ^ width book q))

      pub value-picked : Value
      value-picked = go (dec_le q last)
        where
          go : Dec (q ≤ last) → Value
          go (yes near) =
              let m-is : m ≡ q = em ∙ cond_yes q (last + 1) (le-leb q last near) in
              let k-is : k ≡ r = ek ∙ cond_yes r e (le-leb q last near) in
              let a : m * 2 ^ r ≡ base book q = ap (λ (i : ℕ). i * 2 ^ r) m-is ∙ sym (base-low last r e q near) in
              let w : 2 ^ k ≡ 2 ^ width book q = ap (λ (i : ℕ). 2 ^ i) (k-is ∙ sym (width_low last r e q near)) in
              (few m (omega arith), omega arith, omega arith, omega arith)
          go (no h) =
              let far : last < q = omega arith in
              let m-is : m ≡ last + 1 = em ∙ cond_no q (last + 1) (lt-leb q last far) in
              let k-is : k ≡ e = ek ∙ cond_no r e (lt-leb q last far) in
              let a : m * 2 ^ r ≡ (last + 1) * 2 ^ r = ap (λ (i : ℕ). i * 2 ^ r) m-is in
              let f : 2 ^ k ≡ 2 ^ e = ap (λ (i : ℕ). 2 ^ i) k-is in
              let w : 2 ^ width book q ≡ 2 ^ (q - (last + 1) + e) = ap (λ (i : ℕ). 2 ^ i) (width-high last r e q far) in
              let up : 2 ^ e ≤ 2 ^ (q - (last + 1) + e) = pow_mono (omega arith) in
              let b : base book q ≡ (last + 1) * 2 ^ r + (2 ^ (q - (last + 1) + e) - 2 ^ e) = base-high last r e q far in
              (few m (omega arith), omega arith, omega arith, omega arith)

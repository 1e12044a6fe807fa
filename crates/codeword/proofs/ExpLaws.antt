-- Laws of the logarithm and of exp-Golomb codewords: which codeword n has, that each n below 2^32 has one, and its length.
-- Assumes nothing.
use mathlib.Core.Path.{◌≡◌, sym, ap, ap₂, ◌∙◌}
use mathlib.Core.Bool.{true, false}
use mathlib.Core.List.{◌∷◌, ◌++◌}
use Prim.Native.Nat.{ℕ, suc, ◌+◌, ◌-◌, ◌*◌, ◌^◌, ◌≤◌, ◌<◌}
use native.Mathlib.Nat.{pow-suc}
use native.Mathlib.Omega.{arith}
use native.Mathlib.Decide.{dec_le}
use lib.Pow.{pow_pos, pow_mono}
use lib.Count.{count_leading_zeros, leading_top, leading_unique}
use lib.ListN.{length, length-append, length-replicate}
use Rattle.bitstream.specs.Bits.{field, zeros}
use Rattle.bitstream.proofs.FieldLaws.{length-field}
use Rattle.codeword.specs.Codewords.{log2, exp_golomb, exp_length}

-- ---- the logarithm

pub log2-is : (l x : ℕ) → l < 64 → 2 ^ l ≤ x → x < 2 ^ suc l → log2 x ≡ l
unfolding log2
log2-is l x h low high =
    let e : 63 - l ≡ count_leading_zeros 64 x = leading_unique 64 x (63 - l) (suc l) (omega arith) high (omega (arith, pow-suc 2 l)) in
    let back : 63 - (63 - l) ≡ l = omega arith in
    ap (λ (i : ℕ). 63 - i) (sym e) ∙ back

-- ---- exp-Golomb of n, where n is 2^(z + k) - 2^k and a rest v

pow-grow : (z k : ℕ) → 2 ^ k ≤ 2 ^ (z + k)
pow-grow z k = let h : k ≤ z + k = omega arith in pow_mono h

module _ (k n z v : ℕ) (sum : n ≡ 2 ^ (z + k) - 2 ^ k + v) (small : v < 2 ^ (z + k)) (narrow : z + k < 64) where
  pub exp-log : log2 (n + 2 ^ k) ≡ z + k
  exp-log = log2-is (z + k) (n + 2 ^ k) narrow (omega (arith, pow-grow z k)) (omega (arith, pow-grow z k, pow-suc 2 (z + k)))

  pub exp-form : exp_golomb k n ≡ zeros z ++ true ∷ field (z + k) v
  unfolding exp_golomb
  exp-form =
      let ez : z + k - k ≡ z = omega arith in
      let ev : n + 2 ^ k - 2 ^ (z + k) ≡ v = omega (arith, pow-grow z k) in
      ap (λ (i : ℕ). zeros (i - k) ++ true ∷ field i (n + 2 ^ k - 2 ^ i)) exp-log
      ∙ ap₂ (λ (a b : ℕ). zeros a ++ true ∷ field (z + k) b) ez ev

-- ---- each n below 2^32 is such a sum

not-above : (a b : ℕ) → (suc b ≤ a → ⊥) → a ≤ b
not-above a b f = go (dec_le a b)
  where
    go : Dec (a ≤ b) → a ≤ b
    go (yes h) = h
    go (no h) = absurd (f (omega arith))

pub exp-exists : (k n : ℕ) → k ≤ 32 → n < 2 ^ 32 → (z : ℕ) × (v : ℕ) × (n ≡ 2 ^ (z + k) - 2 ^ k + v) × (v < 2 ^ (z + k)) × (z + k ≤ 32)
exp-exists k n hk hn =
    let top = leading_top 64 (n + 2 ^ k) (omega (arith, pow_pos k)) (omega (arith, pow_mono {i = k} {j = 32} hk)) in
    let l : ℕ = top.0 in
    let lo : 2 ^ l ≤ n + 2 ^ k = top.2 in
    let hi : n + 2 ^ k < 2 ^ suc l = top.3 in
    let kl : k ≤ l = not-above k l (λ s. let p : 2 ^ suc l ≤ 2 ^ k = pow_mono s in omega arith) in
    let l32 : l ≤ 32 = not-above l 32 (λ s. let p : 2 ^ 33 ≤ 2 ^ l = pow_mono s in omega (arith, pow_mono {i = k} {j = 32} hk)) in
    let z : ℕ = l - k in
    let ez : z + k ≡ l = omega arith in
    let v : ℕ = n + 2 ^ k - 2 ^ l in
    let ep : 2 ^ (z + k) ≡ 2 ^ l = ap (λ (i : ℕ). 2 ^ i) ez in
    let kp : 2 ^ k ≤ 2 ^ l = pow_mono kl in
    (z, v, omega arith, omega (arith, pow-suc 2 l), omega arith)

-- ---- the length

pub exp-length : (k n : ℕ) → k ≤ 32 → n < 2 ^ 32 → length (exp_golomb k n) ≡ exp_length k n
unfolding exp_length
exp-length k n hk hn =
    let x = exp-exists k n hk hn in
    let z : ℕ = x.0 in
    let v : ℕ = x.1 in
    let narrow : z + k < 64 = omega (arith, x.4) in
    let sums : z + suc (z + k) ≡ 2 * (z + k) + 1 - k = omega arith in
    ap length (exp-form k n z v x.2 x.3 narrow)
    ∙ length-append (zeros z) (true ∷ field (z + k) v)
    ∙ ap₂ (λ (a b : ℕ). a + suc b) (length-replicate z false) (length-field (z + k) v)
    ∙ sums
    ∙ ap (λ (l : ℕ). 2 * l + 1 - k) (sym (exp-log k n z v x.2 x.3 narrow))

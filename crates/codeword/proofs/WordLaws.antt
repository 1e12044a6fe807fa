-- Laws of codewords as fields: every codeword is the low bits of one number, as many as its length says.
-- Assumes nothing.
use mathlib.Core.Path.{◌≡◌, sym, ap, ◌∙◌}
use mathlib.Core.Bool.{Bool}
use mathlib.Core.List.{List, ◌++◌}
use Prim.Native.Nat.{ℕ, ◌+◌, ◌-◌, ◌*◌, ◌/◌, ◌%◌, ◌^◌, ◌≤◌, ◌<◌}
use native.Mathlib.Nat.{lt_of_lt_of_le, mod-lt, mul-le-mul, div-lt_iff_lt-mul}
use native.Mathlib.Omega.{arith}
use lib.Pow.{pow_pos, pow_mono}
use Rattle.bitstream.specs.Bits.{zeros}
use Rattle.bitstream.proofs.FieldLaws.{field-widen}
use Rattle.bitstream_writer.specs.Words.{Spells}
use Rattle.bitstream_writer.proofs.WordLaws.{word-spells}
use Rattle.codeword.specs.Codewords.{log2, exp_golomb, combo, exp_length}
use Rattle.codeword.proofs.ExpLaws.{exp-log, exp-form, exp-exists}
use Rattle.codeword.proofs.CodeLaws.{combo-low, combo-high}

-- ---- exp-Golomb: n + 2^k

module _ (k n : ℕ) (order : k ≤ 5) (fits : n < 2 ^ 32) where
  pub exp-small : n + 2 ^ k < 2 ^ 33
  exp-small = omega (arith, pow_mono {i = k} {j = 5} order)

  parts : (z : ℕ) × (v : ℕ) × (n ≡ 2 ^ (z + k) - 2 ^ k + v) × (v < 2 ^ (z + k)) × (z + k ≤ 32)
  parts = exp-exists k n (omega arith) fits

  pub exp-order : k ≤ log2 (n + 2 ^ k)
  exp-order = let x = parts in omega (arith, exp-log k n x.0 x.1 x.2 x.3 (omega (arith, x.4)))

  pub exp-spells : (len value : ℕ) → len ≡ exp_length k n → value ≡ n + 2 ^ k → Spells (exp_golomb k n) len value × (len ≤ 65)
  unfolding exp_length
  exp-spells len value e f =
      let x = parts in
      let z : ℕ = x.0 in
      let v : ℕ = x.1 in
      let narrow : z + k < 64 = omega (arith, x.4) in
      let log = exp-log k n z v x.2 x.3 narrow in
      let l : len ≡ z + 1 + (z + k) = omega arith in
      let y : value ≡ 2 ^ (z + k) + v = omega (arith, pow_mono {i = k} {j = z + k} (omega arith), x.2) in
      (rw (exp-form k n z v x.2 x.3 narrow, l, y) (word-spells z (z + k) v x.3 x.4 (omega (arith, x.4))), omega (arith, x.4))

-- ---- a combination: below the limit 2^r + n mod 2^r, and from there on what exp-Golomb has

module _ (q r e n : ℕ) (last : q ≤ 2) where
  abbrev limit : ℕ
  limit = (q + 1) * 2 ^ r

  pub limit-le : r ≤ 2 → limit ≤ 12
  limit-le h = mul-le-mul {n₁ = q + 1} {m₁ = 2 ^ r} {n₂ = 3} {m₂ = 2 ^ 2} (omega arith) (pow_mono h)

  pub rice-spells : r ≤ 2 → n < limit → Spells (combo q r e n) (n / 2 ^ r + 1 + r) (2 ^ r + n % 2 ^ r)
  rice-spells hr h =
      let d : n / 2 ^ r < q + 1 = (div-lt_iff_lt-mul (pow_pos r)).1 h in
      rw (combo-low q r e n h) (word-spells (n / 2 ^ r) r (n % 2 ^ r) (mod-lt n (pow_pos r)) (omega arith) (omega arith))

  pub far-spells : (len value : ℕ) → limit ≤ n → Spells (exp_golomb e (n - limit)) len value → len ≤ 65 → Spells (combo q r e n) (q + 1 + len) value
  far-spells len value h s m =
      record {
        is = sym (combo-high q r e n h ∙ ap (λ (t : List Bool). zeros (q + 1) ++ t) (sym s.is) ∙ field-widen (q + 1) len value s.fits);
        fits = lt_of_lt_of_le s.fits (pow_mono (omega arith));
        small = s.small;
        short = omega arith;
      }

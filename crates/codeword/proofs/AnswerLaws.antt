-- Laws of what is answered at a bit of a payload: a suffix once its field is told, a codeword once its zeros are told.
-- Assumes nothing.
use mathlib.Core.Path.{◌≡◌, sym, ap, ◌∙◌}
use mathlib.Core.Bool.{Bool}
use mathlib.Core.List.{List}
use Prim.Native.Nat.{ℕ, ◌+◌, ◌-◌, ◌^◌, ◌≤◌, ◌<◌}
use native.Mathlib.Omega.{arith}
use native.Mathlib.Decide.{dec_le}
use lib.ListN.{length, drop}
use Rattle.bitstream.specs.Bits.{bits_of}
use Rattle.answers.specs.Reading.{Parsed, Reader}
use Rattle.bitstream.specs.Reading.{read_bits, zero_prefix}
use Rattle.bitstream.specs.Told.{payload_limit, gives, refusal, outcome, outcome_at}
use Rattle.bitstream.proofs.ReadLaws.{read_bits-local, zero_prefix-local, zeros-zero_prefix, outcome_at-fits, outcome_at-long, told-got, told-after, told-stop}
use Rattle.codeword.specs.Codewords.{limit, symbol, suffix, read_suffix, read_code}
use Rattle.codeword.specs.declared.Codebook.{Codebook}
use Rattle.codeword.proofs.ReadCodeLaws.{symbol-small, symbol-large, symbol-local, suffix-wide, suffix-heavy, read_suffix-local}

-- a value is told of no payload that is too long
pub told-fits : (m : Reader) (s : List ℕ) (p v q : ℕ) → gives v q ≡ outcome_at m s p → length s ≤ payload_limit
told-fits m s p v q e = go (dec_le (length s) payload_limit)
  where
    go : Dec (length s ≤ payload_limit) → length s ≤ payload_limit
    go (yes h) = h
    go (no h) =
        let l : outcome_at m s p ≡ refusal 1 = outcome_at-long m s p (omega arith) in
        absurd (let z : ◌≡◌ {A = ℕ} 0 1 = cc in omega arith)

module _ (s : List ℕ) (p : ℕ) where
  -- of a payload that is not too long, the answer is the reader's
  answer : (m : Reader) → length s ≤ payload_limit → {x : Parsed} → m (drop p (bits_of s)) ≡ x → outcome_at m s p ≡ outcome p (drop p (bits_of s)) x
  answer m h e = outcome_at-fits m s p h ∙ ap (outcome p (drop p (bits_of s))) e

  -- ---- a suffix

  pub wide-told : (n b : ℕ) → 32 < n → length s ≤ payload_limit → refusal 6 ≡ outcome_at (suffix n b) s p
  wide-told n b w h = sym (answer (suffix n b) h (suffix-wide n b (drop p (bits_of s)) w))

  pub heavy-told : (n a b : ℕ) → 2 ^ 32 ≤ a → 2 ^ 32 ≤ b → outcome_at (suffix n a) s p ≡ outcome_at (suffix n b) s p
  unfolding outcome_at
  heavy-told n a b ha hb = rw (suffix-heavy n a b (drop p (bits_of s)) ha hb)

  symbol-told : (n : ℕ) → n < 2 ^ 32 → length s ≤ payload_limit → gives n p ≡ outcome_at (symbol n) s p
  symbol-told n l h =
      let B : List Bool = drop p (bits_of s) in
      let at : p + (length B - length B) ≡ p = omega arith in
      sym (answer (symbol n) h (symbol-small n B l) ∙ ap (gives n) at)

  large-told : (n : ℕ) → 2 ^ 32 ≤ n → length s ≤ payload_limit → refusal 6 ≡ outcome_at (symbol n) s p
  large-told n l h = sym (answer (symbol n) h (symbol-large n (drop p (bits_of s)) l))

-- the suffix at bit p, once the answer to its n bits is told
module _ (n b : ℕ) (s : List ℕ) (p : ℕ) where
  pub suffix-stop : (k : ℕ) → refusal k ≡ outcome_at (read_bits n) s p → refusal k ≡ outcome_at (suffix n b) s p
  unfolding suffix
  suffix-stop k e = told-stop (read_bits n) (λ v. symbol (b + v)) s p k e

  module _ (v q : ℕ) (e : gives v q ≡ outcome_at (read_bits n) s p) where
    summed : outcome_at (symbol (b + v)) s q ≡ outcome_at (suffix n b) s p
    unfolding suffix
    summed = told-after (read_bits n) (λ v. symbol (b + v)) s p (read_bits-local n) v q (symbol-local (b + v)) e

    pub suffix-small : b + v < 2 ^ 32 → gives (b + v) q ≡ outcome_at (suffix n b) s p
    suffix-small l = symbol-told s q (b + v) l (told-fits (read_bits n) s p v q e) ∙ summed

    pub suffix-large : 2 ^ 32 ≤ b + v → refusal 6 ≡ outcome_at (suffix n b) s p
    suffix-large l = large-told s q (b + v) l (told-fits (read_bits n) s p v q e) ∙ summed

-- ---- a codeword

-- the codeword at bit p, once the answer to its zeros is told
module _ (cb : Codebook) (s : List ℕ) (p : ℕ) where
  pub code-stop : (k : ℕ) → refusal k ≡ outcome_at (zero_prefix (limit cb)) s p → refusal k ≡ outcome_at (read_code cb) s p
  unfolding read_code
  code-stop k e = told-stop (zero_prefix (limit cb)) (read_suffix cb) s p k e

  module _ (z q : ℕ) (e : gives z q ≡ outcome_at (zero_prefix (limit cb)) s p) where
    pub code-after : outcome_at (read_suffix cb z) s q ≡ outcome_at (read_code cb) s p
    unfolding read_code
    code-after = told-after (zero_prefix (limit cb)) (read_suffix cb) s p (zero_prefix-local (limit cb)) z q (read_suffix-local cb z) e

    pub zeros-few : z ≤ limit cb
    zeros-few =
        let g = told-got (zero_prefix (limit cb)) s p (zero_prefix-local (limit cb)) (told-fits (zero_prefix (limit cb)) s p z q e) z q e in
        (zeros-zero_prefix (limit cb) (drop p (bits_of s)) z (drop q (bits_of s)) g.0).1

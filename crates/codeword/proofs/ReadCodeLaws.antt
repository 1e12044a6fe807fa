-- Laws of reading codewords: a codeword reads back, whatever reads is a codeword, and no bit behind it matters.
-- Assumes nothing.
use mathlib.Core.Path.{◌≡◌, refl, sym, ap, ap₂, ◌∙◌}
use mathlib.Core.Bool.{Bool, true}
use mathlib.Core.List.{List, [], ◌∷◌, ◌++◌, append_assoc}
use Prim.Native.Nat.{ℕ, ◌+◌, ◌-◌, ◌*◌, ◌^◌, ◌≤◌, ◌<◌}
use native.Mathlib.Omega.{arith}
use native.Mathlib.Decide.{dec_le}
use borrow.Author.Tests.{lt-ltb, le-ltb}
use Rattle.bitstream.specs.Bits.{field, zeros}
use Rattle.answers.specs.Reading.{Parsed, got, refused, Reader, after}
use Rattle.bitstream.specs.Reading.{read_bits, zero_prefix}
use Rattle.bitstream.proofs.ReadLaws.{Local, read_bits-wide, read_bits-field, read_field-field, field-read_field, zero_prefix-zeros, zeros-zero_prefix, read_bits-local, zero_prefix-local, bind-local}
use Rattle.codeword.specs.Codewords.{code, limit, width, base, symbol, suffix, read_suffix, read_code}
use Rattle.codeword.specs.declared.Codebook.{Codebook}
use Rattle.codeword.specs.declared.Codebook.TheVariants.{ExpGolomb, RiceExp}
use Rattle.codeword.proofs.CodeLaws.{width_low, width-high, base-low, base-high, Fit, Spelled, code-form, code-spelled}

-- ---- a symbol

module _ (n : ℕ) (bs : List Bool) where
  pub symbol-small : n < 2 ^ 32 → symbol n bs ≡ got n bs
  unfolding symbol
  symbol-small h = simp (lt-ltb n (2 ^ 32) h)

  pub symbol-large : 2 ^ 32 ≤ n → symbol n bs ≡ refused 6
  unfolding symbol
  symbol-large h = simp (le-ltb n (2 ^ 32) h)

  pub symbol-got : (w : ℕ) (rest : List Bool) → symbol n bs ≡ got w rest → (n ≡ w) × (bs ≡ rest) × (n < 2 ^ 32)
  symbol-got w rest e = go (dec_le (2 ^ 32) n)
    where
      go : Dec (2 ^ 32 ≤ n) → (n ≡ w) × (bs ≡ rest) × (n < 2 ^ 32)
      go (yes h) =
          let s : symbol n bs ≡ refused 6 = symbol-large h in
          absurd (let z : ◌≡◌ {A = ℕ} 0 1 = cc in omega arith)
      go (no h) =
          let lt : n < 2 ^ 32 = omega arith in
          let s : symbol n bs ≡ got n bs = symbol-small lt in
          ((cc), (cc), lt)

-- ---- a suffix, by the case

pub suffix-wide : (n b : ℕ) (bs : List Bool) → 32 < n → suffix n b bs ≡ refused 6
unfolding suffix
suffix-wide n b bs h = ap (λ (x : Parsed). after x (λ v. symbol (b + v))) (read_bits-wide n bs h)

-- a base that passes the largest symbol gives no symbol, whichever it is
pub suffix-heavy : (n a b : ℕ) (bs : List Bool) → 2 ^ 32 ≤ a → 2 ^ 32 ≤ b → suffix n a bs ≡ suffix n b bs
unfolding suffix
suffix-heavy n a b bs ha hb = go (read_bits n bs)
  where
    go : (x : Parsed) → after x (λ v. symbol (a + v)) ≡ after x (λ v. symbol (b + v))
    go (got v rest) = symbol-large (a + v) rest (omega arith) ∙ sym (symbol-large (b + v) rest (omega arith))
    go (refused k) = refl

pub read_suffix-exp : (k z : ℕ) → read_suffix (ExpGolomb k) z ≡ suffix (z + k) (2 ^ (z + k) - 2 ^ k)
unfolding read_suffix width base
read_suffix-exp k z = refl

module _ (q r e z : ℕ) where
  pub read_suffix-low : z ≤ q → read_suffix (RiceExp q r e) z ≡ suffix r (z * 2 ^ r)
  unfolding read_suffix
  read_suffix-low h = ap₂ suffix (width_low q r e z h) (base-low q r e z h)

  pub read_suffix-high : q < z → read_suffix (RiceExp q r e) z ≡ suffix (z - (q + 1) + e) ((q + 1) * 2 ^ r + (2 ^ (z - (q + 1) + e) - 2 ^ e))
  unfolding read_suffix
  read_suffix-high h = ap₂ suffix (width-high q r e z h) (base-high q r e z h)

-- ---- a codeword reads back

pub suffix-field : (n b v : ℕ) (rest : List Bool) → n ≤ 32 → v < 2 ^ n → b + v < 2 ^ 32 → suffix n b (field n v ++ rest) ≡ got (b + v) rest
unfolding suffix
suffix-field n b v rest narrow small h =
    ap (λ (x : Parsed). after x (λ i. symbol (b + i))) (read_bits-field n (field n v ++ rest) narrow ∙ read_field-field n v rest small)
    ∙ symbol-small (b + v) rest h

pub read-code : (cb : Codebook) (n : ℕ) (rest : List Bool) → Fit cb → n < 2 ^ 32 → read_code cb (code cb n ++ rest) ≡ got n rest
unfolding read_code read_suffix
read-code cb n rest f h =
    let x = code-spelled cb n f h in
    let z : ℕ = x.0 in
    let v : ℕ = x.1 in
    let s : Spelled cb n z v = x.2 in
    let form : code cb n ++ rest ≡ zeros z ++ true ∷ (field (width cb z) v ++ rest) =
    ap (λ (t : List Bool). t ++ rest) (code-form cb n z v s) ∙ append_assoc (zeros z) (true ∷ field (width cb z) v) rest in
    let lt : base cb z + v < 2 ^ 32 = omega (arith, s.sum) in
    ap (read_code cb) form
    ∙ ap (λ (y : Parsed). after y (read_suffix cb)) (zero_prefix-zeros (limit cb) z (field (width cb z) v ++ rest) x.3)
    ∙ suffix-field (width cb z) (base cb z) v rest s.narrow s.small lt
    ∙ ap (λ (m : ℕ). got m rest) (sym s.sum)

-- ---- whatever reads is the codeword, in every codebook

-- what gave a value behind x
pub after-got : (x : Parsed) (f : ℕ → Reader) (w : ℕ) (rest : List Bool) → after x f ≡ got w rest
    → (v : ℕ) × (mid : List Bool) × (x ≡ got v mid) × (f v mid ≡ got w rest)
after-got (got v mid) f w rest e = (v, mid, refl, e)
after-got (refused k) f w rest e = absurd (let z : ◌≡◌ {A = ℕ} 0 1 = cc in omega arith)

pub field-read_bits : (n : ℕ) (bs : List Bool) (v : ℕ) (rest : List Bool) → read_bits n bs ≡ got v rest → (bs ≡ field n v ++ rest) × (v < 2 ^ n) × (n ≤ 32)
field-read_bits n bs v rest e = go (dec_le n 32)
  where
    go : Dec (n ≤ 32) → (bs ≡ field n v ++ rest) × (v < 2 ^ n) × (n ≤ 32)
    go (yes h) = let f = field-read_field n bs v rest (sym (read_bits-field n bs h) ∙ e) in (f.0, f.1, h)
    go (no h) =
        let s : read_bits n bs ≡ refused 6 = read_bits-wide n bs (omega arith) in
        absurd (let z : ◌≡◌ {A = ℕ} 0 1 = cc in omega arith)

pub field-suffix : (n b : ℕ) (bs : List Bool) (w : ℕ) (rest : List Bool) → suffix n b bs ≡ got w rest
    → (v : ℕ) × (bs ≡ field n v ++ rest) × (w ≡ b + v) × (v < 2 ^ n) × (n ≤ 32) × (w < 2 ^ 32)
unfolding suffix
field-suffix n b bs w rest e =
    let a = after-got (read_bits n bs) (λ v. symbol (b + v)) w rest e in
    let s = symbol-got (b + a.0) a.1 w rest a.3 in
    let f = field-read_bits n bs a.0 a.1 a.2 in
    (a.0, f.0 ∙ ap (λ (t : List Bool). field n a.0 ++ t) s.1, sym s.0, f.1, f.2, omega (arith, s.0, s.2))

pub code_read : (cb : Codebook) (bs : List Bool) (n : ℕ) (rest : List Bool) → read_code cb bs ≡ got n rest → (bs ≡ code cb n ++ rest) × (n < 2 ^ 32)
unfolding read_code read_suffix
code_read cb bs n rest e =
    let a = after-got (zero_prefix (limit cb) bs) (read_suffix cb) n rest e in
    let z : ℕ = a.0 in
    let f = field-suffix (width cb z) (base cb z) a.1 n rest a.3 in
    let v : ℕ = f.0 in
    let s : Spelled cb n z v = record { sum = f.2; small = f.3; narrow = f.4 } in (
      (zeros-zero_prefix (limit cb) bs z a.1 a.2).0
          ∙ ap (λ (t : List Bool). zeros z ++ true ∷ t) f.1
          ∙ sym (append_assoc (zeros z) (true ∷ field (width cb z) v) rest)
          ∙ ap (λ (t : List Bool). t ++ rest) (sym (code-form cb n z v s)),
      f.5,
    )

-- ---- the answer depends on the bits that were taken alone

pub symbol-local : (n : ℕ) → Local (symbol n)
symbol-local n bs w rest e =
    let s = symbol-got n bs w rest e in
    record { pre = []; is = s.1; again = λ t. symbol-small n t s.2 ∙ ap (λ (i : ℕ). got i t) s.0 }

pub suffix-local : (n b : ℕ) → Local (suffix n b)
unfolding suffix
suffix-local n b = bind-local (read_bits n) (λ v. symbol (b + v)) (read_bits-local n) (λ v. symbol-local (b + v))

pub read_suffix-local : (cb : Codebook) (z : ℕ) → Local (read_suffix cb z)
unfolding read_suffix
read_suffix-local cb z = suffix-local (width cb z) (base cb z)

pub read_code-local : (cb : Codebook) → Local (read_code cb)
unfolding read_code
read_code-local cb = bind-local (zero_prefix (limit cb)) (read_suffix cb) (zero_prefix-local (limit cb)) (read_suffix-local cb)

-- Laws of codewords: every codeword is z zeros, a 1 and a suffix; its length; it holds a 1.
-- Assumes nothing.
use mathlib.Core.Path.{◌≡◌, sym, ap, ap₂, ◌∙◌, subst}
use mathlib.Core.Bool.{Bool, true, false, cond, ◌&&◌, true≢false}
use mathlib.Core.List.{List, [], ◌∷◌, ◌++◌, append_assoc}
use Prim.Native.Nat.{ℕ, ◌+◌, ◌-◌, ◌*◌, ◌/◌, ◌%◌, ◌^◌, ◌≤◌, ◌<◌}
use native.Mathlib.Nat.{div-lt_iff_lt-mul, mod-lt, div-add-mod'}
use native.Mathlib.Omega.{arith}
use native.Mathlib.Decide.{dec_le}
use lib.Dec.{ltb}
use lib.Pow.{pow_pos, high, low}
use lib.Arith.{digits_lt}
use lib.ListN.{length, length-append, length-replicate, replicate-append-replicate}
use borrow.Author.Tests.{le-leb, lt-leb, lt-ltb, le-ltb}
use Rattle.bitstream.specs.Bits.{field, zeros, ended}
use Rattle.bitstream.proofs.FieldLaws.{length-field}
use Rattle.bitstream.proofs.PlaceLaws.{ended-append, ended-zeros, ended-one}
use Rattle.codeword.specs.Codewords.{log2, exp_golomb, combo, code, exp_length, code_length, limit, width, base}
use Rattle.codeword.specs.Words.{InUse}
use Rattle.codeword.specs.declared.Codebook.{Codebook}
use Rattle.codeword.specs.declared.Codebook.TheVariants.{ExpGolomb, RiceExp}
use Rattle.codeword.proofs.ExpLaws.{exp-form, exp-exists, exp-length}

-- ---- a combination, by the case

module _ (q r e n : ℕ) where
  pub combo-low : n < (q + 1) * 2 ^ r → combo q r e n ≡ zeros (n / 2 ^ r) ++ true ∷ field r (n % 2 ^ r)
  unfolding combo
  combo-low h = simp (lt-ltb n ((q + 1) * 2 ^ r) h)

  pub combo-high : (q + 1) * 2 ^ r ≤ n → combo q r e n ≡ zeros (q + 1) ++ exp_golomb e (n - (q + 1) * 2 ^ r)
  unfolding combo
  combo-high h = simp (le-ltb n ((q + 1) * 2 ^ r) h)

module _ (q r e z : ℕ) where
  pub width_low : z ≤ q → width (RiceExp q r e) z ≡ r
  unfolding width
  width_low h = simp (le-leb z q h)

  pub base-low : z ≤ q → base (RiceExp q r e) z ≡ z * 2 ^ r
  unfolding base
  base-low h = simp (le-leb z q h)

  pub width-high : q < z → width (RiceExp q r e) z ≡ z - (q + 1) + e
  unfolding width
  width-high h = simp (lt-leb z q h)

  pub base-high : q < z → base (RiceExp q r e) z ≡ (q + 1) * 2 ^ r + (2 ^ (z - (q + 1) + e) - 2 ^ e)
  unfolding base
  base-high h = simp (lt-leb z q h)

-- ---- every codeword is z zeros, a 1 and a suffix

-- the codebooks in which every number below 2^32 is readable
abbrev pub Fit : Codebook → Type 0
Fit (ExpGolomb k) = k ≤ 32
Fit (RiceExp q r e) = (q ≤ 31) × (r ≤ 32) × (e ≤ 32)

pub in-use-fit : (cb : Codebook) → InUse cb → Fit cb
in-use-fit (ExpGolomb k) u = omega arith
in-use-fit (RiceExp q r e) u = omega arith

-- n is spelled with z zeros and the suffix v
pub record Spelled (cb : Codebook) (n z v : ℕ) : Type 0 where
  pub sum : n ≡ base cb z + v
  pub small : v < 2 ^ width cb z
  pub narrow : width cb z ≤ 32

rice-low : (q r e n z v : ℕ) → z ≤ q → n ≡ z * 2 ^ r + v → v < 2 ^ r → combo q r e n ≡ zeros z ++ true ∷ field r v
rice-low q r e n z v hz en hv =
    let lt : n < (q + 1) * 2 ^ r = subst (λ (m : ℕ). m < (q + 1) * 2 ^ r) (sym en) (digits_lt {q = z} {m = q + 1} {r = v} {c = 2 ^ r} (omega arith) hv) in
    combo-low q r e n lt
    ∙ ap₂ (λ (a b : ℕ). zeros a ++ true ∷ field r b) (ap (λ (m : ℕ). m / 2 ^ r) en ∙ high z r hv) (ap (λ (m : ℕ). m % 2 ^ r) en ∙ low z r hv)

rice-high : (q r e n z v : ℕ) → q < z → n ≡ (q + 1) * 2 ^ r + (2 ^ (z - (q + 1) + e) - 2 ^ e) + v → v < 2 ^ (z - (q + 1) + e) → z - (q + 1) + e < 64
    → combo q r e n ≡ zeros z ++ true ∷ field (z - (q + 1) + e) v
rice-high q r e n z v hz en hv hw =
    let all : q + 1 + (z - (q + 1)) ≡ z = omega arith in
    combo-high q r e n (omega arith)
    ∙ ap (λ (t : List Bool). zeros (q + 1) ++ t) (exp-form e (n - (q + 1) * 2 ^ r) (z - (q + 1)) v (omega arith) hv hw)
    ∙ sym (append_assoc (zeros (q + 1)) (zeros (z - (q + 1))) (true ∷ field (z - (q + 1) + e) v))
    ∙ ap (λ (t : List Bool). t ++ true ∷ field (z - (q + 1) + e) v) (replicate-append-replicate (q + 1) (z - (q + 1)) false ∙ ap zeros all)

pub code-form : (cb : Codebook) (n z v : ℕ) → Spelled cb n z v → code cb n ≡ zeros z ++ true ∷ field (width cb z) v
unfolding code width base
code-form (ExpGolomb k) n z v s = exp-form k n z v s.sum s.small (omega (arith, s.narrow))
code-form (RiceExp q r e) n z v s = go (dec_le z q)
  where
    go : Dec (z ≤ q) → code (RiceExp q r e) n ≡ zeros z ++ true ∷ field (width (RiceExp q r e) z) v
    go (yes h) =
        let w : width (RiceExp q r e) z ≡ r = width_low q r e z h in
        rice-low q r e n z v h (s.sum ∙ ap (λ (b : ℕ). b + v) (base-low q r e z h)) (subst (λ (i : ℕ). v < 2 ^ i) w s.small)
        ∙ ap (λ (i : ℕ). zeros z ++ true ∷ field i v) (sym w)
    go (no h) =
        let far : q < z = omega arith in
        let w : width (RiceExp q r e) z ≡ z - (q + 1) + e = width-high q r e z far in
        let thin : z - (q + 1) + e < 64 = omega (arith, s.narrow) in
        rice-high q r e n z v far (s.sum ∙ ap (λ (b : ℕ). b + v) (base-high q r e z far)) (subst (λ (i : ℕ). v < 2 ^ i) w s.small) thin
        ∙ ap (λ (i : ℕ). zeros z ++ true ∷ field i v) (sym w)

pub code-spelled : (cb : Codebook) (n : ℕ) → Fit cb → n < 2 ^ 32 → (z : ℕ) × (v : ℕ) × Spelled cb n z v × (z ≤ limit cb)
unfolding width base
code-spelled (ExpGolomb k) n f h =
    let x = exp-exists k n f h in
    (x.0, x.1, record { sum = x.2; small = x.3; narrow = x.4 }, omega (arith, x.4))
code-spelled (RiceExp q r e) n f h = go (dec_le ((q + 1) * 2 ^ r) n)
  where
    go : Dec ((q + 1) * 2 ^ r ≤ n) → (z : ℕ) × (v : ℕ) × Spelled (RiceExp q r e) n z v × (z ≤ 64)
    go (no g) =
        let z : ℕ = n / 2 ^ r in
        let zq : z < q + 1 = (div-lt_iff_lt-mul (pow_pos r)).1 (omega arith) in
        let zl : z ≤ q = omega arith in
        let wl : width (RiceExp q r e) z ≡ r = width_low q r e z zl in (
          z,
          n % 2 ^ r,
          record {
            sum = sym (ap (λ (b : ℕ). b + n % 2 ^ r) (base-low q r e z zl) ∙ div-add-mod' n (2 ^ r));
            small = subst (λ (w : ℕ). n % 2 ^ r < 2 ^ w) (sym wl) (mod-lt n (pow_pos r));
            narrow = omega (arith, f.1);
          },
          omega (arith, f.0),
        )
    go (yes g) =
        let x = exp-exists e (n - (q + 1) * 2 ^ r) f.2 (omega arith) in
        let z : ℕ = q + 1 + x.0 in
        let far : q < z = omega arith in
        let ez : z - (q + 1) ≡ x.0 = omega arith in
        let wl : width (RiceExp q r e) z ≡ x.0 + e = width-high q r e z far ∙ ap (λ (i : ℕ). i + e) ez in
        let bl : base (RiceExp q r e) z ≡ (q + 1) * 2 ^ r + (2 ^ (x.0 + e) - 2 ^ e) = base-high q r e z far ∙ ap (λ (i : ℕ). (q + 1) * 2 ^ r + (2 ^ (i + e) - 2 ^ e)) ez in
        let s : n - (q + 1) * 2 ^ r ≡ 2 ^ (x.0 + e) - 2 ^ e + x.1 = x.2 in (
          z,
          x.1,
          record {
            sum = omega arith;
            small = subst (λ (w : ℕ). x.1 < 2 ^ w) (sym wl) x.3;
            narrow = omega (arith, x.4);
          },
          omega (arith, f.0, x.4),
        )

-- ---- the length

-- z zeros, a 1 and w bits
length-form : (z w v : ℕ) → length (zeros z ++ true ∷ field w v) ≡ z + 1 + w
length-form z w v = omega (arith, length-append (zeros z) (true ∷ field w v), length-replicate z false, length-field w v)

pub code-length : (cb : Codebook) (n : ℕ) → Fit cb → n < 2 ^ 32 → length (code cb n) ≡ code_length cb n
unfolding code code_length combo
code-length (ExpGolomb k) n f h = exp-length k n f h
code-length (RiceExp q r e) n f h = go (ltb n ((q + 1) * 2 ^ r))
  where
    go : (t : Bool) → length (cond t (zeros (n / 2 ^ r) ++ true ∷ field r (n % 2 ^ r)) (zeros (q + 1) ++ exp_golomb e (n - (q + 1) * 2 ^ r)))
        ≡ cond t (n / 2 ^ r + 1 + r) (q + 1 + exp_length e (n - (q + 1) * 2 ^ r))
    go true = length-form (n / 2 ^ r) r (n % 2 ^ r)
    go false =
        length-append (zeros (q + 1)) (exp_golomb e (n - (q + 1) * 2 ^ r))
        ∙ ap₂ (λ (a b : ℕ). a + b) (length-replicate (q + 1) false) (exp-length e (n - (q + 1) * 2 ^ r) f.2 (omega arith))

-- ---- every codeword holds a 1

ended-exp : (k n : ℕ) → ended (exp_golomb k n) ≡ false
unfolding exp_golomb
ended-exp k n = ended-one (log2 (n + 2 ^ k) - k) (field (log2 (n + 2 ^ k)) (n + 2 ^ k - 2 ^ log2 (n + 2 ^ k)))

ended-code : (cb : Codebook) (n : ℕ) → ended (code cb n) ≡ false
unfolding code combo
ended-code (ExpGolomb k) n = ended-exp k n
ended-code (RiceExp q r e) n = go (ltb n ((q + 1) * 2 ^ r))
  where
    go : (t : Bool) → ended (cond t (zeros (n / 2 ^ r) ++ true ∷ field r (n % 2 ^ r)) (zeros (q + 1) ++ exp_golomb e (n - (q + 1) * 2 ^ r))) ≡ false
    go true = ended-one (n / 2 ^ r) (field r (n % 2 ^ r))
    go false =
        ended-append (zeros (q + 1)) (exp_golomb e (n - (q + 1) * 2 ^ r))
        ∙ ap₂ (λ (a b : Bool). a && b) (ended-zeros (q + 1)) (ended-exp e (n - (q + 1) * 2 ^ r))

pub code_one : (cb : Codebook) (n : ℕ) (rest : List Bool) → ended (code cb n ++ rest) ≡ false
code_one cb n rest = ended-append (code cb n) rest ∙ ap (λ (b : Bool). b && ended rest) (ended-code cb n)

length-pos : (xs : List Bool) → ended xs ≡ false → 0 < length xs
unfolding ended
length-pos [] e = absurd (true≢false e)
length-pos (b ∷ xs) e = omega arith

pub code-pos : (cb : Codebook) (n : ℕ) → 0 < length (code cb n)
code-pos cb n = length-pos (code cb n) (ended-code cb n)

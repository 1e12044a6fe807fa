-- Laws of code_length: how long a codeword can be in the codebooks of each kind of element.
-- Assumes nothing.
use mathlib.Core.Path.{◌≡◌}
use Prim.Native.Nat.{ℕ, zero, suc, ◌+◌, ◌-◌, ◌*◌, ◌/◌, ◌^◌, ◌≤◌, ◌<◌}
use native.Mathlib.Nat.{lt_of_lt_of_le, lt_of_not-le, not-le_of_lt, add-zero, add-suc, le-mul_of_pos_right, pow-suc, div-le_self, div-one}
use native.Mathlib.Omega.{arith}
use native.Mathlib.Decide.{dec_le}
use lib.Count.{leading_top}
use lib.Dec.{ltb}
use lib.Pow.{pow_pos, pow_mono}
use borrow.Author.Tests.{ltb-true, ltb-false}
use Rattle.std.proofs.lemmas.Bool.{cond_both}
use Rattle.codeword.specs.declared.Codebook.{Codebook}
use Rattle.codeword.specs.declared.Codebook.TheVariants.{ExpGolomb, RiceExp}
use Rattle.codeword.specs.Codewords.{log2, exp_length, code_length}
use Rattle.codeword_books.specs.Books.{dc_book, run_book, level_book}
use Rattle.codeword.proofs.ExpLaws.{log2-is}
use Rattle.codeword_books.proofs.BookLaws.{dc_book-all, run_book-all, level_book-all}

-- ---- from a power above

exponent_lt : (i j x : ℕ) → 2 ^ i ≤ x → x < 2 ^ j → i < j
exponent_lt i j x l h = lt_of_not-le (λ (g : j ≤ i). not-le_of_lt (lt_of_lt_of_le h (pow_mono g)) l)

-- the longest codeword of such an n has 2m - k - 1 bits
pub exp-le : (k n m c : ℕ) → n + 2 ^ k < 2 ^ m → m ≤ 64 → 2 * m ≤ c + k + 1 → code_length (ExpGolomb k) n ≤ c
unfolding code_length exp_length
exp-le k n m c h hm hc =
    let x : ℕ = n + 2 ^ k in
    let top = leading_top 64 x (omega (arith, pow_pos k)) (omega (arith, pow_mono {i = m} {j = 64} hm)) in
    let l : ℕ = top.0 in
    let high : l < m = exponent_lt l m x top.2 h in
    let e : log2 x ≡ l = log2-is l x (omega arith) top.2 top.3 in
    omega arith

-- a combination, from a bound on each half
pub combo-le : (q r e n c : ℕ) → (n < (q + 1) * 2 ^ r → n / 2 ^ r + 1 + r ≤ c)
    → ((q + 1) * 2 ^ r ≤ n → q + 1 + code_length (ExpGolomb e) (n - (q + 1) * 2 ^ r) ≤ c) → code_length (RiceExp q r e) n ≤ c
unfolding code_length
combo-le q r e n c f g =
    let most : ℕ = (q + 1) * 2 ^ r in
    cond_both (ltb n most) (n / 2 ^ r + 1 + r) (q + 1 + exp_length e (n - most)) (λ l. l ≤ c) (λ h. f (ltb-true n most h)) (λ h. g (ltb-false n most h))

-- ---- the first DC: at most 2w + 5 bits, and 6 where it is 0

pub first-le : (w n : ℕ) → 1 ≤ w → w ≤ 58 → n < 2 ^ suc w → code_length (ExpGolomb 5) n ≤ 2 * w + 5
first-le w n l hw h = exp-le 5 n (suc (suc (suc (suc (suc w))))) (2 * w + 5) (omega (arith, pow_mono {i = 1} {j = w} l)) (omega arith) (omega arith)

pub first-zero : code_length (ExpGolomb 5) 0 ≤ 6
first-zero = exp-le 5 0 6 6 (omega arith) (omega arith) (omega arith)

-- ---- DC differences: at most 2w + 4 bits

module _ (w n : ℕ) (hw : w ≤ 60) (h : n + 4 ≤ 2 ^ suc (suc w)) where
  dc-combo : code_length (RiceExp 1 2 3) n ≤ 2 * w + 4
  dc-combo =
      combo-le 1 2 3 n (2 * w + 4) (λ a. omega arith)
      (λ a. let b = exp-le 3 (n - (1 + 1) * 2 ^ 2) (suc (suc w)) (2 * w) (omega arith) (omega arith) (omega arith) in omega arith)

  pub dc-le : (a : ℕ) → code_length (dc_book a) n ≤ 2 * w + 4
  dc-le =
      dc_book-all (λ (cb : Codebook). code_length cb n ≤ 2 * w + 4)
      (exp-le 0 n (suc (suc w)) (2 * w + 4) (omega arith) (omega arith) (omega arith))
      (exp-le 1 n (suc (suc w)) (2 * w + 4) (omega arith) (omega arith) (omega arith))
      dc-combo
      (exp-le 3 n (suc (suc (suc (suc w)))) (2 * w + 4) (omega (arith, pow_pos w)) (omega arith) (omega arith))

-- ---- levels: at most 2w + 1 bits

module _ (w n : ℕ) (hw : w ≤ 60) (h : n + 2 ≤ 2 ^ w) where
  -- C(q, 0, e), whose limit is q + 1
  level-combo : (q e : ℕ) → 2 ^ e ≤ q + 2 → q ≤ 2 → q ≤ e + 1 → code_length (RiceExp q 0 e) n ≤ 2 * w + 1
  level-combo q e he hq hqe =
      let one : 0 < w = exponent_lt 0 w (n + 1) (omega arith) (omega arith) in
      combo-le q 0 e n (2 * w + 1) (λ a. omega (arith, div-one n))
      (λ a. let b = exp-le e (n - (q + 1) * 2 ^ 0) w (2 * w - q) (omega arith) (omega arith) (omega arith) in omega arith)

  pub level-le : (y : ℕ) → code_length (level_book y) n ≤ 2 * w + 1
  level-le =
      level_book-all (λ (cb : Codebook). code_length cb n ≤ 2 * w + 1)
      (level-combo 2 2 (omega arith) (omega arith) (omega arith))
      (level-combo 1 1 (omega arith) (omega arith) (omega arith))
      (level-combo 2 1 (omega arith) (omega arith) (omega arith))
      (exp-le 0 n w (2 * w + 1) (omega arith) (omega arith) (omega arith))
      (exp-le 1 n (suc w) (2 * w + 1) (omega arith) (omega arith) (omega arith))
      (exp-le 2 n (suc (suc w)) (2 * w + 1) (omega arith) (omega arith) (omega arith))

-- ---- runs: a run of n takes at most 2n + 3 bits

grow : (n k : ℕ) → n + 2 ^ k < 2 ^ (suc k + n)
grow zero k = rw (add-zero (suc k)) (omega (arith, pow_pos k, pow-suc 2 k))
grow (suc n) k = rw (add-suc (suc k) n) (omega (arith, grow n k, pow-suc 2 (suc k + n)))

exp-run : (k n : ℕ) → k ≤ 2 → n < 2 ^ 32 → code_length (ExpGolomb k) n ≤ 2 * n + 3
exp-run k n hk hn = go (dec_le n 60)
  where
    go : Dec (n ≤ 60) → code_length (ExpGolomb k) n ≤ 2 * n + 3
    go (yes h) = exp-le k n (suc k + n) (2 * n + 3) (grow n k) (omega arith) (omega arith)
    go (no h) = exp-le k n 33 (2 * n + 3) (omega (arith, pow_mono {i = k} {j = 2} hk)) (omega arith) (omega arith)

module _ (n : ℕ) (h : n < 2 ^ 32) where
  run-combo : (q r e : ℕ) → r ≤ 2 → e ≤ 2 → code_length (RiceExp q r e) n ≤ 2 * n + 3
  run-combo q r e hr he =
      combo-le q r e n (2 * n + 3) (λ a. omega (arith, div-le_self n (2 ^ r)))
      (λ a. let b = exp-run e (n - (q + 1) * 2 ^ r) he (omega arith) in omega (arith, le-mul_of_pos_right (q + 1) (pow_pos r)))

  pub run-le : (r : ℕ) → code_length (run_book r) n ≤ 2 * n + 3
  run-le =
      run_book-all (λ (cb : Codebook). code_length cb n ≤ 2 * n + 3)
      (run-combo 2 0 1 (omega arith) (omega arith))
      (run-combo 1 0 1 (omega arith) (omega arith))
      (exp-run 0 n (omega arith) h)
      (run-combo 1 1 2 (omega arith) (omega arith))
      (exp-run 1 n (omega arith) h)
      (exp-run 2 n (omega arith) h)

-- Laws of a run: it goes on with a sample that is the same, and ends with another, with the limit or with the list.
-- Assumes nothing.
use Prim.Native.Nat.{ℕ, zero, suc, ◌+◌, ◌-◌, ◌≤◌, ◌<◌, min}
use native.Mathlib.Nat.{add-zero}
use native.Mathlib.Numerals.{add-one}
use native.Mathlib.Omega.{arith}
use mathlib.Core.Path.{◌≡◌, refl, sym, ap, ap₂, ◌∙◌}
use mathlib.Core.Bool.{Bool, true, false, cond}
use mathlib.Core.List.{List, [], ◌∷◌}
use lib.Dec.{eqb}
use lib.ListN.{length, take, drop, get_or, length-take}
use Rattle.std.proofs.lemmas.Bool.{eqb-true, eqb-false}
use Rattle.std.proofs.lemmas.List.Sums.{prefix_len-le-length}
use Rattle.std.specs.List.{prefix_len}
use Rattle.alpha_elements.specs.declared.AlphaChannelType.{AlphaChannelType}
use Rattle.alpha_elements.specs.Limits.{run_limit}
use Rattle.alpha_elements.specs.Elements.{AlphaElement, alpha_run_element, run_elements}
use Rattle.alpha_elements.proofs.ElementLaws.{run-same, run-other, run-full}
use Rattle.alpha_writing.specs.Writing.{elements_from, RunOf}

-- a run of c samples v goes on with n of the samples ss
abbrev GoesOn : ℕ → ℕ → List ℕ → ℕ → Type 0
GoesOn v c ss n = (k : AlphaChannelType) → run_elements k v c ss ≡ alpha_run_element (c + n) ∷ elements_from k (v + 1) (drop n ss)

abbrev passing : ℕ → ℕ → List ℕ → ℕ
passing v m ss = prefix_len (λ s. eqb s v) (take m ss)

-- one sample more: b is whether it goes on with the run, and n how many of those behind it do then
module _ (k : AlphaChannelType) (v c s : ℕ) (ss : List ℕ) (n : ℕ) where
  after : ℕ → ℕ → List AlphaElement
  after i j = alpha_run_element i ∷ elements_from k (v + 1) (drop j (s ∷ ss))

  one-more : (b : Bool) → eqb s v ≡ b → (b ≡ true → (c < run_limit) × (run_elements k v (suc c) ss ≡ after (suc c + n) (suc n)))
      → run_elements k v c (s ∷ ss) ≡ (let i : ℕ = cond b (1 + n) 0 in after (c + i) i)
  unfolding after elements_from
  one-more true e on =
      let one : suc n ≡ 1 + n = omega arith in
      let count : suc c + n ≡ c + (1 + n) = omega arith in
      run-same k v c s ss (eqb-true s v e) (on refl).0 ∙ (on refl).1 ∙ ap₂ after count one
  one-more false e on = rw (add-zero, add-one) (run-other k v c s ss (eqb-false s v e))

-- where m samples more are allowed
goes-on : (v c m : ℕ) (ss : List ℕ) → (m < length ss → c + m ≡ run_limit) → c + m ≤ run_limit → GoesOn v c ss (passing v m ss)
unfolding run_elements elements_from after
goes-on v c zero [] full few k = ap (λ (n : ℕ). alpha_run_element n ∷ []) (sym (add-zero c))
goes-on v c (suc m) [] full few k = ap (λ (n : ℕ). alpha_run_element n ∷ []) (sym (add-zero c))
goes-on v c zero (s ∷ ss) full few k = rw (add-zero, add-one) (run-full k v c s ss (omega (arith, full)))
goes-on v c (suc m) (s ∷ ss) full few k =
    one-more k v c s ss (passing v m ss) (eqb s v) refl (λ e. (omega (arith, few), goes-on v (suc c) m ss (λ h. omega (arith, full)) (omega (arith, few)) k))

pub run_lem : (ss : List ℕ) (m : ℕ) → 0 < length ss → m ≡ min (length ss) run_limit
    → RunOf ss (1 + passing (get_or ss 0 0) (m - 1) (drop 1 ss))
run_lem [] m some most = absurd (omega arith)
run_lem (v ∷ ss) m some most =
    let n : ℕ = passing v (m - 1) ss in
    let one : suc n ≡ 1 + n = omega arith in
    let count : n ≤ length (take (m - 1) ss) = prefix_len-le-length (λ s. eqb s v) (take (m - 1) ss) in
    record {
      some = omega arith;
      most = omega (arith, length-take (m - 1) ss);
      inside = omega (arith, length-take (m - 1) ss);
      is = λ k. goes-on v 1 (m - 1) ss (λ h. omega arith) (omega arith) k
          ∙ ap (λ (j : ℕ). alpha_run_element (1 + n) ∷ elements_from k (v + 1) (drop j (v ∷ ss))) one;
    }

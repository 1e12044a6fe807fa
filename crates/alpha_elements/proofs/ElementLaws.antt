-- Laws of elements: the cases of a difference, of a run and of the next sample, and the lengths.
-- Assumes nothing.
use Prim.Native.Nat.{ℕ, suc, ◌+◌, ◌-◌, ◌^◌, ◌≤◌, ◌<◌}
use native.Mathlib.Omega.{arith}
use mathlib.Core.Path.{◌≡◌, refl, ap, ap₂, ◌∙◌}
use mathlib.Core.Bool.{Bool, true, false, cond, ◌&&◌}
use mathlib.Core.List.{List, [], ◌∷◌, ◌++◌}
use lib.Dec.{leb, ltb, eqb}
use lib.IntN.{ℤ, pos, nat_abs, ◌-ℤ◌}
use lib.ListN.{length, length-append}
use borrow.Author.Tests.{le-leb, lt-leb, lt-ltb, le-ltb, eq-eqb, ne_eqb}
use Rattle.common.proofs.Choices.{cond_yes, cond_no}
use Rattle.bitstream.specs.Bits.{field}
use Rattle.bitstream.proofs.FieldLaws.{length-field}
use Rattle.codeword_signs.specs.Signs.{is_negative}
use Rattle.alpha_elements.specs.declared.AlphaChannelType.{AlphaChannelType}
use Rattle.alpha_elements.specs.Kinds.{width_of, small_width_of, limit_of}
use Rattle.alpha_elements.specs.Limits.{run_limit}
use Rattle.alpha_elements.specs.Values.{residue}
use Rattle.alpha_elements.specs.Elements.{AlphaElement, small_element, escaped_element, alpha_run_element, run_bits, alpha_element_bits, alpha_bits, run_length, alpha_element_length, alpha_size, difference_element, run_elements}

-- ---- a difference

module _ (k : AlphaChannelType) (d : ℤ) where
  pub difference-small : 1 ≤ nat_abs d → nat_abs d ≤ limit_of k → difference_element k d ≡ small_element (nat_abs d - 1) (is_negative d)
  unfolding difference_element
  difference-small h g = simp (le-leb 1 (nat_abs d) h, le-leb (nat_abs d) (limit_of k) g)

  pub difference-none : nat_abs d < 1 → difference_element k d ≡ escaped_element (residue (2 ^ width_of k) d)
  unfolding difference_element
  difference-none h = simp (lt-leb 1 (nat_abs d) h)

  pub difference-far : limit_of k < nat_abs d → difference_element k d ≡ escaped_element (residue (2 ^ width_of k) d)
  unfolding difference_element
  difference-far h = go (leb 1 (nat_abs d))
    where
      go : (b : Bool)
          → cond (b && leb (nat_abs d) (limit_of k)) (small_element (nat_abs d - 1) (is_negative d)) (escaped_element (residue (2 ^ width_of k) d)) ≡ escaped_element (residue (2 ^ width_of k) d)
      go true = cond_no _ _ (lt-leb (nat_abs d) (limit_of k) h)
      go false = refl

-- ---- a run

pub run-one : run_bits 1 ≡ true ∷ []
unfolding run_bits
run-one = refl

module _ (n : ℕ) (two : 1 < n) where
  more : eqb n 1 ≡ false
  more = ne_eqb n 1 (λ e. omega arith)

  pub run_short : n ≤ 16 → run_bits n ≡ false ∷ field 4 (n - 1)
  unfolding run_bits
  run_short h = cond_no _ _ more ∙ cond_yes _ _ (le-leb n 16 h)

  pub run_long : 16 < n → run_bits n ≡ false ∷ field 4 0 ++ field 11 (n - 1)
  unfolding run_bits
  run_long h = cond_no _ _ more ∙ cond_no _ _ (lt-leb n 16 h)

-- the next sample goes on with a run, or ends it
module _ (k : AlphaChannelType) (v c s : ℕ) (ss : List ℕ) where
  abbrev closed : List AlphaElement
  closed = alpha_run_element c ∷ difference_element k (pos s -ℤ pos v) ∷ run_elements k s 1 ss

  next : {b : Bool} → eqb s v && ltb c run_limit ≡ b → run_elements k v c (s ∷ ss) ≡ elim b [ true ↦ run_elements k v (suc c) ss | false ↦ closed ]
  unfolding run_elements
  next e = ap (λ (x : Bool). elim x [ true ↦ run_elements k v (suc c) ss | false ↦ closed ]) e

  pub run-same : s ≡ v → c < run_limit → run_elements k v c (s ∷ ss) ≡ run_elements k v (suc c) ss
  run-same e h = next (ap₂ (λ (x y : Bool). x && y) (eq-eqb s v e) (lt-ltb c run_limit h))

  pub run-other : (s ≡ v → ⊥) → run_elements k v c (s ∷ ss) ≡ closed
  run-other n = next (ap (λ (x : Bool). x && ltb c run_limit) (ne_eqb s v n))

  pub run-full : run_limit ≤ c → run_elements k v c (s ∷ ss) ≡ closed
  run-full h = next (both (eqb s v))
    where
      both : (b : Bool) → b && ltb c run_limit ≡ false
      both true = le-ltb c run_limit h
      both false = refl

-- ---- lengths

pub run_length_lem : (n : ℕ) → length (run_bits n) ≡ run_length n
unfolding run_bits run_length
run_length_lem n = go (eqb n 1) (leb n 16)
  where
    go : (a b : Bool) → length (cond a (true ∷ []) (cond b (false ∷ field 4 (n - 1)) (false ∷ field 4 0 ++ field 11 (n - 1)))) ≡ cond a 1 (cond b 5 16)
    go true b = refl
    go false true = omega (arith, length-field 4 (n - 1))
    go false false = omega (arith, length-append (field 4 0) (field 11 (n - 1)), length-field 4 0, length-field 11 (n - 1))

module _ (k : AlphaChannelType) where
  pub element-length : (e : AlphaElement) → length (alpha_element_bits k e) ≡ alpha_element_length k e
  unfolding alpha_element_bits alpha_element_length
  element-length (small_element m g) = omega (arith, length-append (field (small_width_of k) m) (g ∷ []), length-field (small_width_of k) m)
  element-length (escaped_element v) = omega (arith, length-field (width_of k) v)
  element-length (alpha_run_element n) = run_length_lem n

  pub bits-length : (es : List AlphaElement) → length (alpha_bits k es) ≡ alpha_size k es
  unfolding alpha_bits alpha_size
  bits-length [] = refl
  bits-length (e ∷ es) = length-append (alpha_element_bits k e) (alpha_bits k es) ∙ ap₂ (λ (a b : ℕ). a + b) (element-length e) (bits-length es)

-- The length of a code: it is the sum of its elements' lengths, and at most w + 2 bits for each sample: 10 of kind 1, 18 of kind 2.
-- Assumes nothing.
use Prim.Native.Nat.{ℕ, suc, ◌+◌, ◌-◌, ◌*◌, ◌^◌, ◌≤◌}
use native.Mathlib.Nat.{mul-le-mul, mul-le-mul_left}
use native.Mathlib.Omega.{arith}
use mathlib.Core.Path.{◌≡◌, refl, ap, subst}
use mathlib.Core.Bool.{Bool, true, false, cond, ◌&&◌}
use mathlib.Core.List.{List, [], ◌∷◌}
use lib.Dec.{leb, ltb, eqb}
use lib.IntN.{ℤ, pos, negsuc, nat_abs, ◌-ℤ◌}
use lib.ListN.{length}
use borrow.Author.Tests.{leb-false, eqb-false}
use Rattle.codeword_signs.specs.Signs.{is_negative}
use Rattle.alpha_elements.specs.declared.AlphaChannelType.{AlphaChannelType}
use Rattle.alpha_elements.specs.declared.AlphaChannelType.TheVariants.{Eight, Sixteen}
use Rattle.alpha_elements.specs.Kinds.{width_of, limit_of, most_bits_of}
use Rattle.alpha_elements.specs.Limits.{sample_limit, alpha_code_limit, run_limit}
use Rattle.alpha_elements.specs.Values.{residue}
use Rattle.alpha_elements.specs.Elements.{small_element, escaped_element, alpha_run_element, run_length, alpha_element_length, alpha_size, difference_element, run_elements, alpha_elements_of, encode_alpha}
use Rattle.alpha_elements.proofs.KindLaws.{most-bits, sizes}
use Rattle.alpha_elements.proofs.ElementLaws.{bits-length}

-- ---- the sum of lengths

pub encode-length : (k : AlphaChannelType) (ss : List ℕ) → length (encode_alpha k ss) ≡ alpha_size k (alpha_elements_of k ss)
unfolding encode_alpha
encode-length k ss = bits-length k (alpha_elements_of k ss)

-- ---- the bound

-- a run of n and a difference of w + 1 bits: w + 2 bits for each of the n samples
run-le : (w n : ℕ) → 2 ≤ w → 1 ≤ n → run_length n + (w + 1) ≤ (w + 2) * n
unfolding run_length
run-le w n hw h = go (eqb n 1) (leb n 16) refl refl
  where
    up : (n ≡ 1 → ⊥) → 2 ≤ n
    up f = omega arith

    go : (a b : Bool) → eqb n 1 ≡ a → leb n 16 ≡ b → cond a 1 (cond b 5 16) + (w + 1) ≤ (w + 2) * n
    go true b ea eb = let p : (w + 2) * 1 ≤ (w + 2) * n = mul-le-mul_left (w + 2) h in omega arith
    go false true ea eb = let p : (w + 2) * 2 ≤ (w + 2) * n = mul-le-mul_left (w + 2) (up (eqb-false n 1 ea)) in omega arith
    go false false ea eb = let p : (w + 2) * 17 ≤ (w + 2) * n = mul-le-mul_left (w + 2) (leb-false n 16 eb) in omega arith

pub difference-le : (k : AlphaChannelType) (d : ℤ) → alpha_element_length k (difference_element k d) ≤ width_of k + 1
unfolding alpha_element_length difference_element
difference-le k d = go (leb 1 (nat_abs d) && leb (nat_abs d) (limit_of k))
  where
    go : (c : Bool) → alpha_element_length k (cond c (small_element (nat_abs d - 1) (is_negative d)) (escaped_element (residue (2 ^ width_of k) d))) ≤ width_of k + 1
    go true = omega (arith, (sizes k).narrow)
    go false = omega arith

kind-two : (k : AlphaChannelType) → 2 ≤ width_of k
kind-two Eight = omega arith
kind-two Sixteen = omega arith

-- c samples were passed before ss, and their difference may take w + 1 bits
run-size : (k : AlphaChannelType) (ss : List ℕ) (v c : ℕ) → 1 ≤ c → alpha_size k (run_elements k v c ss) + (width_of k + 1) ≤ (width_of k + 2) * (c + length ss)
unfolding run_elements alpha_size alpha_element_length
run-size k [] v c h =
    let e : c + 0 ≡ c = omega arith in
    let a = run-le (width_of k) c (kind-two k) h in
    omega (arith, ap (λ (i : ℕ). (width_of k + 2) * i) e)
run-size k (s ∷ ss) v c h = go (run-size k ss) (eqb s v && ltb c run_limit)
  where
    go : ((v c : ℕ) → 1 ≤ c → alpha_size k (run_elements k v c ss) + (width_of k + 1) ≤ (width_of k + 2) * (c + length ss)) → (b : Bool)
        → alpha_size k (elim b [ true ↦ run_elements k v (suc c) ss | false ↦ alpha_run_element c ∷ difference_element k (pos s -ℤ pos v) ∷ run_elements k s 1 ss ]) + (width_of k + 1)
        ≤ (width_of k + 2) * (c + suc (length ss))
    go ih true =
        let e : suc c + length ss ≡ c + suc (length ss) = omega arith in
        subst (λ (i : ℕ). alpha_size k (run_elements k v (suc c) ss) + (width_of k + 1) ≤ (width_of k + 2) * i) e (ih v (suc c) (omega arith))
    go ih false = omega (arith, run-le (width_of k) c (kind-two k) h, difference-le k (pos s -ℤ pos v), ih s 1 (omega arith))

size-le : (k : AlphaChannelType) (ss : List ℕ) → alpha_size k (alpha_elements_of k ss) ≤ (width_of k + 2) * length ss
unfolding alpha_elements_of alpha_size
size-le k [] = omega arith
size-le k (s ∷ ss) =
    let e : 1 + length ss ≡ suc (length ss) = omega arith in
    omega (arith, difference-le k (pos s -ℤ negsuc 0), run-size k ss s 1 (omega arith), ap (λ (n : ℕ). (width_of k + 2) * n) e)

pub encode-le : (k : AlphaChannelType) (ss : List ℕ) → length (encode_alpha k ss) ≤ most_bits_of k * length ss
encode-le k ss = omega (arith, encode-length k ss, size-le k ss, ap (λ (m : ℕ). m * length ss) (most-bits k))

-- of a call
pub most-le : (k : AlphaChannelType) {n : ℕ} → n ≤ sample_limit → most_bits_of k * n ≤ alpha_code_limit
most-le k {n} few = mul-le-mul {n₁ = most_bits_of k} {m₁ = n} {n₂ = 18} {m₂ = sample_limit} (sizes k).most few

pub encode-most : (k : AlphaChannelType) (ss : List ℕ) → length ss ≤ sample_limit → length (encode_alpha k ss) ≤ alpha_code_limit
encode-most k ss few = omega (arith, encode-le k ss, most-le k few)

pub eight-le : (ss : List ℕ) → length (encode_alpha Eight ss) ≤ 10 * length ss
eight-le ss = encode-le Eight ss

pub sixteen-le : (ss : List ℕ) → length (encode_alpha Sixteen ss) ≤ 18 * length ss
sixteen-le ss = encode-le Sixteen ss

-- The round trip: the code of samples, with at most 7 zero bits behind it, decodes to them and leaves just those bits.
-- Assumes nothing.
use Prim.Native.Nat.{ℕ, zero, suc, ◌+◌, ◌-◌, ◌^◌, ◌≤◌, ◌<◌}
use native.Mathlib.Omega.{arith}
use mathlib.Core.Path.{◌≡◌, refl, sym, ap, ◌∙◌}
use mathlib.Core.Bool.{Bool, true, false, ◌&&◌}
use mathlib.Core.List.{List, [], ◌∷◌, ◌++◌, append_assoc, append-nil}
use lib.Dec.{leb, ltb, eqb}
use lib.IntN.{ℤ, pos, negsuc, ◌-ℤ◌}
use lib.ListN.{length, replicate}
use Rattle.std.proofs.lemmas.Bool.{and_parts}
use borrow.Author.Tests.{leb-true, ltb-true, eqb-true}
use Rattle.bitstream.specs.Bits.{ended}
use Rattle.answers.specs.Machine.{from, accepted}
use Rattle.alpha_elements.specs.declared.AlphaChannelType.{AlphaChannelType}
use Rattle.alpha_elements.specs.Kinds.{width_of, mask_of}
use Rattle.alpha_elements.specs.Limits.{run_limit, samples_in_range}
use Rattle.alpha_elements.specs.Elements.{alpha_run_element, alpha_element_bits, alpha_bits, difference_element, run_elements, alpha_elements_of, encode_alpha}
use Rattle.alpha_elements.specs.Decoding.{difference, alpha_run, alpha_step, alpha_finish, decode_alpha}
use Rattle.alpha_elements.proofs.KindLaws.{pow-width}
use Rattle.alpha_elements.proofs.StepLaws.{step_run, step-difference, step_end, finish-ended, from-moved, from-stop}

-- every sample is below 2^w
abbrev pub Small : AlphaChannelType → List ℕ → Type 0
Small k [] = Unit {0}
Small k (s ∷ ss) = (s < 2 ^ width_of k) × Small k ss

pub in_range-small : (k : AlphaChannelType) (ss : List ℕ) → samples_in_range k ss ≡ true → Small k ss
unfolding samples_in_range
in_range-small k [] e = tt
in_range-small k (s ∷ ss) e =
    let ab = and_parts (leb s (mask_of k)) (samples_in_range k ss) e in
    (omega (arith, leb-true s (mask_of k) ab.0, pow-width k), in_range-small k ss ab.1)

replicate-shift : (c v : ℕ) (ss : List ℕ) → replicate (suc c) v ++ ss ≡ replicate c v ++ v ∷ ss
replicate-shift zero v ss = refl
replicate-shift (suc c) v ss = ap {B = List ℕ} (λ r. v ∷ r) (replicate-shift c v ss)

module _ (k : AlphaChannelType) (z : List Bool) (few : length z ≤ 7) (none : ended z ≡ true) where
  end_back : (p : ℤ) (out : List ℕ) → from (alpha_step k) alpha_finish (difference 0 p) out z ≡ accepted out z
  end_back p out = from-stop k (difference 0 p) out z (step_end k p z) ∙ finish-ended (difference 0 p) out z few none

  -- a run and a difference
  pair-back : (left v c s : ℕ) (out : List ℕ) (t : List Bool) → 1 ≤ c → c ≤ run_limit → c < left → v < 2 ^ width_of k → s < 2 ^ width_of k
      → from (alpha_step k) alpha_finish (alpha_run left v) out (alpha_element_bits k (alpha_run_element c) ++ (alpha_element_bits k (difference_element k (pos s -ℤ pos v)) ++ t))
      ≡ from (alpha_step k) alpha_finish (alpha_run (left - c) s) (out ++ replicate c v ++ []) t
  pair-back left v c s out t h1 hc hl hv hs =
      from-moved k (alpha_run left v) out _ _ _ _ (step_run k left v c (alpha_element_bits k (difference_element k (pos s -ℤ pos v)) ++ t) h1 hc (omega arith))
      ∙ from-moved k (difference (left - c) (pos v)) (out ++ replicate c v) _ _ _ _ (step-difference k (left - c) (pos v) s t (omega arith) hv hs)

  -- c samples v were passed before ss
  abbrev RunBack : List ℕ → Type 0
  RunBack ss = (v c left : ℕ) (out : List ℕ) → 1 ≤ c → c ≤ run_limit → left ≡ c + length ss → v < 2 ^ width_of k → Small k ss
      → from (alpha_step k) alpha_finish (alpha_run left v) out (alpha_bits k (run_elements k v c ss) ++ z) ≡ accepted (out ++ (replicate c v ++ ss)) z

  last-back : RunBack []
  unfolding run_elements alpha_bits
  last-back v c left out h1 hc hl hv sm =
      let e : left - c ≡ 0 = omega arith in
      ap (λ (t : List Bool). from (alpha_step k) alpha_finish (alpha_run left v) out t) (append_assoc (alpha_element_bits k (alpha_run_element c)) [] z)
      ∙ from-moved k (alpha_run left v) out _ _ _ _ (step_run k left v c z h1 hc (omega arith))
      ∙ ap (λ (i : ℕ). from (alpha_step k) alpha_finish (difference i (pos v)) (out ++ replicate c v) z) e
      ∙ end_back (pos v) (out ++ replicate c v)
      ∙ ap (λ (o : List ℕ). accepted (out ++ o) z) (sym (append-nil (replicate c v)))

  -- a sample that begins a run
  other-back : (s : ℕ) (ss : List ℕ) → RunBack ss → (v c left : ℕ) (out : List ℕ) → 1 ≤ c → c ≤ run_limit → left ≡ c + suc (length ss) → v < 2 ^ width_of k
      → s < 2 ^ width_of k → Small k ss
      → from (alpha_step k) alpha_finish (alpha_run left v) out (alpha_bits k (alpha_run_element c ∷ difference_element k (pos s -ℤ pos v) ∷ run_elements k s 1 ss) ++ z)
      ≡ accepted (out ++ (replicate c v ++ s ∷ ss)) z
  unfolding alpha_bits
  other-back s ss ih v c left out h1 hc hl hv hs sm =
      ap (λ (t : List Bool). from (alpha_step k) alpha_finish (alpha_run left v) out t) (simp append_assoc)
      ∙ pair-back left v c s out (alpha_bits k (run_elements k s 1 ss) ++ z) h1 hc (omega arith) hv hs
      ∙ ih s 1 (left - c) (out ++ replicate c v ++ []) (omega arith) (omega arith) (omega arith) hs sm
      ∙ ap (λ (o : List ℕ). accepted o z) (simp (append_assoc, append-nil))

  run-back : (ss : List ℕ) → RunBack ss
  unfolding run_elements
  run-back [] v c left out h1 hc hl hv sm = last-back v c left out h1 hc hl hv sm
  run-back (s ∷ ss) v c left out h1 hc hl hv sm = go (run-back ss) (eqb s v && ltb c run_limit) refl
    where
      go : RunBack ss → (b : Bool) → eqb s v && ltb c run_limit ≡ b
          → from (alpha_step k) alpha_finish (alpha_run left v) out (alpha_bits k (elim b [ true ↦ run_elements k v (suc c) ss | false ↦ alpha_run_element c ∷ difference_element k (pos s -ℤ pos v) ∷ run_elements k s 1 ss ]) ++ z)
          ≡ accepted (out ++ (replicate c v ++ s ∷ ss)) z
      go ih true e =
          let ab = and_parts (eqb s v) (ltb c run_limit) e in
          ih v (suc c) left out (omega arith) (ltb-true c run_limit ab.1) (omega arith) hv sm.1
          ∙ ap (λ (o : List ℕ). accepted (out ++ o) z) (replicate-shift c v ss ∙ ap (λ (x : ℕ). replicate c v ++ x ∷ ss) (sym (eqb-true s v ab.0)))
      go ih false e = other-back s ss ih v c left out h1 hc hl hv sm.0 sm.1

  -- ---- the whole

  pub decode-encode : (ss : List ℕ) → Small k ss → decode_alpha k (length ss) (encode_alpha k ss ++ z) ≡ accepted ss z
  unfolding decode_alpha encode_alpha alpha_elements_of alpha_bits
  decode-encode [] sm = end_back (negsuc 0) []
  decode-encode (s ∷ ss) sm =
      let rest : List Bool = alpha_bits k (run_elements k s 1 ss) in
      ap (λ (t : List Bool). from (alpha_step k) alpha_finish (difference (suc (length ss)) (negsuc 0)) [] t)
      (append_assoc (alpha_element_bits k (difference_element k (pos s -ℤ negsuc 0))) rest z)
      ∙ from-moved k (difference (suc (length ss)) (negsuc 0)) [] _ _ _ _ (step-difference k (suc (length ss)) (negsuc 0) s (rest ++ z) (omega arith) tt sm.0)
      ∙ run-back ss s 1 (suc (length ss)) [] (omega arith) (omega arith) (omega arith) sm.0 sm.1

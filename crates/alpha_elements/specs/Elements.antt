-- The code of alpha samples: document 01, "Alpha"; RDD 36, 5.3.3 and 7.1.2. A list of samples is a list of elements, differences and runs in turn;
-- the code is their bits, one after another.
use Rattle.std.specs.Prelude.{ℕ, suc, ◌+◌, ◌-◌, ◌^◌, Bool, true, false, cond, ◌&&◌, List, [], ◌∷◌, ◌++◌, leb, ltb, eqb, ℤ, pos, negsuc, nat_abs, ◌-ℤ◌}
use Rattle.bitstream.specs.Bits.{field}
use Rattle.codeword_signs.specs.Signs.{is_negative}
use Rattle.alpha_elements.specs.declared.AlphaChannelType.{AlphaChannelType}
use Rattle.alpha_elements.specs.Kinds.{width_of, small_width_of, limit_of}
use Rattle.alpha_elements.specs.Limits.{run_limit}
use Rattle.alpha_elements.specs.Values.{residue}

-- a small difference's magnitude - 1 with its sign (1 is negative), an escaped difference mod 2^w, a run
pub data AlphaElement : Type 0 where
  small_element : ℕ → Bool → AlphaElement
  escaped_element : ℕ → AlphaElement
  alpha_run_element : ℕ → AlphaElement

-- 1 is `1`, up to 16 is `0` and run - 1 in 4 bits, a longer one is `00000` and run - 1 in 11 bits
unfoldable pub run_bits : ℕ → List Bool
run_bits n = cond (eqb n 1) (true ∷ []) (cond (leb n 16) (false ∷ field 4 (n - 1)) (false ∷ field 4 0 ++ field 11 (n - 1)))

unfoldable pub alpha_element_bits : AlphaChannelType → AlphaElement → List Bool
alpha_element_bits k (small_element m g) = false ∷ field (small_width_of k) m ++ (g ∷ [])
alpha_element_bits k (escaped_element v) = true ∷ field (width_of k) v
alpha_element_bits k (alpha_run_element n) = run_bits n

unfoldable pub alpha_bits : AlphaChannelType → List AlphaElement → List Bool
alpha_bits k [] = []
alpha_bits k (e ∷ es) = alpha_element_bits k e ++ alpha_bits k es

-- the lengths
unfoldable pub run_length : ℕ → ℕ
run_length n = cond (eqb n 1) 1 (cond (leb n 16) 5 16)

unfoldable pub alpha_element_length : AlphaChannelType → AlphaElement → ℕ
alpha_element_length k (small_element m g) = small_width_of k + 2
alpha_element_length k (escaped_element v) = width_of k + 1
alpha_element_length k (alpha_run_element n) = run_length n

unfoldable pub alpha_size : AlphaChannelType → List AlphaElement → ℕ
alpha_size k [] = 0
alpha_size k (e ∷ es) = alpha_element_length k e + alpha_size k es

-- a difference of magnitude 1 to the limit is small, any other is escaped
unfoldable pub difference_element : AlphaChannelType → ℤ → AlphaElement
difference_element k d =
    cond (leb 1 (nat_abs d) && leb (nat_abs d) (limit_of k)) (small_element (nat_abs d - 1) (is_negative d)) (escaped_element (residue (2 ^ width_of k) d))

-- c samples v were passed since the last run: the longest run is taken, up to the limit
unfoldable pub run_elements : AlphaChannelType → ℕ → ℕ → List ℕ → List AlphaElement
run_elements k v c [] = alpha_run_element c ∷ []
run_elements k v c (s ∷ ss) =
    elim (eqb s v && ltb c run_limit) [ true ↦ run_elements k v (suc c) ss | false ↦ alpha_run_element c ∷ difference_element k (pos s -ℤ pos v) ∷ run_elements k s 1 ss ]

-- the previous value starts at -1
unfoldable pub alpha_elements_of : AlphaChannelType → List ℕ → List AlphaElement
alpha_elements_of k [] = []
alpha_elements_of k (s ∷ ss) = difference_element k (pos s -ℤ negsuc 0) ∷ run_elements k s 1 ss

unfoldable pub encode_alpha : AlphaChannelType → List ℕ → List Bool
encode_alpha k ss = alpha_bits k (alpha_elements_of k ss)

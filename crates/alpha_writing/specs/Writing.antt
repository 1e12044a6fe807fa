-- The alpha encoder's own terms, in its functions' contracts: the code from a sample on, a run, and a pair of a difference and its run.
use Rattle.std.specs.Prelude.{ℕ, ◌+◌, ◌≤◌, ◌<◌, ◌≡◌, Bool, true, List, [], ◌∷◌, ◌++◌, pos, ◌-ℤ◌, length, drop, get_or}
use Rattle.bitstream_writer.specs.Words.{word_bits}
use Rattle.alpha_elements.specs.declared.AlphaChannelType.{AlphaChannelType}
use Rattle.alpha_elements.specs.Kinds.{mask_of}
use Rattle.alpha_elements.specs.Limits.{run_limit, samples_in_range}
use Rattle.alpha_elements.specs.Values.{previous_of}
use Rattle.alpha_elements.specs.Elements.{AlphaElement, alpha_run_element, run_bits, alpha_element_bits, alpha_bits, difference_element, run_elements}
use Rattle.alpha_writing.specs.declared.Pair.{Pair}

-- where no run is open; p is one more than the previous value
unfoldable pub elements_from : AlphaChannelType → ℕ → List ℕ → List AlphaElement
elements_from k p [] = []
elements_from k p (s ∷ ss) = difference_element k (pos s -ℤ previous_of p) ∷ run_elements k s 1 ss

unfoldable pub code_from : AlphaChannelType → ℕ → List ℕ → List Bool
code_from k p ss = alpha_bits k (elements_from k p ss)

-- a difference, and a run of n
unfoldable pub pair_bits : AlphaChannelType → ℕ → ℕ → ℕ → List Bool
pair_bits k p v n = alpha_element_bits k (difference_element k (pos v -ℤ previous_of p)) ++ run_bits n

-- the first n samples are a run, and the next one, if there is one, begins another
pub record RunOf (ss : List ℕ) (n : ℕ) : Type 0 where
  pub some : 1 ≤ n
  pub most : n ≤ run_limit
  pub inside : n ≤ length ss
  pub is : (k : AlphaChannelType)
      → run_elements k (get_or ss 0 0) 1 (drop 1 ss) ≡ alpha_run_element n ∷ elements_from k (get_or ss 0 0 + 1) (drop n ss)

-- samples are left, and p may be carried
pub record SamplesDue (k : AlphaChannelType) (ss : List ℕ) (p : ℕ) : Type 0 where
  pub small : samples_in_range k ss ≡ true
  pub carried : p ≤ mask_of k + 1
  pub some : 0 < length ss

-- the pair r writes the next difference and its run; what follows is the code from there on
pub record PairOf (k : AlphaChannelType) (ss : List ℕ) (p : ℕ) (r : Pair) : Type 0 where
  pub some : 1 ≤ r.run
  pub inside : r.run ≤ length ss
  pub carried : r.prev ≤ mask_of k + 1
  pub short : r.word.len ≤ 33
  pub is : code_from k p ss ≡ word_bits r.word ++ code_from k r.prev (drop r.run ss)

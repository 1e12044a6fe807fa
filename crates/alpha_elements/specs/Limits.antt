-- The limits of the alpha coder: document 01, "What the cart keeps" and refusal 4.
use Rattle.std.specs.Prelude.{ℕ, ◌*◌, Bool, true, ◌&&◌, List, [], ◌∷◌, leb}
use Rattle.alpha_elements.specs.declared.AlphaChannelType.{AlphaChannelType}
use Rattle.alpha_elements.specs.declared.AlphaChannelType.TheVariants.{Sixteen}
use Rattle.alpha_elements.specs.Kinds.{mask_of, most_bits_of}

-- samples per call
abbrev pub sample_limit : ℕ
sample_limit = 16384

-- the most bits of a call's code
abbrev pub alpha_code_limit : ℕ
alpha_code_limit = most_bits_of Sixteen * sample_limit

-- the longest run that can be written
abbrev pub run_limit : ℕ
run_limit = 2048

-- every sample is in range
unfoldable pub samples_in_range : AlphaChannelType → List ℕ → Bool
samples_in_range k [] = true
samples_in_range k (s ∷ ss) = leb s (mask_of k) && samples_in_range k ss

-- Samples and differences: document 01, "Alpha". Over whole numbers; the previous value starts at -1.
use Rattle.std.specs.Prelude.{ℕ, zero, suc, ◌-◌, ◌%◌, ◌^◌, ℤ, pos, negsuc, ◌+ℤ◌}
use Rattle.alpha_elements.specs.declared.AlphaChannelType.{AlphaChannelType}
use Rattle.alpha_elements.specs.Kinds.{width_of}

-- z mod m, which is 0 to m - 1
unfoldable pub residue : ℕ → ℤ → ℕ
residue m (pos a) = a % m
residue m (negsuc a) = m - 1 - a % m

-- the sample of difference d after the previous value p: (p + d) mod 2^w
unfoldable pub sample_of : AlphaChannelType → ℤ → ℤ → ℕ
sample_of k p d = residue (2 ^ width_of k) (p +ℤ d)

-- what the code carries as the previous value is one more than it
abbrev pub previous_of : ℕ → ℤ
previous_of zero = negsuc 0
previous_of (suc q) = pos q

-- The codebooks in use, whose codewords are one field each.
use Rattle.std.specs.Prelude.{◌≤◌}
use Rattle.codeword.specs.declared.Codebook.{Codebook}
use Rattle.codeword.specs.declared.Codebook.TheVariants.{ExpGolomb, RiceExp}

-- what the ten codebooks in use have in common: their parameters are small
abbrev pub InUse : Codebook → Type 0
InUse (ExpGolomb k) = k ≤ 5
InUse (RiceExp q r e) = (q ≤ 2) × (r ≤ 2) × (e ≤ 3)

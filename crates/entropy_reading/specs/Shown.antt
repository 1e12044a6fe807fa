-- A run, a level and its sign that one word shows. B is a payload's bits.
use Rattle.std.specs.Prelude.{◌+◌, Bool, List}
use Rattle.codeword.specs.Codewords.{read_code}
use Rattle.codeword_peek.specs.declared.Peeked.{Peeked}
use Rattle.entropy_steps.specs.Given.{Gives, HasBit}
use Rattle.entropy_steps.specs.declared.Acs.{Acs}

pub record PairShown (B : List Bool) (s : Acs) (run level : Peeked) (negative : Bool) : Type 0 where
  pub first : Gives (read_code s.runs) B s.at run.value (s.at + run.len)
  pub second : Gives (read_code s.levels) B (s.at + run.len) level.value (s.at + run.len + level.len)
  pub sign : HasBit B (s.at + run.len + level.len) negative (s.at + run.len + level.len + 1)

-- An answer as a result, which is 0 or the number of a refusal, and a number, which is 0 beside a refusal.
use Rattle.std.specs.Prelude.{ℕ, Result, Ok, Err}
use Rattle.answers.specs.Refusals.{number_of}
use Rattle.answers.specs.declared.Refusal.{Refusal}

pub record Number : Type 0 where
  pub result : ℕ
  pub value : ℕ

abbrev pub told_number : Result ℕ Refusal → Number
told_number (Ok n) = record { result = 0; value = n }
told_number (Err why) = record { result = number_of why; value = 0 }

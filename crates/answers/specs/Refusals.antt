-- Document 01, "Refusal numbers": the number of each refusal.
use Rattle.std.specs.Prelude.{ℕ}
use Rattle.answers.specs.declared.Refusal.{Refusal}
use Rattle.answers.specs.declared.Refusal.TheVariants.{Limit, Length, Value, Short, Codeword, Overrun, Range, LongRun, AlphaOverrun, Tail, Padding, Selector}

abbrev pub number_of : Refusal → ℕ
number_of Limit = 1
number_of Length = 2
number_of Value = 4
number_of Short = 5
number_of Codeword = 6
number_of Overrun = 7
number_of Range = 8
number_of LongRun = 9
number_of AlphaOverrun = 10
number_of Tail = 11
number_of Padding = 12
number_of Selector = 13

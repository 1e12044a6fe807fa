-- What the code answers for one element, whatever the elements are: what it leads to, or why it is refused; and that the reader of elements steps so.
-- C is what a step counts and the code does not look at.
use Rattle.std.specs.Prelude.{◌≡◌, Result, Ok, Err}
use Rattle.answers.specs.Refusals.{number_of}
use Rattle.answers.specs.Machine.{Step, refuses}
use Rattle.answers.specs.declared.Refusal.{Refusal}

-- as a step, where what it leads to is one
abbrev pub element_says : {S O T : Type 0} → (T → Step S O) → Result T Refusal → Step S O
element_says to (Ok t) = to t
element_says to (Err why) = refuses (number_of why)

-- what it leads to has what the next element asks for
abbrev pub Kept : {T : Type 0} → (T → Type 0) → Result T Refusal → Type 0
Kept Keeps (Ok t) = Keeps t
Kept Keeps (Err why) = Unit {0}

-- the element that is due is answered by a
pub record Stepped {S O C T : Type 0} (to : C → T → Step S O) (Keeps : T → Type 0) (due : C → Step S O) (a : Result T Refusal) : Type 0 where
  pub is : (c : C) → due c ≡ element_says (to c) a
  pub keeps : Kept Keeps a

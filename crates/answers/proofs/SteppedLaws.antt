-- An element that begins with what is read: it is refused where that is, and else it is what follows.
-- Assumes nothing.
use Prim.Native.Nat.{ℕ}
use Rattle.std.specs.Prelude.{Result, Err}
use mathlib.Core.Path.{◌≡◌, ◌∙◌}
use mathlib.Core.Bool.{Bool}
use mathlib.Core.List.{List}
use Rattle.answers.specs.Refusals.{number_of}
use Rattle.answers.specs.Reading.{Parsed, got, refused}
use Rattle.answers.specs.Machine.{Step, on_read}
use Rattle.answers.specs.Stepped.{Stepped}
use Rattle.answers.specs.declared.Refusal.{Refusal}
use Rattle.answers.proofs.StepLaws.{on_read-no, on_read-got}

module _ {S O C T : Type 0} {to : C → T → Step S O} {Keeps : T → Type 0} {due : C → Step S O} {x : Parsed}
    (f : C → ℕ → List Bool → Step S O) (begins : (c : C) → due c ≡ on_read x (f c)) where
  pub stepped-no : {why : Refusal} → x ≡ refused (number_of why) → Stepped to Keeps due (Err why)
  stepped-no e = record { is = λ c. begins c ∙ on_read-no (f c) e; keeps = tt }

  pub stepped-got : {n : ℕ} {t : List Bool} {a : Result T Refusal} → x ≡ got n t → Stepped to Keeps (λ c. f c n t) a → Stepped to Keeps due a
  stepped-got e s = record { is = λ c. begins c ∙ on_read-got (f c) e ∙ s.is c; keeps = s.keeps }

-- an element that comes down to another is answered as that is
pub stepped_by : {S O C T : Type 0} {to : C → T → Step S O} {Keeps : T → Type 0} {due other : C → Step S O} {a : Result T Refusal} → ((c : C) → due c ≡ other c)
    → Stepped to Keeps other a → Stepped to Keeps due a
stepped_by e s = record { is = λ c. e c ∙ s.is c; keeps = s.keeps }

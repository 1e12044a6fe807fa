-- A level with its sign: what the code answers for it, and that the reader of coefficients steps so, with `left` places left before it. Document 01, AC
-- and refusal 8.
use Rattle.std.specs.Prelude.{ℕ, ◌+◌, ◌-◌, ◌≤◌, ◌≡◌, Bool, List, [], ◌∷◌, ℤ, length, drop, Result, Ok, Err, Option, Some, None}
use Rattle.answers.specs.Machine.{moved}
use Rattle.answers.specs.Stepped.{Stepped}
use Rattle.answers.specs.declared.Refusal.{Refusal}
use Rattle.answers.specs.declared.Refusal.TheVariants.{Range}
use Rattle.codeword_books.specs.Books.{level_book}
use Rattle.entropy_elements.specs.Decoding.{State, run, level, StepC, level_to, step}
use Rattle.entropy_steps.specs.RunSteps.{BooksInUse}
use Rattle.entropy_steps.specs.declared.Acs.{Acs}

-- ---- what is due: the level at s; or its sign alone, at bit `at` behind the level's symbol

abbrev pub level_state : Acs → ℕ → State
level_state s left = level left s.runs s.levels

abbrev pub level_due : Acs → List Bool → ℕ → StepC
level_due s B left = step (level_state s left) (drop s.at B)

abbrev pub sign_due : Acs → ℕ → ℕ → List Bool → ℕ → StepC
sign_due s symbol at B left = level_to left s.runs symbol (drop at B)

-- ---- where it leads

unfoldable pub level_step_of : Option ℤ → Acs → ℕ → ℕ → Result (ℤ × Acs) Refusal
level_step_of (Some v) s symbol at = Ok (v, record { at = at; place = s.place + 1; runs = s.runs; levels = level_book symbol })
level_step_of None s symbol at = Err Range

abbrev pub level_moves : List Bool → ℕ → ℤ × Acs → StepC
level_moves B left a = moved (run (left - 1) a.1.runs a.1.levels) (a.0 ∷ []) (drop a.1.at B)

-- what the next step asks for
pub record LevelIn (B : List Bool) (place : ℕ) (n : Acs) : Type 0 where
  pub onward : n.place ≡ place + 1
  pub within : n.at ≤ length B
  pub books : BooksInUse n

-- the level that is due at a place is answered by r
abbrev pub LevelStepped : List Bool → ℕ → (List Bool → ℕ → StepC) → Result (ℤ × Acs) Refusal → Type 0
LevelStepped B place due r = Stepped (level_moves B) (λ a. LevelIn B place a.1) (due B) r

-- A run and its level: what the reading of coefficients goes on to, whatever came out before.
use Rattle.std.specs.Prelude.{ℕ, ◌-◌, ◌≤◌, ◌<◌, ◌≡◌, Bool, List, [], ◌∷◌, ◌++◌, ℤ, length, drop, Result, Ok, Err}
use Rattle.answers.specs.Machine.{Rejects, from}
use Rattle.answers.specs.Refusals.{number_of}
use Rattle.entropy_elements.specs.Decoding.{nil, OutC, step, finish}
use Rattle.entropy_steps.specs.RunSteps.{BooksInUse, run_state}
use Rattle.entropy_steps.specs.declared.Acs.{Acs}
use Rattle.answers.specs.declared.Refusal.{Refusal}

abbrev pub from_run : List Bool → ℕ → Acs → List ℤ → OutC
from_run B total s out = from step finish (run_state total s) out (drop s.at B)

-- the zeros of the run, and the level
abbrev pub pair_values : Acs → ℤ → Acs → List ℤ
pair_values s v n = nil (n.place - 1 - s.place) ++ (v ∷ [])

pub record PairTo (B : List Bool) (total : ℕ) (s : Acs) (v : ℤ) (n : Acs) : Type 0 where
  pub is : (out : List ℤ) → from_run B total s out ≡ from_run B total n (out ++ pair_values s v n)
  pub further : s.place < n.place
  pub room : n.place ≤ total
  pub within : n.at ≤ length B
  pub books : BooksInUse n

abbrev pub PairStepped : List Bool → ℕ → Acs → Result (ℤ × Acs) Refusal → Type 0
PairStepped B total s (Ok (v, n)) = PairTo B total s v n
PairStepped B total s (Err why) = (out : List ℤ) → Rejects (number_of why) (from_run B total s out)

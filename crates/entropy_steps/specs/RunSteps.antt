-- A run: what the code answers for it, and that the reader of coefficients steps so. The run is due at s, and the level behind it where it leads.
-- Document 01, AC and refusal 7.
use Rattle.std.specs.Prelude.{ℕ, ◌+◌, ◌-◌, ◌≤◌, ◌<◌, ◌≡◌, Bool, false, cond, List, ltb, length, drop, Result, Ok, Err}
use Rattle.answers.specs.Machine.{moved}
use Rattle.answers.specs.Stepped.{Stepped}
use Rattle.answers.specs.declared.Refusal.{Refusal}
use Rattle.answers.specs.declared.Refusal.TheVariants.{Overrun}
use Rattle.bitstream.specs.Bits.{ended}
use Rattle.codeword.specs.Words.{InUse}
use Rattle.codeword_books.specs.Books.{run_book}
use Rattle.entropy_elements.specs.Decoding.{nil, State, run, level, StepC, step}
use Rattle.entropy_steps.specs.declared.Acs.{Acs}

-- ---- it is due: places remain, and data has not ended

pub record BooksInUse (s : Acs) : Type 0 where
  pub runs : InUse s.runs
  pub levels : InUse s.levels

pub record RunDue (B : List Bool) (total : ℕ) (s : Acs) : Type 0 where
  pub room : s.place < total
  pub more : ended (drop s.at B) ≡ false
  pub books : BooksInUse s

abbrev pub run_state : ℕ → Acs → State
run_state total s = run (total - s.place) s.runs s.levels

-- ---- where it leads

abbrev pub behind_run : Acs → ℕ → ℕ → Acs
behind_run s n at = record { at = at; place = s.place + n; runs = run_book n; levels = s.levels }

unfoldable pub run_step_of : ℕ → Acs → ℕ → ℕ → Result Acs Refusal
run_step_of total s n at = cond (ltb n (total - s.place)) (Ok (behind_run s n at)) (Err Overrun)

abbrev pub run_moves : List Bool → ℕ → Acs → Unit {0} → Acs → StepC
run_moves B total s c n = moved (level (total - n.place) n.runs n.levels) (nil (n.place - s.place)) (drop n.at B)

-- what the next step asks for
pub record RunIn (B : List Bool) (total : ℕ) (s n : Acs) : Type 0 where
  pub onward : s.place ≤ n.place
  pub room : n.place < total
  pub within : n.at ≤ length B
  pub books : BooksInUse n

-- the run that is due at s is answered by r
abbrev pub RunStepped : List Bool → ℕ → Acs → Result Acs Refusal → Type 0
RunStepped B total s r = Stepped (run_moves B total s) (RunIn B total s) (λ c. step (run_state total s) (drop s.at B)) r

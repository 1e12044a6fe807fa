-- Where a reading of coefficients stands between two steps: the outcome from here is the outcome from the start, and the places of the list that are
-- not settled are 0. Each loop's invariant is one of these records.
use Rattle.std.specs.Prelude.{ℕ, ◌-◌, ◌*◌, ◌≤◌, ◌≡◌, Bool, List, ℤ, nat_abs, length, drop, Result, Ok, Err}
use Rattle.answers.specs.Machine.{Rejects, Stands}
use Rattle.answers.specs.Refusals.{number_of}
use Rattle.answers.specs.declared.Refusal.{Refusal}
use Rattle.codeword.specs.Words.{InUse}
use Rattle.codeword_books.specs.Books.{run_book, level_book}
use Rattle.entropy_elements.specs.Limits.{most}
use Rattle.entropy_elements.specs.Decoding.{nil, State, step, finish, decode}
use Rattle.entropy_steps.specs.DcSteps.{DcsLeft, behind_dc}
use Rattle.entropy_steps.specs.RunSteps.{BooksInUse, run_state}
use Rattle.entropy_steps.specs.declared.Dcs.{Dcs}
use Rattle.entropy_steps.specs.declared.Acs.{Acs}

-- a list of `total` places whose places from `place` on are 0
pub record ZeroBehind (total place : ℕ) (out : List ℤ) : Type 0 where
  pub behind : drop place out ≡ nil (total - place)
  pub long : length out ≡ total

-- the reading of the bits B, for so many blocks, with `place` coefficients settled
pub record CoefficientsStand (B : List Bool) (blocks : ℕ) (st : State) (place at : ℕ) (out : List ℤ) : Type 0 where
  pub stands : Stands step finish B (decode blocks B) st place at out
  pub zeros : ZeroBehind (64 * blocks) place out

-- what is due behind n DCs
abbrev pub left_behind : ℕ → ℕ → DcsLeft
left_behind blocks n = record { dcs = blocks - n; places = 63 * blocks }

-- n DCs were read
pub record DcsStand (B : List Bool) (blocks n : ℕ) (s : Dcs) (out : List ℤ) : Type 0 where
  pub here : CoefficientsStand B blocks (behind_dc s (left_behind blocks n)) n s.at out
  pub range : nat_abs s.dc ≤ most
  pub due : n ≤ blocks
  pub book : InUse s.book

-- a run is due next, if places remain
pub record AcsStand (B : List Bool) (blocks : ℕ) (s : Acs) (out : List ℤ) : Type 0 where
  pub here : CoefficientsStand B blocks (run_state (64 * blocks) s) s.place s.at out
  pub room : s.place ≤ 64 * blocks
  pub books : BooksInUse s

-- ---- behind the DCs

abbrev pub behind_dcs : ℕ → ℕ → Acs
behind_dcs blocks at = record { at = at; place = blocks; runs = run_book 4; levels = level_book 1 }

-- what the reading of the DCs came to
abbrev pub DcsRead : List Bool → ℕ → List ℤ → Result ℕ Refusal → Type 0
DcsRead B blocks out (Ok at) = AcsStand B blocks (behind_dcs blocks at) out
DcsRead B blocks out (Err why) = Rejects (number_of why) (decode blocks B)

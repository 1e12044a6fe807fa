-- A run that was read: the reader of coefficients steps as the transition answers.
-- Assumes nothing.
use Prim.Native.Nat.{ℕ, ◌≤◌, ◌+◌, ◌-◌, ◌<◌}
use native.Mathlib.Omega.{arith}
use mathlib.Core.Path.{◌≡◌, refl, sym, ap, ap₂, ◌∙◌}
use mathlib.Core.Bool.{Bool, true, false, cond}
use mathlib.Core.List.{List}
use lib.Dec.{ltb}
use lib.ListN.{length, drop, drop_of_length-le}
use native.Mathlib.Decide.{dec_le}
use mathlib.Core.Bool.{true≢false}
use Rattle.bitstream.specs.Bits.{bits_of, ended}
use Rattle.bitstream.specs.Told.{payload_limit, InPayload}
use borrow.Author.Tests.{ltb-true}
use Rattle.answers.specs.Machine.{moved, refuses}
use Rattle.answers.specs.Stepped.{Stepped}
use Rattle.answers.specs.declared.Refusal.TheVariants.{Overrun}
use Rattle.codeword.specs.Codewords.{read_code}
use Rattle.codeword_books.specs.Books.{run_book}
use Rattle.codeword_books.proofs.BookLaws.{run_book-in-use}
use Rattle.entropy_elements.specs.Decoding.{nil, level, StepC, run_to}
use Rattle.entropy_steps.specs.Given.{Gives}
use Rattle.entropy_steps.specs.RunSteps.{RunDue, run_state, behind_run, run_step_of, run_moves, RunIn, RunStepped}
use Rattle.entropy_steps.specs.declared.Acs.{Acs}
use Rattle.std.specs.Prelude.{Result, Ok, Err}
use Rattle.answers.specs.declared.Refusal.{Refusal}
use Rattle.entropy_steps.proofs.ElementLaws.{stops, run-goes, element-got}

-- ---- where it leads

module _ (total : ℕ) (s : Acs) (n at : ℕ) where
  pub run_step_of-to : (t : Acs) → run_step_of total s n at ≡ Ok t → t ≡ behind_run s n at
  unfolding run_step_of
  run_step_of-to t = go (ltb n (total - s.place))
    where
      go : (b : Bool) → cond b (Ok (behind_run s n at)) (Err Overrun) ≡ Ok t → t ≡ behind_run s n at
      go true e = cc
      go false e = absurd (let z : ◌≡◌ {A = ℕ} 0 1 = cc in omega arith)

-- ---- the reader of coefficients steps so

module _ (B : List Bool) (total : ℕ) (s : Acs) (due : RunDue B total s) where
  pub run-due : stops (run_state total s) (drop s.at B) ≡ false
  run-due = run-goes (total - s.place) s.runs s.levels (drop s.at B) (omega (arith, due.room)) due.more

  module _ (n at : ℕ) (g : Gives (read_code s.runs) B s.at n at) where
    abbrev RunTold : (Unit {0} → StepC) → Result Acs Refusal → Type 0
    RunTold step r = Stepped (run_moves B total s) (RunIn B total s) step r

    run-told : RunTold (λ c. run_to (total - s.place) s.levels n (drop at B)) (run_step_of total s n at)
    unfolding run_to run_step_of
    run-told = go (ltb n (total - s.place)) refl
      where
        go : (b : Bool) → ltb n (total - s.place) ≡ b
            → RunTold (λ c. cond b (moved (level (total - s.place - n) (run_book n) s.levels) (nil n) (drop at B)) (refuses 7)) (cond b (Ok (behind_run s n at)) (Err Overrun))
        go true e =
            let h : n < total - s.place = ltb-true n (total - s.place) e in
            let a : total - s.place - n ≡ total - (s.place + n) = omega arith in
            let b : n ≡ s.place + n - s.place = omega arith in
            record {
              is = λ c. ap₂ (λ (i j : ℕ). moved (level i (run_book n) s.levels) (nil j) (drop at B)) a b;
              keeps = record { onward = omega arith; room = omega arith; within = g.within; books = record { runs = run_book-in-use n; levels = due.books.levels } };
            }
        go false e = record { is = λ c. refl; keeps = tt }

    pub run-stepped : RunStepped B total s (run_step_of total s n at)
    run-stepped = element-got (λ c. run_state total s) s.runs (drop s.at B) (λ c. refl) (λ c. run-due) g.is run-told

-- where a run is due, the payload has not ended
pub due-placed : (p : List ℕ) (total : ℕ) (s : Acs) → RunDue (bits_of p) total s → length p ≤ payload_limit → InPayload p s.at
unfolding ended
due-placed p total s due h = record { fits = h; within = go (dec_le s.at (length (bits_of p))) }
  where
    go : Dec (s.at ≤ length (bits_of p)) → s.at ≤ length (bits_of p)
    go (yes l) = l
    go (no l) = absurd (true≢false (sym (ap ended (drop_of_length-le (bits_of p) (omega arith))) ∙ due.more))

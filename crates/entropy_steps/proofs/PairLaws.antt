-- A run and its level, one after the other, as a step of the reading.
-- Assumes nothing.
use Prim.Native.Nat.{ℕ, ◌+◌, ◌-◌}
use native.Mathlib.Omega.{arith}
use mathlib.Core.Path.{◌≡◌, ap, ap₂, ◌∙◌}
use mathlib.Core.Bool.{Bool}
use mathlib.Core.List.{List, [], ◌∷◌, ◌++◌, append_assoc}
use lib.IntN.{ℤ}
use lib.ListN.{drop}
use Rattle.answers.specs.Machine.{from}
use Rattle.answers.specs.Refusals.{number_of}
use Rattle.answers.specs.declared.Refusal.{Refusal}
use Rattle.entropy_elements.specs.Decoding.{nil, run, step, finish}
use Rattle.entropy_elements.proofs.StepLaws.{from-moved, from-refused}
use Rattle.entropy_steps.specs.RunSteps.{RunStepped}
use Rattle.entropy_steps.specs.LevelSteps.{level_due, LevelStepped}
use Rattle.entropy_steps.specs.PairSteps.{PairStepped}
use Rattle.entropy_steps.specs.declared.Acs.{Acs}
use Rattle.std.specs.Prelude.{Result, Ok, Err}

-- the run is refused
pub pair-no : (B : List Bool) (total : ℕ) (s : Acs) (why : Refusal) → RunStepped B total s (Err why) → PairStepped B total s (Err why)
pair-no B total s why r out = record { bits = drop s.at B; is = from-refused _ out (drop s.at B) (number_of why) (r.is tt) }

-- the run moves to n, and the level there is answered by x
pub pair-on : (B : List Bool) (total : ℕ) (s n : Acs) → RunStepped B total s (Ok n) → (x : Result (ℤ × Acs) Refusal)
    → LevelStepped B n.place (level_due n) x → PairStepped B total s x
pair-on B total s n r (Err why) l = λ out.
    record {
      bits = drop n.at B;
      is = from-moved _ out (drop s.at B) _ _ _ (r.is tt) ∙ from-refused _ (out ++ nil (n.place - s.place)) (drop n.at B) (number_of why) (l.is (total - n.place));
    }
pair-on B total s n r (Ok (v, t)) l =
    let e : t.place ≡ n.place + 1 = l.keeps.onward in
    let left : total - n.place - 1 ≡ total - t.place = omega arith in
    let zeros : n.place - s.place ≡ t.place - 1 - s.place = omega arith in
    record {
      is = λ out.
          from-moved _ out (drop s.at B) _ _ _ (r.is tt)
          ∙ from-moved _ (out ++ nil (n.place - s.place)) (drop n.at B) _ _ _ (l.is (total - n.place))
          ∙ ap (λ (l : List ℤ). from step finish (run (total - n.place - 1) t.runs t.levels) l (drop t.at B)) (append_assoc out (nil (n.place - s.place)) (v ∷ []))
          ∙ ap₂ (λ (i j : ℕ). from step finish (run i t.runs t.levels) (out ++ (nil j ++ (v ∷ []))) (drop t.at B)) left zeros;
      further = omega (arith, r.keeps.onward);
      room = omega (arith, r.keeps.room);
      within = l.keeps.within;
      books = l.keeps.books;
    }

-- The laws of a reader of elements, once for all: no count is left in them. They ask that a step that moves leaves fewer bits.
-- Assumes nothing.
use Prim.Native.Nat.{ℕ, zero, suc, ◌<◌}
use native.Mathlib.Omega.{arith}
use mathlib.Core.Path.{◌≡◌, refl, ap, ◌∙◌}
use mathlib.Core.Bool.{Bool}
use mathlib.Core.List.{List, ◌++◌}
use lib.ListN.{length}
use Rattle.answers.specs.Machine.{Step, moved, stop, refuses, Out, rejected, on_step, elements, from}
use Rattle.answers.proofs.StepLaws.{Takes}

module _ {S O : Type 0} (step : S → List Bool → Step S O) (finish : S → List O → List Bool → Out S O)
    (shrinks : (st : S) (bs : List Bool) → Takes 1 bs (step st bs)) where
  enough : (f g : ℕ) (st : S) (out : List O) (bs : List Bool) → length bs < f → length bs < g → elements step finish f st out bs ≡ elements step finish g st out bs
  unfolding elements
  enough zero g st out bs h k = absurd (omega arith)
  enough (suc f) zero st out bs h k = absurd (omega arith)
  enough (suc f) (suc g) st out bs h k = go (λ s o t a b. enough f g s o t a b) (step st bs) refl
    where
      go : ((s : S) (o : List O) (t : List Bool) → length t < f → length t < g → elements step finish f s o t ≡ elements step finish g s o t)
          → (x : Step S O) → step st bs ≡ x
          → on_step step finish x st out bs (λ s o t. elements step finish f s o t) ≡ on_step step finish x st out bs (λ s o t. elements step finish g s o t)
      go ih (moved s o t) e = let c = (shrinks st bs).fewer s o t e in ih s (out ++ o) t (omega arith) (omega arith)
      go ih stop e = refl
      go ih (refuses n) e = refl

  pub from_step : (st : S) (out : List O) (bs : List Bool) → from step finish st out bs ≡ on_step step finish (step st bs) st out bs (from step finish)
  unfolding from elements
  from_step st out bs = go (step st bs) refl
    where
      go : (x : Step S O) → step st bs ≡ x
          → on_step step finish x st out bs (λ s o t. elements step finish (length bs) s o t) ≡ on_step step finish x st out bs (λ s o t. elements step finish (suc (length t)) s o t)
      go (moved s o t) e = let c = (shrinks st bs).fewer s o t e in enough (length bs) (suc (length t)) s (out ++ o) t (omega arith) (omega arith)
      go stop e = refl
      go (refuses n) e = refl

  pub from-moved : (st : S) (out : List O) (bs : List Bool) (s : S) (o : List O) (t : List Bool) → step st bs ≡ moved s o t
      → from step finish st out bs ≡ from step finish s (out ++ o) t
  from-moved st out bs s o t e = from_step st out bs ∙ ap (λ (x : Step S O). on_step step finish x st out bs (from step finish)) e

  pub from-stop : (st : S) (out : List O) (bs : List Bool) → step st bs ≡ stop → from step finish st out bs ≡ finish st out bs
  from-stop st out bs e = from_step st out bs ∙ ap (λ (x : Step S O). on_step step finish x st out bs (from step finish)) e

  pub from-refused : (st : S) (out : List O) (bs : List Bool) (k : ℕ) → step st bs ≡ refuses k → from step finish st out bs ≡ rejected k bs
  from-refused st out bs k e = from_step st out bs ∙ ap (λ (x : Step S O). on_step step finish x st out bs (from step finish)) e

-- A reading to the end never stays under way: it is accepted or rejected. So it answers a refusal exactly where it is rejected.
-- Assumes nothing.
use Prim.Native.Nat.{ℕ, zero, suc, ◌<◌}
use native.Mathlib.Omega.{arith}
use mathlib.Core.Path.{◌≡◌, refl}
use mathlib.Core.Bool.{Bool, true, false, cond}
use mathlib.Core.List.{List, ◌++◌}
use lib.ListN.{length}
use Rattle.answers.specs.Machine.{Step, moved, stop, refuses, Out, accepted, rejected, going, Rejects, on_step, elements, from}
use Rattle.answers.specs.Answers.{refuse, settled}
use Rattle.answers.proofs.StepLaws.{Takes}

module _ {S O : Type 0} where
  -- o is not under way
  abbrev pub Over : Out S O → Type 0
  Over o = (s : S) (os : List O) (u : List Bool) → o ≡ going s os u → ⊥

  pub accepted-over : {os : List O} {bs : List Bool} → Over (accepted os bs)
  accepted-over s o u e = absurd (let z : ◌≡◌ {A = ℕ} 0 1 = cc in omega arith)

  pub rejected-over : {k : ℕ} {bs : List Bool} → Over (rejected k bs)
  rejected-over s o u e = absurd (let z : ◌≡◌ {A = ℕ} 0 1 = cc in omega arith)

  pub cond_over : {x y : Out S O} (b : Bool) → Over x → Over y → Over (cond b x y)
  cond_over true h g = h
  cond_over false h g = g

  -- what is answered with a refusal's number was rejected with it
  pub settled-rejects : (z : O) (B : List Bool) (n k : ℕ) (o : Out S O) → Over o → (settled z B n o).answer ≡ refuse k → Rejects k o
  settled-rejects z B n k (accepted os u) h e = absurd (let z : ◌≡◌ {A = ℕ} 0 1 = cc in omega arith)
  settled-rejects z B n k (rejected j u) h e = record { bits = u; is = cc }
  settled-rejects z B n k (going s os u) h e = absurd (h s os u refl)

  module _ (step : S → List Bool → Step S O) (finish : S → List O → List Bool → Out S O)
      (shrinks : (st : S) (bs : List Bool) → Takes 1 bs (step st bs)) (last : (st : S) (out : List O) (bs : List Bool) → Over (finish st out bs)) where
    elements-end : (f : ℕ) (st : S) (out : List O) (bs : List Bool) → length bs < f → Over (elements step finish f st out bs)
    unfolding elements
    elements-end zero st out bs h = absurd (omega arith)
    elements-end (suc f) st out bs h = go (λ s o t a. elements-end f s o t a) (step st bs) refl
      where
        go : ((s : S) (o : List O) (t : List Bool) → length t < f → Over (elements step finish f s o t)) → (x : Step S O) → step st bs ≡ x
            → Over (on_step step finish x st out bs (λ s o t. elements step finish f s o t))
        go ih (moved s o t) e = let c = (shrinks st bs).fewer s o t e in ih s (out ++ o) t (omega arith)
        go ih stop e = last st out bs
        go ih (refuses n) e = rejected-over

    pub from-ends : (st : S) (out : List O) (bs : List Bool) → Over (from step finish st out bs)
    unfolding from
    from-ends st out bs = elements-end (suc (length bs)) st out bs (omega arith)

-- Where a reading stands: it goes on, it is refused, or it is done, and the answer is the whole reading's.
-- Assumes nothing.
use Prim.Native.Nat.{ℕ, ◌-◌, ◌≤◌}
use native.Mathlib.Omega.{arith}
use mathlib.Core.Path.{◌≡◌, sym, ap, ◌∙◌}
use mathlib.Core.Bool.{Bool}
use mathlib.Core.List.{List, ◌++◌}
use lib.ListN.{length, take, drop, replicate, length-drop}
use Rattle.answers.specs.Machine.{Step, Out, accepted, Rejects, from, Stands}
use Rattle.answers.specs.Answers.{read, refuse, decoding, settled}

pub rejects-settled : {S O : Type 0} (z : O) (B : List Bool) (n k : ℕ) {whole : Out S O} → Rejects k whole → decoding (refuse k) (replicate n z) ≡ settled z B n whole
rejects-settled z B n k r = sym (ap (settled z B n) r.is)

module _ {S O : Type 0} (step : S → List Bool → Step S O) (finish : S → List O → List Bool → Out S O)
    {B : List Bool} {whole : Out S O} {st : S} {place at : ℕ} {out : List O} (s : Stands step finish B whole st place at out) where
  -- the values os are stored behind those that are settled
  pub stands_on : (st' : S) (place' at' : ℕ) (out' os : List O) → from step finish st (take place out) (drop at B) ≡ from step finish st' (take place out ++ os) (drop at' B)
      → take place' out' ≡ take place out ++ os → at' ≤ length B → Stands step finish B whole st' place' at' out'
  stands_on st' place' at' out' os e t w =
      record { same = ap (λ (l : List O). from step finish st' l (drop at' B)) t ∙ sym e ∙ s.same; within = w }

  pub stands-rejects : (k : ℕ) → Rejects k (from step finish st (take place out) (drop at B)) → Rejects k whole
  stands-rejects k r = record { bits = r.bits; is = sym s.same ∙ r.is }

  pub stands-accepts : (z : O) (n : ℕ) (os : List O) → from step finish st (take place out) (drop at B) ≡ accepted os (drop at B) → decoding (read at) os ≡ settled z B n whole
  stands-accepts z n os e =
      let w : at ≤ length B = s.within in
      let bits : at ≡ length B - length (drop at B) = omega (arith, length-drop at B) in
      ap (λ (k : ℕ). decoding (read k) os) bits ∙ ap (settled z B n) (sym e ∙ s.same)

-- A reader of elements, whatever the elements are: it steps until no element is due. Document 01, "Refusal numbers": each coder says which elements it
-- has; of several refusals the first in the order of the bits stands.
use Rattle.std.specs.Prelude.{ℕ, zero, suc, ◌≤◌, ◌≡◌, Bool, List, ◌++◌, length, take, drop}
use Rattle.answers.specs.Reading.{Parsed, got, refused}

-- one element: the state after it, the values that it settles, the bits after it; or no element is due; or the number of a refusal
pub data Step (S O : Type 0) : Type 0 where
  moved : S → List O → List Bool → Step S O
  stop : Step S O
  refuses : ℕ → Step S O

-- an element begins with what is read; a refusal there is the element's
abbrev pub on_read : {S O : Type 0} → Parsed → (ℕ → List Bool → Step S O) → Step S O
on_read (got n t) k = k n t
on_read (refused n) k = refuses n

-- the values and the bits left unread; or a refusal, with the bits from where the refused element began; or where it stands
pub data Out (S O : Type 0) : Type 0 where
  accepted : List O → List Bool → Out S O
  rejected : ℕ → List Bool → Out S O
  going : S → List O → List Bool → Out S O

-- o is the refusal n, wherever the refused element began
pub record Rejects {S O : Type 0} (n : ℕ) (o : Out S O) : Type 0 where
  pub bits : List Bool
  pub is : o ≡ rejected n bits

module _ {S O : Type 0} (step : S → List Bool → Step S O) (finish : S → List O → List Bool → Out S O) where
  abbrev pub on_step : Step S O → S → List O → List Bool → (S → List O → List Bool → Out S O) → Out S O
  on_step (moved s o t) st out bs k = k s (out ++ o) t
  on_step stop st out bs k = finish st out bs
  on_step (refuses n) st out bs k = rejected n bs

  -- at most f elements
  unfoldable pub elements : ℕ → S → List O → List Bool → Out S O
  elements zero st out bs = going st out bs
  elements (suc f) st out bs = on_step (step st bs) st out bs (λ s o t. elements f s o t)

  -- to the end: an element has one bit at least
  unfoldable pub from : S → List O → List Bool → Out S O
  from st out bs = elements (suc (length bs)) st out bs

  -- where a reading of the bits B into the list out stands: at bit `at`, in the state st, with `place` values settled. It comes to whole from here too.
  pub record Stands (B : List Bool) (whole : Out S O) (st : S) (place at : ℕ) (out : List O) : Type 0 where
    pub same : from st (take place out) (drop at B) ≡ whole
    pub within : at ≤ length B

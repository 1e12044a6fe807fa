-- What the steps of the code answer, in the terms of Decoding.antt of alpha_elements, and what holds between two of them. B is a payload's bits.
use Rattle.std.specs.Prelude.{ℕ, ◌+◌, ◌-◌, ◌≤◌, ◌<◌, ◌≡◌, Bool, cond, List, [], ◌++◌, leb, pos, length, replicate, drop, Result, Ok, Err}
use Rattle.answers.specs.Refusals.{number_of}
use Rattle.answers.specs.Machine.{moved, accepted, rejected, Rejects, from, Stands}
use Rattle.answers.specs.Stepped.{Stepped}
use Rattle.answers.specs.declared.Refusal.{Refusal}
use Rattle.answers.specs.declared.Refusal.TheVariants.{AlphaOverrun}
use Rattle.bitstream.specs.declared.Cursor.{Cursor}
use Rattle.alpha_elements.specs.declared.AlphaChannelType.{AlphaChannelType}
use Rattle.alpha_elements.specs.Kinds.{mask_of}
use Rattle.alpha_elements.specs.Values.{previous_of}
use Rattle.alpha_elements.specs.Decoding.{AlphaState, StepA, OutA, difference, alpha_run, difference_step, run_step, alpha_step, alpha_finish, decode_alpha}
use Rattle.alpha_reading.specs.declared.Alphas.{Alphas}

-- ---- a difference, which begins at bit `at`, with `left` samples left; prev is one more than the previous value

abbrev pub difference_due : AlphaChannelType → ℕ → ℕ → List Bool → ℕ → StepA
difference_due k prev at B left = difference_step k left (previous_of prev) (drop at B)

-- it gives a sample and the cursor behind it, where the sample's run is due
abbrev pub sample_moves : List Bool → ℕ → ℕ × Cursor → StepA
sample_moves B left a = moved (alpha_run left a.0) [] (drop a.1.at B)

pub record SampleIn (B : List Bool) (k : AlphaChannelType) (a : ℕ × Cursor) : Type 0 where
  pub range : a.0 ≤ mask_of k
  pub within : a.1.at ≤ length B

abbrev pub SampleStepped : List Bool → AlphaChannelType → ℕ → ℕ → Result (ℕ × Cursor) Refusal → Type 0
SampleStepped B k prev at r = Stepped (sample_moves B) (SampleIn B k) (difference_due k prev at B) r

-- ---- a run, which begins at bit `at`, with `left` samples left, of the sample v

abbrev pub run_due : ℕ → ℕ → List Bool → ℕ → StepA
run_due left at B v = run_step left v (drop at B)

unfoldable pub run_of : ℕ → ℕ → Cursor → Result (ℕ × Cursor) Refusal
run_of left n c = cond (leb n left) (Ok (n, c)) (Err AlphaOverrun)

-- it gives its length and the cursor behind it, where the next difference is due
abbrev pub alpha_run_moves : List Bool → ℕ → ℕ → ℕ × Cursor → StepA
alpha_run_moves B left v a = moved (difference (left - a.0) (pos v)) (replicate a.0 v) (drop a.1.at B)

pub record AlphaRunIn (B : List Bool) (left : ℕ) (a : ℕ × Cursor) : Type 0 where
  pub some : 0 < a.0
  pub room : a.0 ≤ left
  pub within : a.1.at ≤ length B

abbrev pub AlphaRunStepped : List Bool → ℕ → ℕ → Result (ℕ × Cursor) Refusal → Type 0
AlphaRunStepped B left at r = Stepped (alpha_run_moves B left) (AlphaRunIn B left) (run_due left at B) r

-- ---- a difference and its run: what the reading goes on to, whatever came out before

abbrev pub from_difference : List Bool → AlphaChannelType → ℕ → Alphas → List ℕ → OutA
from_difference B k total s out = from (alpha_step k) alpha_finish (difference (total - s.place) (previous_of s.prev)) out (drop s.cursor.at B)

pub record PairOn (B : List Bool) (k : AlphaChannelType) (total : ℕ) (s : Alphas) (v : ℕ) (n : Alphas) : Type 0 where
  pub is : (out : List ℕ) → from_difference B k total s out ≡ from_difference B k total n (out ++ replicate (n.place - s.place) v)
  pub further : s.place < n.place
  pub room : n.place ≤ total
  pub within : n.cursor.at ≤ length B
  pub range : n.prev ≤ mask_of k + 1

abbrev pub AlphaPairStepped : List Bool → AlphaChannelType → ℕ → Alphas → Result (ℕ × Alphas) Refusal → Type 0
AlphaPairStepped B k total s (Ok (v, n)) = PairOn B k total s v n
AlphaPairStepped B k total s (Err why) = (out : List ℕ) → Rejects (number_of why) (from_difference B k total s out)

-- ---- where a reading stands between two pairs: the places before s.place are settled

pub record AlphaStands (B : List Bool) (k : AlphaChannelType) (total : ℕ) (s : Alphas) (out : List ℕ) : Type 0 where
  pub stands : Stands (alpha_step k) alpha_finish B (decode_alpha k total B) (difference (total - s.place) (previous_of s.prev)) s.place s.cursor.at out
  pub long : length out ≡ total
  pub room : s.place ≤ total
  pub range : s.prev ≤ mask_of k + 1

-- ---- the end, where bs is left

abbrev pub end_says : List Bool → List ℕ → Result (Unit {0}) Refusal → OutA
end_says bs out (Ok u) = accepted out bs
end_says bs out (Err why) = rejected (number_of why) bs

pub record AlphaEnds (bs : List Bool) (r : Result (Unit {0}) Refusal) : Type 0 where
  pub is : (st : AlphaState) (out : List ℕ) → alpha_finish st out bs ≡ end_says bs out r

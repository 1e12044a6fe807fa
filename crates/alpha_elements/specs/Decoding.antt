-- The reading of alpha samples, an element at a time: document 01, "Alpha" and refusals 5 and 9 to 12.
use Rattle.std.specs.Prelude.{ℕ, zero, suc, ◌+◌, ◌-◌, Bool, true, false, cond, List, [], ◌∷◌, leb, ltb, eqb, ℤ, pos, negsuc, length, replicate}
use Rattle.bitstream.specs.Bits.{ended}
use Rattle.bitstream.specs.Reading.{read_field}
use Rattle.answers.specs.Machine.{Step, moved, stop, refuses, on_read, Out, accepted, rejected, from}
use Rattle.codeword_signs.specs.Signs.{signed}
use Rattle.alpha_elements.specs.declared.AlphaChannelType.{AlphaChannelType}
use Rattle.alpha_elements.specs.Kinds.{width_of, small_width_of}
use Rattle.alpha_elements.specs.Values.{sample_of}

-- which element is due: a difference, after the previous value; or a run, of a sample. Counted is what is left: samples.
pub data AlphaState : Type 0 where
  difference : ℕ → ℤ → AlphaState
  alpha_run : ℕ → ℕ → AlphaState

abbrev pub StepA : Type 0
StepA = Step AlphaState ℕ

abbrev pub OutA : Type 0
OutA = Out AlphaState ℕ

-- ---- a difference: its sample's run is due then

abbrev pub difference_to : AlphaChannelType → ℕ → ℤ → ℤ → List Bool → StepA
difference_to k left p d t = moved (alpha_run left (sample_of k p d)) [] t

-- magnitude m + 1; its sign is due
abbrev pub small_to : AlphaChannelType → ℕ → ℤ → ℕ → List Bool → StepA
small_to k left p m [] = refuses 5
small_to k left p m (g ∷ t) = difference_to k left p (signed g m) t

unfoldable pub difference_step : AlphaChannelType → ℕ → ℤ → List Bool → StepA
difference_step k left p [] = refuses 5
difference_step k left p (true ∷ t) = on_read (read_field (width_of k) t) (λ v u. difference_to k left p (pos v) u)
difference_step k left p (false ∷ t) = on_read (read_field (small_width_of k) t) (λ m u. small_to k left p m u)

-- ---- a run

unfoldable pub alpha_run_to : ℕ → ℕ → ℕ → List Bool → StepA
alpha_run_to left v n t = cond (leb n left) (moved (difference (left - n) (pos v)) (replicate n v) t) (refuses 10)

-- a long run field below 16 is no run
abbrev pub long_to : ℕ → ℕ → ℕ → List Bool → StepA
long_to left v f t = cond (ltb f 16) (refuses 9) (alpha_run_to left v (f + 1) t)

-- a short run field of 0 announces a long one
abbrev pub short_to : ℕ → ℕ → ℕ → List Bool → StepA
short_to left v zero t = on_read (read_field 11 t) (λ f u. long_to left v f u)
short_to left v (suc f) t = alpha_run_to left v (suc f + 1) t

unfoldable pub run_step : ℕ → ℕ → List Bool → StepA
run_step left v [] = refuses 5
run_step left v (true ∷ t) = alpha_run_to left v 1 t
run_step left v (false ∷ t) = on_read (read_field 4 t) (λ f u. short_to left v f u)

-- ---- one element: a difference is due while samples are left

unfoldable pub alpha_step : AlphaChannelType → AlphaState → List Bool → StepA
alpha_step k (difference left p) bs = cond (eqb left 0) stop (difference_step k left p bs)
alpha_step k (alpha_run left v) bs = run_step left v bs

-- at most 7 bits are left, and all of them are 0
unfoldable pub alpha_finish : AlphaState → List ℕ → List Bool → OutA
alpha_finish st out bs = cond (ltb 7 (length bs)) (rejected 11 bs) (cond (ended bs) (accepted out bs) (rejected 12 bs))

-- n samples; the previous value starts at -1
unfoldable pub decode_alpha : AlphaChannelType → ℕ → List Bool → OutA
decode_alpha k n bs = from (alpha_step k) alpha_finish (difference n (negsuc 0)) [] bs

-- A DC: what the code answers for it, and that the reader of coefficients (Decoding.antt of entropy_elements) steps so. B is a payload's bits. Document
-- 01, "Choice of codebook" and refusal 8.
use Rattle.std.specs.Prelude.{ℕ, ◌≤◌, Bool, List, [], ◌∷◌, nat_abs, length, drop, Result, Ok, Err, Option, Some, None}
use Rattle.answers.specs.Machine.{moved}
use Rattle.answers.specs.Stepped.{Stepped}
use Rattle.answers.specs.declared.Refusal.{Refusal}
use Rattle.answers.specs.declared.Refusal.TheVariants.{Range}
use Rattle.codeword.specs.Words.{InUse}
use Rattle.codeword_books.specs.Books.{dc_book}
use Rattle.entropy_elements.specs.Limits.{most}
use Rattle.entropy_elements.specs.Decoding.{State, first, next, StepC, after_dc, step}
use Rattle.entropy_elements.specs.declared.values.Dc.{Dc}
use Rattle.entropy_steps.specs.declared.Dcs.{Dcs}

-- ---- which DC is due: the first, or the one behind s

-- how many DCs are due behind it, and how many AC places
pub record DcsLeft : Type 0 where
  pub dcs : ℕ
  pub places : ℕ

abbrev pub first_state : DcsLeft → State
first_state c = first c.dcs c.places

abbrev pub next_state : Dcs → DcsLeft → State
next_state s c = next c.dcs c.places s.dc s.negative s.book

abbrev pub first_due : List Bool → DcsLeft → StepC
first_due B c = step (first_state c) B

abbrev pub dc_due : Dcs → List Bool → DcsLeft → StepC
dc_due s B c = step (next_state s c) (drop s.at B)

-- ---- where it leads

unfoldable pub dc_step_of : Option Dc → ℕ → Result Dcs Refusal
dc_step_of (Some d) at = Ok (record { at = at; dc = d.dc; negative = d.negative; book = dc_book d.magnitude })
dc_step_of None at = Err Range

-- the element behind it
abbrev pub behind_dc : Dcs → DcsLeft → State
behind_dc n c = after_dc c.dcs c.places n.dc n.negative n.book

abbrev pub dc_moves : List Bool → DcsLeft → Dcs → StepC
dc_moves B c n = moved (behind_dc n c) (n.dc ∷ []) (drop n.at B)

-- what the next step asks for
pub record DcsIn (B : List Bool) (n : Dcs) : Type 0 where
  pub range : nat_abs n.dc ≤ most
  pub within : n.at ≤ length B
  pub book : InUse n.book

-- the DC that is due is answered by r
abbrev pub DcStepped : List Bool → (List Bool → DcsLeft → StepC) → Result Dcs Refusal → Type 0
DcStepped B due r = Stepped (dc_moves B) (DcsIn B) (due B) r

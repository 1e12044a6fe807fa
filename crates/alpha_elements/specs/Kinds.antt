-- The kinds of alpha: document 01, "Alpha", and refusal 13. What differs between the kinds is a function of the kind.
use Rattle.std.specs.Prelude.{ℕ, cond, eqb, Result, Ok, Err}
use Rattle.answers.specs.Refusals.{number_of}
use Rattle.answers.specs.declared.Refusal.{Refusal}
use Rattle.alpha_elements.specs.declared.AlphaChannelType.{AlphaChannelType}
use Rattle.alpha_elements.specs.declared.AlphaChannelType.TheVariants.{Eight, Sixteen}

-- the bits of a sample, and of an escaped difference
abbrev pub width_of : AlphaChannelType → ℕ
width_of Eight = 8
width_of Sixteen = 16

-- the bits of a small difference's magnitude
abbrev pub small_width_of : AlphaChannelType → ℕ
small_width_of Eight = 3
small_width_of Sixteen = 6

-- the largest magnitude of a small difference
abbrev pub limit_of : AlphaChannelType → ℕ
limit_of Eight = 8
limit_of Sixteen = 64

-- the largest sample
abbrev pub mask_of : AlphaChannelType → ℕ
mask_of Eight = 255
mask_of Sixteen = 65535

-- the most bits that a sample takes in a code
abbrev pub most_bits_of : AlphaChannelType → ℕ
most_bits_of Eight = 10
most_bits_of Sixteen = 18

-- ---- the code numbers

abbrev pub code_of : AlphaChannelType → ℕ
code_of Eight = 1
code_of Sixteen = 2

-- a kind, or the number of a refusal
pub data Selection : Type 0 where
  selects : AlphaChannelType → Selection
  no_kind : ℕ → Selection

-- what comes of a kind; or of a refusal's number
abbrev pub on_kind : {A : Type 0} → Selection → (AlphaChannelType → A) → (ℕ → A) → A
on_kind (selects k) f other = f k
on_kind (no_kind r) f other = other r

abbrev pub told_kind : Result AlphaChannelType Refusal → Selection
told_kind (Ok k) = selects k
told_kind (Err why) = no_kind (number_of why)

unfoldable pub kind_of : ℕ → Selection
kind_of c = cond (eqb c 1) (selects Eight) (cond (eqb c 2) (selects Sixteen) (no_kind 13))

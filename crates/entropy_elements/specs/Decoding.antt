-- The reading of scanned coefficients, an element at a time: document 01, "Choice of codebook", AC, and refusals 5 to 8.
use Rattle.std.specs.Prelude.{ℕ, zero, suc, ◌-◌, ◌*◌, Bool, false, cond, ◌||◌, List, [], ◌∷◌, ◌++◌, leb, ltb, eqb, ℤ, pos, nat_abs, ◌+ℤ◌, replicate}
use Rattle.bitstream.specs.Bits.{ended}
use Rattle.answers.specs.Machine.{Step, moved, stop, refuses, on_read, Out, accepted, from}
use Rattle.codeword.specs.Codewords.{read_code}
use Rattle.codeword_books.specs.Books.{first_book, dc_book, run_book, level_book}
use Rattle.codeword_signs.specs.Signs.{is_negative, integer_of, turned, signed}
use Rattle.codeword.specs.declared.Codebook.{Codebook}
use Rattle.entropy_elements.specs.Limits.{most}

abbrev pub nil : ℕ → List ℤ
nil n = replicate n (pos 0)

-- ---- which element is due, and what it looks back at. Counted is what is left: DCs due after this one, AC places.

pub data State : Type 0 where
  first : ℕ → ℕ → State
  next : ℕ → ℕ → ℤ → Bool → Codebook → State
  run : ℕ → Codebook → Codebook → State
  level : ℕ → Codebook → Codebook → State

abbrev pub StepC : Type 0
StepC = Step State ℤ

abbrev pub OutC : Type 0
OutC = Out State ℤ

-- ---- a DC codeword: the sum is over whole numbers

abbrev pub after_dc : ℕ → ℕ → ℤ → Bool → Codebook → State
after_dc zero left dc neg book = run left (run_book 4) (level_book 1)
after_dc (suc more) left dc neg book = next more left dc neg book

unfoldable pub dc_to : ℕ → ℕ → ℤ → Bool → Codebook → List Bool → StepC
dc_to more left dc neg book t = cond (leb (nat_abs dc) most) (moved (after_dc more left dc neg book) (dc ∷ []) t) (refuses 8)

abbrev pub next_to : ℕ → ℕ → ℤ → ℤ → List Bool → StepC
next_to more left dc d t = dc_to more left (dc +ℤ d) (is_negative d) (dc_book (nat_abs d)) t

-- ---- a run, and a level with its sign

unfoldable pub run_to : ℕ → Codebook → ℕ → List Bool → StepC
run_to left lb n t = cond (ltb n left) (moved (level (left - n) (run_book n) lb) (nil n) t) (refuses 7)

unfoldable pub level_to : ℕ → Codebook → ℕ → List Bool → StepC
level_to left rb s [] = refuses 5
level_to left rb s (g ∷ t) = cond (ltb s most) (moved (run (left - 1) rb (level_book s)) (signed g s ∷ []) t) (refuses 8)

-- ---- one element: a run is due while places remain and data has not ended

unfoldable pub step : State → List Bool → StepC
step (first more left) bs = on_read (read_code first_book bs) (λ s t. dc_to more left (integer_of s) false (dc_book 3) t)
step (next more left dc neg book) bs = on_read (read_code book bs) (λ s t. next_to more left dc (turned neg (integer_of s)) t)
step (run left rb lb) bs = cond (eqb left 0 || ended bs) stop (on_read (read_code rb bs) (λ n t. run_to left lb n t))
step (level left rb lb) bs = on_read (read_code lb bs) (λ s t. level_to left rb s t)

-- the places that are left are 0
abbrev pub left_of : State → ℕ
left_of (first more left) = left
left_of (next more left dc neg book) = left
left_of (run left rb lb) = left
left_of (level left rb lb) = left

abbrev pub finish : State → List ℤ → List Bool → OutC
finish st out bs = accepted (out ++ nil (left_of st)) bs

abbrev pub start : ℕ → State
start zero = run 0 (run_book 4) (level_book 1)
start (suc b) = first b (63 * suc b)

unfoldable pub decode : ℕ → List Bool → OutC
decode b bs = from step finish (start b) [] bs

-- Every element of the reading of coefficients begins with a codeword. So its step is one law, whichever element is due: it is refused where the
-- codeword is, and else it is what follows the codeword's value.
-- Assumes nothing.
use Prim.Native.Nat.{ℕ, ◌<◌}
use native.Mathlib.Omega.{arith}
use mathlib.Core.Path.{◌≡◌, refl, ap, ap₂, ◌∙◌}
use mathlib.Core.Bool.{Bool, false, cond, ◌||◌}
use mathlib.Core.List.{List}
use lib.Dec.{eqb}
use borrow.Author.Tests.{ne_eqb}
use Rattle.answers.specs.Reading.{got, refused}
use Rattle.answers.specs.Refusals.{number_of}
use Rattle.answers.specs.Machine.{stop, on_read}
use Rattle.std.specs.Prelude.{Result, Err}
use Rattle.answers.specs.Stepped.{Stepped}
use Rattle.answers.specs.declared.Refusal.{Refusal}
use Rattle.answers.proofs.SteppedLaws.{stepped-no, stepped-got}
use Rattle.common.proofs.Choices.{cond_no}
use Rattle.bitstream.specs.Bits.{ended}
use Rattle.codeword.specs.Codewords.{read_code}
use Rattle.codeword.specs.declared.Codebook.{Codebook}
use Rattle.codeword_books.specs.Books.{first_book, dc_book}
use Rattle.codeword_signs.specs.Signs.{integer_of, turned}
use Rattle.entropy_elements.specs.Decoding.{State, first, next, run, level, StepC, dc_to, next_to, run_to, level_to, step}

-- ---- the codeword's codebook, what follows its value, and whether no element is due

abbrev pub book_of : State → Codebook
book_of (first more left) = first_book
book_of (next more left dc neg book) = book
book_of (run left rb lb) = rb
book_of (level left rb lb) = lb

abbrev pub follows : State → ℕ → List Bool → StepC
follows (first more left) s t = dc_to more left (integer_of s) false (dc_book 3) t
follows (next more left dc neg book) s t = next_to more left dc (turned neg (integer_of s)) t
follows (run left rb lb) n t = run_to left lb n t
follows (level left rb lb) s t = level_to left rb s t

abbrev pub stops : State → List Bool → Bool
stops (run left rb lb) bs = eqb left 0 || ended bs
stops (first more left) bs = false
stops (next more left dc neg book) bs = false
stops (level left rb lb) bs = false

step_is : (st : State) (bs : List Bool) → step st bs ≡ cond (stops st bs) stop (on_read (read_code (book_of st) bs) (follows st))
unfolding step
step_is (first more left) bs = refl
step_is (next more left dc neg book) bs = refl
step_is (run left rb lb) bs = refl
step_is (level left rb lb) bs = refl

pub run-goes : (left : ℕ) (rb lb : Codebook) (bs : List Bool) → 0 < left → ended bs ≡ false → stops (run left rb lb) bs ≡ false
run-goes left rb lb bs some more = ap₂ (λ (x y : Bool). x || y) (ne_eqb left 0 (λ e. omega arith)) more

-- ---- an element that is due, whatever it counts: its codebook is cb

module _ {C : Type 0} (st : C → State) (cb : Codebook) (bs : List Bool) (own : (c : C) → book_of (st c) ≡ cb) (due : (c : C) → stops (st c) bs ≡ false) where
  begins : (c : C) → step (st c) bs ≡ on_read (read_code cb bs) (follows (st c))
  begins c = step_is (st c) bs ∙ cond_no _ _ (due c) ∙ ap (λ (b : Codebook). on_read (read_code b bs) (follows (st c))) (own c)

  module _ {T : Type 0} {to : C → T → StepC} {Keeps : T → Type 0} where
    pub element-no : {why : Refusal} → read_code cb bs ≡ refused (number_of why) → Stepped to Keeps (λ c. step (st c) bs) (Err why)
    element-no e = stepped-no (λ c. follows (st c)) begins e

    pub element-got : {v : ℕ} {t : List Bool} {a : Result T Refusal} → read_code cb bs ≡ got v t → Stepped to Keeps (λ c. follows (st c) v t) a
        → Stepped to Keeps (λ c. step (st c) bs) a
    element-got e s = stepped-got (λ c. follows (st c)) begins e s

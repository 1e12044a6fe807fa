-- What an answer of the code's reading says of the element that is due there: what was read, or that the element is refused.
-- Assumes nothing.
use Prim.Native.Nat.{ℕ}
use mathlib.Core.Path.{◌≡◌, refl}
use mathlib.Core.Bool.{Bool, false}
use mathlib.Core.List.{List}
use lib.Dec.{eqb}
use lib.ListN.{drop}
use Rattle.std.specs.Prelude.{Ok, Err}
use Rattle.answers.specs.Stepped.{Stepped}
use Rattle.answers.specs.declared.Refusal.{Refusal}
use Rattle.bitstream.specs.Bits.{bits_of}
use Rattle.bitstream.specs.Reading.{read_bits}
use Rattle.answers.specs.Refusals.{number_of}
use Rattle.bitstream.specs.Told.{InPayload, gives, refusal, outcome_at}
use Rattle.bitstream.specs.declared.Cursor.{Cursor}
use Rattle.bitstream.proofs.AnswerLaws.{read_no, read-got, read-placed, bit-no, bit-got, bit-placed}
use Rattle.codeword.specs.Codewords.{read_code}
use Rattle.codeword.specs.declared.Codebook.{Codebook}
use Rattle.codeword.proofs.ReadCodeLaws.{read_code-local}
use Rattle.entropy_elements.specs.Decoding.{State, StepC, level_to, step}
use Rattle.entropy_steps.specs.Given.{Gives, HasBit}
use Rattle.entropy_steps.specs.LevelSteps.{sign_due, LevelStepped}
use Rattle.entropy_steps.specs.declared.Acs.{Acs}
use Rattle.entropy_steps.proofs.ElementLaws.{book_of, stops, element-no}

module _ (p : List ℕ) (at : ℕ) (pl : InPayload p at) where
  abbrev B : List Bool
  B = bits_of p

  -- ---- a codeword of cb, with which the elements st begin

  module _ (cb : Codebook) where
    pub read-gives : (v q : ℕ) → gives v q ≡ outcome_at (read_code cb) p at → Gives (read_code cb) B at v q
    read-gives v q e =
        let c : Cursor = record { at = q } in
        let local = read_code-local cb in
        record {
          is = read-got (read_code cb) p at (Ok (v, c)) pl e local v c refl;
          within = (read-placed (read_code cb) p at (Ok (v, c)) pl e local v c refl).within;
        }

    pub unread : {C T : Type 0} {to : C → T → StepC} {Keeps : T → Type 0} (st : C → State) → ((c : C) → book_of (st c) ≡ cb)
        → ((c : C) → stops (st c) (drop at B) ≡ false) → (why : Refusal) → refusal (number_of why) ≡ outcome_at (read_code cb) p at
        → Stepped to Keeps (λ c. step (st c) (drop at B)) (Err why)
    unread st own due why e = element-no st cb (drop at B) own due (read_no (read_code cb) p at (Err why) pl e why refl)

  -- ---- a level's sign

  pub has-bit : (v q : ℕ) → gives v q ≡ outcome_at (read_bits 1) p at → HasBit B at (eqb v 1) q
  has-bit v q e =
      let c : Cursor = record { at = q } in
      record { is = bit-got p at (Ok (v, c)) pl e v c refl; within = (bit-placed p at (Ok (v, c)) pl e v c refl).within }

  pub no_sign : (s : Acs) (symbol : ℕ) (why : Refusal) → refusal (number_of why) ≡ outcome_at (read_bits 1) p at → LevelStepped B s.place (sign_due s symbol at) (Err why)
  unfolding level_to
  no_sign s symbol why e =
      record { is = λ left. bit-no p at (Err why) pl e why refl (level_to left s.runs symbol) refl; keeps = tt }

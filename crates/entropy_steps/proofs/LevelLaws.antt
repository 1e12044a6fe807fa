-- A level and its sign that were read: the reader of coefficients steps as the transition answers.
-- Assumes nothing.
use Prim.Native.Nat.{ℕ, ◌-◌}
use mathlib.Core.Path.{refl, ap}
use mathlib.Core.Bool.{Bool, true, false, cond}
use mathlib.Core.List.{List, [], ◌∷◌}
use lib.Dec.{ltb}
use lib.ListN.{drop}
use Rattle.answers.specs.Machine.{moved, refuses}
use Rattle.answers.proofs.SteppedLaws.{stepped_by}
use Rattle.codeword.specs.Codewords.{read_code}
use Rattle.codeword.specs.Words.{InUse}
use Rattle.codeword_books.specs.Books.{level_book}
use Rattle.codeword_books.proofs.BookLaws.{level_book-in-use}
use Rattle.codeword_signs.specs.Signs.{signed}
use Rattle.entropy_elements.specs.Limits.{most}
use Rattle.entropy_elements.specs.Decoding.{run, level_to}
use Rattle.entropy_elements.specs.Values.{level_of}
use Rattle.std.specs.Prelude.{Result, Some, None}
use Rattle.answers.specs.declared.Refusal.{Refusal}
use lib.IntN.{ℤ}
use Rattle.entropy_steps.specs.Given.{Gives, HasBit}
use Rattle.entropy_steps.specs.LevelSteps.{level_state, level_due, sign_due, level_step_of, LevelStepped}
use Rattle.entropy_steps.specs.declared.Acs.{Acs}
use Rattle.entropy_steps.proofs.ElementLaws.{element-got}

-- the sign, behind the level's symbol
module _ (B : List Bool) (s : Acs) (symbol p : ℕ) (b : Bool) (q : ℕ) (h : HasBit B p b q) (used : InUse s.runs) where
  level-told : LevelStepped B s.place (λ bs left. level_to left s.runs symbol (b ∷ drop q bs)) (level_step_of (level_of b symbol) s symbol q)
  unfolding level_to level_of level_step_of
  level-told = go (ltb symbol most)
    where
      go : (c : Bool)
          → LevelStepped B s.place (λ bs left. cond c (moved (run (left - 1) s.runs (level_book symbol)) (signed b symbol ∷ []) (drop q bs)) (refuses 8))
          (level_step_of (cond c (Some (signed b symbol)) None) s symbol q)
      go true =
          record { is = λ left. refl; keeps = record { onward = refl; within = h.within; books = record { runs = used; levels = level_book-in-use symbol } } }
      go false = record { is = λ left. refl; keeps = tt }

  pub sign-stepped : LevelStepped B s.place (sign_due s symbol p) (level_step_of (level_of b symbol) s symbol q)
  sign-stepped = stepped_by (λ left. ap (level_to left s.runs symbol) h.is) level-told

-- the level's symbol: the sign is read next
pub level-stepped : (B : List Bool) (s : Acs) (v at : ℕ) → Gives (read_code s.levels) B s.at v at → (x : Result (ℤ × Acs) Refusal)
    → LevelStepped B s.place (sign_due s v at) x → LevelStepped B s.place (level_due s) x
level-stepped B s v at g x l = element-got (level_state s) s.levels (drop s.at B) (λ left. refl) (λ left. refl) g.is l

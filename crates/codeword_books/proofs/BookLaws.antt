-- Laws of the choice of codebook, dc_book, run_book and level_book: what holds of every case of document 01's tables, as that only codebooks in use are
-- chosen.
-- Assumes nothing.
use mathlib.Core.Bool.{Bool, true, false, cond}
use Prim.Native.Nat.{ℕ}
use native.Mathlib.Omega.{arith}
use lib.Dec.{leb}
use Rattle.codeword.specs.declared.Codebook.{Codebook}
use Rattle.codeword.specs.declared.Codebook.TheVariants.{ExpGolomb, RiceExp}
use Rattle.codeword_books.specs.Books.{first_book, dc_book, run_book, level_book}
use Rattle.codeword.specs.Words.{InUse}

-- ---- what holds of every case

module _ (P : Codebook → Type 0) where
  either : (b : Bool) {x y : Codebook} → P x → P y → P (cond b x y)
  either true p q = p
  either false p q = q

  pub dc_book-all : P (ExpGolomb 0) → P (ExpGolomb 1) → P (RiceExp 1 2 3) → P (ExpGolomb 3) → (n : ℕ) → P (dc_book n)
  unfolding dc_book
  dc_book-all a b c d n = either (leb n 0) a (either (leb n 1) b (either (leb n 2) c d))

  pub run_book-all : P (RiceExp 2 0 1) → P (RiceExp 1 0 1) → P (ExpGolomb 0) → P (RiceExp 1 1 2) → P (ExpGolomb 1) → P (ExpGolomb 2)
      → (n : ℕ) → P (run_book n)
  unfolding run_book
  run_book-all a b c d e f n = either (leb n 1) a (either (leb n 3) b (either (leb n 4) c (either (leb n 8) d (either (leb n 14) e f))))

  pub level_book-all : P (RiceExp 2 0 2) → P (RiceExp 1 0 1) → P (RiceExp 2 0 1) → P (ExpGolomb 0) → P (ExpGolomb 1) → P (ExpGolomb 2)
      → (n : ℕ) → P (level_book n)
  unfolding level_book
  level_book-all a b c d e f n = either (leb n 0) a (either (leb n 1) b (either (leb n 2) c (either (leb n 3) d (either (leb n 7) e f))))

-- ---- what is chosen is in use

pub first_book-in-use : InUse first_book
first_book-in-use = omega arith

pub dc_book-in-use : (n : ℕ) → InUse (dc_book n)
dc_book-in-use = dc_book-all InUse (omega arith) (omega arith) (omega arith) (omega arith)

pub run_book-in-use : (n : ℕ) → InUse (run_book n)
run_book-in-use = run_book-all InUse (omega arith) (omega arith) (omega arith) (omega arith) (omega arith) (omega arith)

pub level_book-in-use : (n : ℕ) → InUse (level_book n)
level_book-in-use = level_book-all InUse (omega arith) (omega arith) (omega arith) (omega arith) (omega arith) (omega arith)

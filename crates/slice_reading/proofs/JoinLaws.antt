-- Laws of joined readings, and of lists of zeros.
-- Assumes nothing.
use Prim.Native.Nat.{ℕ, ◌*◌, ◌≤◌}
use native.Mathlib.Omega.{arith}
use mathlib.Core.Path.{◌≡◌, refl}
use mathlib.Core.List.{List}
use lib.IntN.{ℤ}
use Rattle.std.specs.Prelude.{Result, Ok, Err}
use Rattle.std.specs.Result.{MatchResult, IsErrAnd}
use Rattle.std.proofs.lemmas.Result.{err_from_is_err_and}
use Rattle.answers.specs.Answers.{read, refuse, decoding}
use Rattle.answers.specs.Told.{told_decoded}
use Rattle.answers.specs.declared.Refusal.{Refusal}
use Rattle.entropy_elements.specs.Answers.{reading_of}
use Rattle.entropy_elements.specs.Decoding.{nil}
use Rattle.slice_scan.specs.Scan.{placed_of}
use Rattle.slice_shape.specs.Shapes.{chroma_blocks, is_interlaced, slice_length, Components}
use Rattle.slice_shape.specs.Decoding.{read_all, refuse_in, slice_decoding, joined_slice, slice_reading_of}
use Rattle.slice_shape.specs.declared.SliceRefusal.{SliceRefusal}
use Rattle.slice_reading.specs.Due.{due_behind}

pub due-le : (r : Result ℕ Refusal) (b : ℕ) → due_behind (told_decoded r) b ≤ b
due-le (Ok n) b = omega arith
due-le (Err why) b = omega arith

-- ---- a refusal is handed up with its component: m is the reading r, where f names it

abbrev pub Named : (Refusal → SliceRefusal) → Result ℕ Refusal → Result ℕ SliceRefusal → Type 0
Named f r m = MatchResult r (λ n. m ≡ Ok n) (λ why. IsErrAnd m (λ named. named ≡ f why))

pub read-of : (f : Refusal → SliceRefusal) (r : Result ℕ Refusal) (m : Result ℕ SliceRefusal) (n : ℕ) → Named f r m → m ≡ Ok n → r ≡ Ok n
read-of f (Ok k) m n h e = cc
read-of f (Err why) m n h e = let p = err_from_is_err_and m h in cc

pub refused-of : (f : Refusal → SliceRefusal) (r : Result ℕ Refusal) (m : Result ℕ SliceRefusal) (named : SliceRefusal) (a : Result (Components ℕ) SliceRefusal)
    → Named f r m → m ≡ Err named → IsErrAnd a (λ d. d ≡ named) → (why : Refusal) × (r ≡ Err why) × (a ≡ Err (f why))
refused-of f (Ok k) m named a h e g = absurd cc
refused-of f (Err why) m named a h e g =
    let p = err_from_is_err_and m h in
    let q = err_from_is_err_and a g in (why, refl, cc)

-- ---- the first refusal stands; or all were read, and the blocks of the three lists are placed

module _ (y cb cr : List ℕ) (m f s : ℕ) where
  abbrev c : ℕ
  c = chroma_blocks f

  pub refused-y : {k : ℕ} {l : List ℤ} → decoding (refuse k) l ≡ reading_of y (m * 4) → slice_decoding (refuse_in 1 k) (nil (slice_length m c)) ≡ slice_reading_of y cb cr m f s
  unfolding joined_slice
  refused-y e = rw (← e) refl

  module _ {n : ℕ} {ys : List ℤ} (read-y : decoding (read n) ys ≡ reading_of y (m * 4)) where
    pub refused-cb : {k : ℕ} {l : List ℤ} → decoding (refuse k) l ≡ reading_of cb (m * c)
        → slice_decoding (refuse_in 2 k) (nil (slice_length m c)) ≡ slice_reading_of y cb cr m f s
    unfolding joined_slice
    refused-cb e = rw (← read-y, ← e) refl

    module _ {j : ℕ} {cbs : List ℤ} (read-cb : decoding (read j) cbs ≡ reading_of cb (m * c)) where
      pub refused-cr : {k : ℕ} {l : List ℤ} → decoding (refuse k) l ≡ reading_of cr (m * c)
          → slice_decoding (refuse_in 3 k) (nil (slice_length m c)) ≡ slice_reading_of y cb cr m f s
      unfolding joined_slice
      refused-cr e = rw (← read-y, ← read-cb, ← e) refl

      pub all-placed : {k : ℕ} {crs : List ℤ} → decoding (read k) crs ≡ reading_of cr (m * c)
          → slice_decoding (read_all (record { y = n; cb = j; cr = k })) (placed_of (is_interlaced s) m c ys cbs crs) ≡ slice_reading_of y cb cr m f s
      unfolding joined_slice
      all-placed e = rw (← read-y, ← read-cb, ← e) refl

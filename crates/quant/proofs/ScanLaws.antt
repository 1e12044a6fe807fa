-- Both block scans are permutations of 0..63, and their inverse tables are their inverses: a test of each table that antt computes, entry by entry.
-- Assumes nothing.
use mathlib.Core.Path.{◌≡◌, refl}
use mathlib.Core.List.{List}
use mathlib.Core.Bool.{Bool, true, false, ◌&&◌}
use Prim.Native.Nat.{ℕ, ◌<◌}
use lib.Dec.{eqb, ltb}
use lib.ListN.{get_or}
use Rattle.std.proofs.lemmas.Bool.{agree_below, agree_below_at, and_parts, ltb-true, eqb-true}
use Rattle.quant.specs.Scans.{scan_of, inv_of}

pub record Back (other : List ℕ) (k x : ℕ) : Type 0 where
  pub below : x < 64
  pub home : get_or other x 0 ≡ k

-- entry k of a table is below 64, and the other table leads back to k
abbrev back : List ℕ → List ℕ → ℕ → Bool
back table other k = ltb (get_or table k 0) 64 && eqb (get_or other (get_or table k 0) 0) k

all-back : (table other : List ℕ) → agree_below (back table other) (λ (k : ℕ). true) 64 ≡ true → (k : ℕ) → k < 64 → Back other k (get_or table k 0)
all-back table other t k h =
    let x = get_or table k 0 in
    let e = and_parts (ltb x 64) (eqb (get_or other x 0) k) (agree_below_at (back table other) (λ (n : ℕ). true) 64 k t h) in
    record { below = ltb-true x 64 e.0; home = eqb-true (get_or other x 0) k e.1 }

-- natural place k to scanned index and back
pub scan-back : (i : Bool) (k : ℕ) → k < 64 → Back (inv_of i) k (get_or (scan_of i) k 0)
scan-back true = all-back (scan_of true) (inv_of true) refl
scan-back false = all-back (scan_of false) (inv_of false) refl

-- scanned index n to natural place and back
pub inv-back : (i : Bool) (n : ℕ) → n < 64 → Back (scan_of i) n (get_or (inv_of i) n 0)
inv-back true = all-back (inv_of true) (scan_of true) refl
inv-back false = all-back (inv_of false) (scan_of false) refl

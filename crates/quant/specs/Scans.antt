-- The block scans: document 01, "Slice scan"; RDD 36, Figures 4 and 5, a row of the 8 x 8 block on a line.
use Rattle.std.specs.Prelude.{ℕ, zero, suc, Bool, true, false, cond, List, [], ◌∷◌, eqb}

-- at a natural place, its scanned index
abbrev pub progressive : List ℕ
progressive =
    0 ∷ 1 ∷ 4 ∷ 5 ∷ 16 ∷ 17 ∷ 21 ∷ 22 ∷
    2 ∷ 3 ∷ 6 ∷ 7 ∷ 18 ∷ 20 ∷ 23 ∷ 28 ∷
    8 ∷ 9 ∷ 12 ∷ 13 ∷ 19 ∷ 24 ∷ 27 ∷ 29 ∷
    10 ∷ 11 ∷ 14 ∷ 15 ∷ 25 ∷ 26 ∷ 30 ∷ 31 ∷
    32 ∷ 33 ∷ 37 ∷ 38 ∷ 45 ∷ 46 ∷ 53 ∷ 54 ∷
    34 ∷ 36 ∷ 39 ∷ 44 ∷ 47 ∷ 52 ∷ 55 ∷ 60 ∷
    35 ∷ 40 ∷ 43 ∷ 48 ∷ 51 ∷ 56 ∷ 59 ∷ 61 ∷
    41 ∷ 42 ∷ 49 ∷ 50 ∷ 57 ∷ 58 ∷ 62 ∷ 63 ∷ []

abbrev pub interlaced_scan : List ℕ
interlaced_scan =
    0 ∷ 2 ∷ 8 ∷ 10 ∷ 32 ∷ 34 ∷ 35 ∷ 41 ∷
    1 ∷ 3 ∷ 9 ∷ 11 ∷ 33 ∷ 36 ∷ 40 ∷ 42 ∷
    4 ∷ 6 ∷ 12 ∷ 14 ∷ 37 ∷ 39 ∷ 43 ∷ 49 ∷
    5 ∷ 7 ∷ 13 ∷ 15 ∷ 38 ∷ 44 ∷ 48 ∷ 50 ∷
    16 ∷ 18 ∷ 19 ∷ 25 ∷ 45 ∷ 47 ∷ 51 ∷ 57 ∷
    17 ∷ 20 ∷ 24 ∷ 26 ∷ 46 ∷ 52 ∷ 56 ∷ 58 ∷
    21 ∷ 23 ∷ 27 ∷ 30 ∷ 53 ∷ 55 ∷ 59 ∷ 62 ∷
    22 ∷ 28 ∷ 29 ∷ 31 ∷ 54 ∷ 60 ∷ 61 ∷ 63 ∷ []

abbrev pub scan_of : Bool → List ℕ
scan_of true = interlaced_scan
scan_of false = progressive

-- the first place, from i on, at which a list has n
abbrev pub place_from : ℕ → ℕ → List ℕ → ℕ
place_from i n [] = i
place_from i n (x ∷ xs) = cond (eqb x n) i (place_from (suc i) n xs)

-- k places from the index n on, of the scan s
abbrev pub places_from : List ℕ → ℕ → ℕ → List ℕ
places_from s zero n = []
places_from s (suc k) n = place_from 0 n s ∷ places_from s k (suc n)

-- at a scanned index, its natural place
abbrev pub inv_of : Bool → List ℕ
inv_of i = places_from (scan_of i) 64 0

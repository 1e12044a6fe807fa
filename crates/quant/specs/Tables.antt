-- The weight tables: document 01, "Matrices"; RDD 36, 7.3. A row of the 8 x 8 block on a line; the numbers are quant.rs's.
use Rattle.std.specs.Prelude.{ℕ, List, [], ◌∷◌, replicate}

-- where no table is carried
abbrev pub fours : List ℕ
fours = replicate 64 4

-- ISO/IEC 10918-1, Table K.1, scaled so that its first weight is 2
abbrev pub perceptual_luma : List ℕ
perceptual_luma =
    2 ∷ 2 ∷ 2 ∷ 2 ∷ 3 ∷ 5 ∷ 6 ∷ 8 ∷
    2 ∷ 2 ∷ 2 ∷ 2 ∷ 3 ∷ 7 ∷ 8 ∷ 7 ∷
    2 ∷ 2 ∷ 2 ∷ 3 ∷ 5 ∷ 7 ∷ 9 ∷ 7 ∷
    2 ∷ 2 ∷ 3 ∷ 4 ∷ 6 ∷ 11 ∷ 10 ∷ 8 ∷
    2 ∷ 3 ∷ 5 ∷ 7 ∷ 9 ∷ 14 ∷ 13 ∷ 10 ∷
    3 ∷ 4 ∷ 7 ∷ 8 ∷ 10 ∷ 13 ∷ 14 ∷ 12 ∷
    6 ∷ 8 ∷ 10 ∷ 11 ∷ 13 ∷ 15 ∷ 15 ∷ 13 ∷
    9 ∷ 12 ∷ 12 ∷ 12 ∷ 14 ∷ 13 ∷ 13 ∷ 12 ∷ []

-- Table K.2, scaled so
abbrev pub perceptual_chroma : List ℕ
perceptual_chroma =
    2 ∷ 2 ∷ 3 ∷ 6 ∷ 12 ∷ 12 ∷ 12 ∷ 12 ∷
    2 ∷ 3 ∷ 3 ∷ 8 ∷ 12 ∷ 12 ∷ 12 ∷ 12 ∷
    3 ∷ 3 ∷ 7 ∷ 12 ∷ 12 ∷ 12 ∷ 12 ∷ 12 ∷
    6 ∷ 8 ∷ 12 ∷ 12 ∷ 12 ∷ 12 ∷ 12 ∷ 12 ∷
    12 ∷ 12 ∷ 12 ∷ 12 ∷ 12 ∷ 12 ∷ 12 ∷ 12 ∷
    12 ∷ 12 ∷ 12 ∷ 12 ∷ 12 ∷ 12 ∷ 12 ∷ 12 ∷
    12 ∷ 12 ∷ 12 ∷ 12 ∷ 12 ∷ 12 ∷ 12 ∷ 12 ∷
    12 ∷ 12 ∷ 12 ∷ 12 ∷ 12 ∷ 12 ∷ 12 ∷ 12 ∷ []

-- what the streams of each profile carry: 422 Proxy, whose chroma has a table of its own
abbrev pub proxy_luma : List ℕ
proxy_luma =
    4 ∷ 7 ∷ 9 ∷ 11 ∷ 13 ∷ 14 ∷ 15 ∷ 63 ∷
    7 ∷ 7 ∷ 11 ∷ 12 ∷ 14 ∷ 15 ∷ 63 ∷ 63 ∷
    9 ∷ 11 ∷ 13 ∷ 14 ∷ 15 ∷ 63 ∷ 63 ∷ 63 ∷
    11 ∷ 11 ∷ 13 ∷ 14 ∷ 63 ∷ 63 ∷ 63 ∷ 63 ∷
    11 ∷ 13 ∷ 14 ∷ 63 ∷ 63 ∷ 63 ∷ 63 ∷ 63 ∷
    13 ∷ 14 ∷ 63 ∷ 63 ∷ 63 ∷ 63 ∷ 63 ∷ 63 ∷
    13 ∷ 63 ∷ 63 ∷ 63 ∷ 63 ∷ 63 ∷ 63 ∷ 63 ∷
    63 ∷ 63 ∷ 63 ∷ 63 ∷ 63 ∷ 63 ∷ 63 ∷ 63 ∷ []

abbrev pub proxy_chroma : List ℕ
proxy_chroma =
    4 ∷ 7 ∷ 9 ∷ 11 ∷ 13 ∷ 14 ∷ 63 ∷ 63 ∷
    7 ∷ 7 ∷ 11 ∷ 12 ∷ 14 ∷ 63 ∷ 63 ∷ 63 ∷
    9 ∷ 11 ∷ 13 ∷ 14 ∷ 63 ∷ 63 ∷ 63 ∷ 63 ∷
    11 ∷ 11 ∷ 13 ∷ 14 ∷ 63 ∷ 63 ∷ 63 ∷ 63 ∷
    11 ∷ 13 ∷ 14 ∷ 63 ∷ 63 ∷ 63 ∷ 63 ∷ 63 ∷
    13 ∷ 14 ∷ 63 ∷ 63 ∷ 63 ∷ 63 ∷ 63 ∷ 63 ∷
    13 ∷ 63 ∷ 63 ∷ 63 ∷ 63 ∷ 63 ∷ 63 ∷ 63 ∷
    63 ∷ 63 ∷ 63 ∷ 63 ∷ 63 ∷ 63 ∷ 63 ∷ 63 ∷ []

-- 422 LT
abbrev pub lt_weights : List ℕ
lt_weights =
    4 ∷ 5 ∷ 6 ∷ 7 ∷ 9 ∷ 11 ∷ 13 ∷ 15 ∷
    5 ∷ 5 ∷ 7 ∷ 8 ∷ 11 ∷ 13 ∷ 15 ∷ 17 ∷
    6 ∷ 7 ∷ 9 ∷ 11 ∷ 13 ∷ 15 ∷ 15 ∷ 17 ∷
    7 ∷ 7 ∷ 9 ∷ 11 ∷ 13 ∷ 15 ∷ 17 ∷ 19 ∷
    7 ∷ 9 ∷ 11 ∷ 13 ∷ 14 ∷ 16 ∷ 19 ∷ 23 ∷
    9 ∷ 11 ∷ 13 ∷ 14 ∷ 16 ∷ 19 ∷ 23 ∷ 29 ∷
    9 ∷ 11 ∷ 13 ∷ 15 ∷ 17 ∷ 21 ∷ 28 ∷ 35 ∷
    11 ∷ 13 ∷ 16 ∷ 17 ∷ 21 ∷ 28 ∷ 35 ∷ 41 ∷ []

-- 422 Standard
abbrev pub standard_weights : List ℕ
standard_weights =
    4 ∷ 4 ∷ 5 ∷ 5 ∷ 6 ∷ 7 ∷ 7 ∷ 9 ∷
    4 ∷ 4 ∷ 5 ∷ 6 ∷ 7 ∷ 7 ∷ 9 ∷ 9 ∷
    5 ∷ 5 ∷ 6 ∷ 7 ∷ 7 ∷ 9 ∷ 9 ∷ 10 ∷
    5 ∷ 5 ∷ 6 ∷ 7 ∷ 7 ∷ 9 ∷ 9 ∷ 10 ∷
    5 ∷ 6 ∷ 7 ∷ 7 ∷ 8 ∷ 9 ∷ 10 ∷ 12 ∷
    6 ∷ 7 ∷ 7 ∷ 8 ∷ 9 ∷ 10 ∷ 12 ∷ 15 ∷
    6 ∷ 7 ∷ 7 ∷ 9 ∷ 10 ∷ 11 ∷ 14 ∷ 17 ∷
    7 ∷ 7 ∷ 9 ∷ 10 ∷ 11 ∷ 14 ∷ 17 ∷ 21 ∷ []

-- 422 HQ, 4444 and 4444 XQ
abbrev pub hq_weights : List ℕ
hq_weights =
    4 ∷ 4 ∷ 4 ∷ 4 ∷ 4 ∷ 4 ∷ 4 ∷ 4 ∷
    4 ∷ 4 ∷ 4 ∷ 4 ∷ 4 ∷ 4 ∷ 4 ∷ 4 ∷
    4 ∷ 4 ∷ 4 ∷ 4 ∷ 4 ∷ 4 ∷ 4 ∷ 4 ∷
    4 ∷ 4 ∷ 4 ∷ 4 ∷ 4 ∷ 4 ∷ 4 ∷ 5 ∷
    4 ∷ 4 ∷ 4 ∷ 4 ∷ 4 ∷ 4 ∷ 5 ∷ 5 ∷
    4 ∷ 4 ∷ 4 ∷ 4 ∷ 4 ∷ 5 ∷ 5 ∷ 6 ∷
    4 ∷ 4 ∷ 4 ∷ 4 ∷ 5 ∷ 5 ∷ 6 ∷ 7 ∷
    4 ∷ 4 ∷ 4 ∷ 4 ∷ 5 ∷ 6 ∷ 7 ∷ 7 ∷ []

-- Document 01's table "Bits written out": the rows marked P, each an input with the bytes and bits that are written for it, and what they all promise.
use Rattle.std.specs.Prelude.{ℕ, ◌-◌, ◌≡◌, List, [], ◌∷◌, ◌++◌, ℤ, pos, negsuc, length, replicate}
use Rattle.entropy_elements.specs.Decoding.{nil}
use Rattle.answers.specs.Answers.{decoding, read, Encoding, encoding, wrote, needs, Size}
use Rattle.entropy_elements.specs.Answers.{decode_of, encode_of}
use Rattle.alpha_elements.specs.Answers.{decode_alpha_of, encode_alpha_of}

-- what is coded: the coefficients of some blocks, or alpha samples of the kind of a code number
pub data Input : Type 0 where
  coefficients : ℕ → List ℤ → Input
  alpha : ℕ → List ℕ → Input

pub record Row : Type 0 where
  pub input : Input
  pub bytes : List ℕ
  pub bits : ℕ

abbrev pub row : Input → List ℕ → ℕ → Row
row i ys n = record { input = i; bytes = ys; bits = n }

-- the rows
abbrev pub rows : List Row
rows =
    row (coefficients 1 (nil 64)) (0x80 ∷ []) 6
    ∷ row (coefficients 1 (pos 1 ∷ nil 63)) (0x88 ∷ []) 6
    ∷ row (coefficients 1 (negsuc 0 ∷ nil 63)) (0x84 ∷ []) 6
    ∷ row (coefficients 2 (nil 128)) (0x82 ∷ 0x00 ∷ []) 10
    ∷ row (coefficients 3 (pos 0 ∷ negsuc 0 ∷ negsuc 1 ∷ nil 189)) (0x82 ∷ 0x50 ∷ []) 14
    ∷ row (coefficients 1 (pos 0 ∷ pos 1 ∷ nil 62)) (0x83 ∷ 0x00 ∷ []) 9
    ∷ row (coefficients 1 (pos 0 ∷ negsuc 0 ∷ nil 62)) (0x83 ∷ 0x80 ∷ []) 9
    ∷ row (coefficients 1 (nil 63 ++ (pos 1 ∷ []))) (0x80 ∷ 0x1f ∷ 0xc0 ∷ []) 19
    ∷ row (coefficients 1 (pos 536870911 ∷ nil 63)) (0x00 ∷ 0x00 ∷ 0x00 ∷ 0x40 ∷ 0x00 ∷ 0x00 ∷ 0x1e ∷ []) 56
    ∷ row (alpha 2 (0 ∷ [])) (0x00 ∷ 0x80 ∷ []) 9
    ∷ row (alpha 2 (65535 ∷ [])) (0x80 ∷ 0x00 ∷ 0x40 ∷ []) 18
    ∷ row (alpha 1 (7 ∷ [])) (0x74 ∷ []) 6
    ∷ row (alpha 1 (8 ∷ [])) (0x84 ∷ 0xc0 ∷ []) 10
    ∷ row (alpha 1 (255 ∷ [])) (0x80 ∷ 0x40 ∷ []) 10
    ∷ row (alpha 1 (replicate 16 0)) (0x03 ∷ 0xc0 ∷ []) 10
    ∷ row (alpha 1 (replicate 17 0)) (0x00 ∷ 0x00 ∷ 0x80 ∷ []) 21
    ∷ []

-- a buffer of n bytes, none of which is zero
abbrev pub used : ℕ → List ℕ
used n = replicate n 0xa5

-- writing an input into a buffer
abbrev pub encodes : Input → List ℕ → Encoding Size
encodes (coefficients b cs) old = encode_of cs b old
encodes (alpha k ss) old = encode_alpha_of ss k old

-- reading the bytes gives an input back, and takes n bits
abbrev pub Reads : Input → List ℕ → ℕ → Type 0
Reads (coefficients b cs) ys n = decode_of ys b (nil (length cs)) ≡ decoding (read n) cs
Reads (alpha k ss) ys n = decode_alpha_of ys k (used (length ss)) ≡ decoding (read n) ss

-- what a row promises: writing gives these bytes and bits, reading them gives the input back, and room one byte short is refused with the needed bytes
abbrev pub Right : Row → Type 0
Right r =
    (encodes r.input (used (length r.bytes)) ≡ encoding (wrote (record { bytes = length r.bytes; bits = r.bits })) r.bytes)
    × Reads r.input r.bytes r.bits
    × (encodes r.input (used (length r.bytes - 1)) ≡ encoding (needs (length r.bytes)) (used (length r.bytes - 1)))

abbrev pub Each : List Row → Type 0
Each [] = Unit {0}
Each (r ∷ rs) = Right r × Each rs

-- The slice scan: document 01, "Slice scan"; RDD 36, 7.2. The blocks of a slice are one list, 64 coefficients of each in natural order. The scanned
-- list of a component has the first scanned coefficient of each of its blocks, then the second of each, and so on.
use Rattle.std.specs.Prelude.{Bool, cond, List, [], ◌∷◌, ℕ, zero, suc, ◌+◌, ◌-◌, ◌*◌, ◌/◌, ◌%◌, ltb, ℤ, pos, get_or}
use Rattle.quant.specs.Scans.{scan_of, inv_of}

-- f 0, f 1, .., f (n - 1)
abbrev pub tab : ℕ → (ℕ → ℤ) → List ℤ
tab zero f = []
tab (suc n) f = f 0 ∷ tab n (λ k. f (suc k))

-- natural place nat of block b, of those from off on, of macroblock m, where a macroblock has per blocks
abbrev pub block_place : ℕ → ℕ → ℕ → ℕ → ℕ → ℕ
block_place per off m b nat = (m * per + off + b) * 64 + nat

-- scanned coefficient n of block b, of c, of macroblock m, of mbs
abbrev pub scanned_place : ℕ → ℕ → ℕ → ℕ → ℕ → ℕ
scanned_place mbs c n m b = n * (mbs * c) + (m * c + b)

-- natural coefficient nat of a component's block number r
abbrev pub natural : ℕ → ℕ → ℕ → List ℤ → ℕ → ℕ → ℤ
natural per off c blocks nat r = get_or blocks (block_place per off (r / c) (r % c) nat) (pos 0)

-- the scanned list of the component whose c blocks of each macroblock start at off
unfoldable pub scanned_of : Bool → ℕ → ℕ → ℕ → ℕ → List ℤ → List ℤ
scanned_of i mbs per off c blocks = tab (64 * (mbs * c)) (λ d. natural per off c blocks (get_or (inv_of i) (d / (mbs * c)) 0) (d % (mbs * c)))

-- scanned coefficient n of block p of macroblock m: its blocks stand Y (4), Cb (c), Cr (c)
unfoldable pub coefficient : ℕ → ℕ → List ℤ → List ℤ → List ℤ → ℕ → ℕ → ℕ → ℤ
coefficient mbs c y cb cr n m p =
    cond (ltb p 4) (get_or y (scanned_place mbs 4 n m p) (pos 0))
    (cond (ltb p (4 + c)) (get_or cb (scanned_place mbs c n m (p - 4)) (pos 0)) (get_or cr (scanned_place mbs c n m (p - (4 + c))) (pos 0)))

-- natural coefficient nat of the slice's block number j, with the block scan s
abbrev pub placed : List ℕ → ℕ → ℕ → List ℤ → List ℤ → List ℤ → ℕ → ℕ → ℤ
placed s mbs c y cb cr j nat = coefficient mbs c y cb cr (get_or s nat 0) (j / (4 + 2 * c)) (j % (4 + 2 * c))

-- the blocks of the three scanned lists
unfoldable pub placed_of : Bool → ℕ → ℕ → List ℤ → List ℤ → List ℤ → List ℤ
placed_of i mbs c y cb cr = tab (64 * (mbs * (4 + 2 * c))) (λ x. placed (scan_of i) mbs c y cb cr (x / 64) (x % 64))

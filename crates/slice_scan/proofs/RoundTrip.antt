-- The slice scan and the placing of blocks undo one another, for every number of macroblocks and of blocks, with both block scans.
-- Assumes nothing.
use mathlib.Core.Path.{◌≡◌, sym, ap, ◌∙◌}
use mathlib.Core.Bool.{Bool}
use mathlib.Core.List.{List}
use Prim.Native.Nat.{ℕ, ◌+◌, ◌-◌, ◌*◌, ◌/◌, ◌%◌, ◌<◌, ◌≤◌}
use native.Mathlib.Nat.{div-lt_iff_lt-mul, mod-lt, div-add-mod', mul-le-mul}
use native.Mathlib.Decide.{dec_lt}
use native.Mathlib.Omega.{arith}
use lib.IntN.{ℤ, pos}
use lib.ListN.{length, get_or}
use Rattle.quant.specs.Scans.{scan_of, inv_of}
use Rattle.quant.proofs.ScanLaws.{scan-back, inv-back}
use Rattle.slice_scan.specs.Scan.{block_place, scanned_place, scanned_of, coefficient, placed, placed_of}
use Rattle.slice_scan.proofs.TabLaws.{tab-ext}
use Rattle.slice_scan.proofs.ScanLaws.{scanned-at, placed_at, coefficient-y, coefficient-cb, coefficient-cr}

-- ---- scanning placed blocks

module _ (i : Bool) (mbs c : ℕ) (y cb cr : List ℤ) (hm : 1 ≤ mbs) where
  -- the component of w blocks from off on, which stand in a list
  back : (off w : ℕ) (list : List ℤ) → 1 ≤ w → off + w ≤ 4 + 2 * c → length list ≡ 64 * (mbs * w)
      → ((n m b : ℕ) → b < w → coefficient mbs c y cb cr n m (off + b) ≡ get_or list (scanned_place mbs w n m b) (pos 0))
      → scanned_of i mbs (4 + 2 * c) off w (placed_of i mbs c y cb cr) ≡ list
  unfolding scanned_of
  back off w list hw ho l stands = sym (tab-ext (64 * (mbs * w)) _ list l each)
    where
      each : (d : ℕ) → d < 64 * (mbs * w)
          → get_or list d (pos 0)
          ≡ get_or (placed_of i mbs c y cb cr) (block_place (4 + 2 * c) off (d % (mbs * w) / w) (d % (mbs * w) % w) (get_or (inv_of i) (d / (mbs * w)) 0)) (pos 0)
      each d hd =
          let some : 1 ≤ mbs * w = mul-le-mul hm hw in
          let n = d / (mbs * w) in
          let r = d % (mbs * w) in
          let low : r % w < w = mod-lt r hw in
          let k = inv-back i n ((div-lt_iff_lt-mul some).1 hd) in
          let p = div-add-mod' d (mbs * w) in
          let q = div-add-mod' r w in
          let whole : n * (mbs * w) + (r / w * w + r % w) ≡ d = omega arith in
          sym
          (placed_at i mbs c y cb cr off (r / w) (r % w) (get_or (inv_of i) n 0) ((div-lt_iff_lt-mul hw).1 (mod-lt d some)) (omega arith) k.below
          ∙ stands (get_or (scan_of i) (get_or (inv_of i) n 0) 0) (r / w) (r % w) low
          ∙ ap (λ (x : ℕ). get_or list (scanned_place mbs w x (r / w) (r % w)) (pos 0)) k.home
          ∙ ap (λ (x : ℕ). get_or list x (pos 0)) whole)

  pub back-y : length y ≡ 64 * (mbs * 4) → scanned_of i mbs (4 + 2 * c) 0 4 (placed_of i mbs c y cb cr) ≡ y
  back-y l =
      back 0 4 y (omega arith) (omega arith) l
      (λ n m b h. let e : 0 + b ≡ b = omega arith in rw e (coefficient-y mbs c y cb cr n m h))

  pub back-cb : 1 ≤ c → length cb ≡ 64 * (mbs * c) → scanned_of i mbs (4 + 2 * c) 4 c (placed_of i mbs c y cb cr) ≡ cb
  back-cb hc l =
      back 4 c cb hc (omega arith) l
      (λ n m b h. coefficient-cb mbs c y cb cr n m (omega arith) (omega arith) ∙ ap (λ (x : ℕ). get_or cb (scanned_place mbs c n m x) (pos 0)) (omega arith))

  pub back-cr : 1 ≤ c → length cr ≡ 64 * (mbs * c) → scanned_of i mbs (4 + 2 * c) (4 + c) c (placed_of i mbs c y cb cr) ≡ cr
  back-cr hc l =
      back (4 + c) c cr hc (omega arith) l
      (λ n m b h. coefficient-cr mbs c y cb cr n m (omega arith) (omega arith) ∙ ap (λ (x : ℕ). get_or cr (scanned_place mbs c n m x) (pos 0)) (omega arith))

-- ---- placing scanned blocks

module _ (i : Bool) (mbs c : ℕ) (blocks : List ℤ) where
  -- the list of the component of w blocks from off on
  abbrev part : ℕ → ℕ → List ℤ
  part off w = scanned_of i mbs (4 + 2 * c) off w blocks

  -- where scanned coefficient n of block p of macroblock m came from
  home : (n m p : ℕ) → n < 64 → m < mbs → p < 4 + 2 * c
      → coefficient mbs c (part 0 4) (part 4 c) (part (4 + c) c) n m p ≡ get_or blocks (block_place (4 + 2 * c) 0 m p (get_or (inv_of i) n 0)) (pos 0)
  home n m p hn hm hp = by (dec_lt p 4) (dec_lt p (4 + c))
    where
      from : (off w b : ℕ) → off + b ≡ p → b < w
          → get_or (part off w) (scanned_place mbs w n m b) (pos 0) ≡ get_or blocks (block_place (4 + 2 * c) 0 m p (get_or (inv_of i) n 0)) (pos 0)
      from off w b e h =
          scanned-at i mbs (4 + 2 * c) off w blocks n m b hn hm h
          ∙ ap (λ (x : ℕ). get_or blocks (x * 64 + get_or (inv_of i) n 0) (pos 0)) (omega arith)

      by : Dec (p < 4) → Dec (p < 4 + c)
          → coefficient mbs c (part 0 4) (part 4 c) (part (4 + c) c) n m p ≡ get_or blocks (block_place (4 + 2 * c) 0 m p (get_or (inv_of i) n 0)) (pos 0)
      by (yes h) q = coefficient-y mbs c _ _ _ n m h ∙ from 0 4 p (omega arith) h
      by (no h) (yes q) = coefficient-cb mbs c _ _ _ n m (omega arith) q ∙ from 4 c (p - 4) (omega arith) (omega arith)
      by (no h) (no q) = coefficient-cr mbs c _ _ _ n m (omega arith) (omega arith) ∙ from (4 + c) c (p - (4 + c)) (omega arith) (omega arith)

  pub back-blocks : length blocks ≡ 64 * (mbs * (4 + 2 * c))
      → placed_of i mbs c (scanned_of i mbs (4 + 2 * c) 0 4 blocks) (scanned_of i mbs (4 + 2 * c) 4 c blocks) (scanned_of i mbs (4 + 2 * c) (4 + c) c blocks) ≡ blocks
  unfolding placed_of
  back-blocks l = sym (tab-ext (64 * (mbs * (4 + 2 * c))) _ blocks l each)
    where
      each : (x : ℕ) → x < 64 * (mbs * (4 + 2 * c))
          → get_or blocks x (pos 0) ≡ placed (scan_of i) mbs c (part 0 4) (part 4 c) (part (4 + c) c) (x / 64) (x % 64)
      each x hx =
          let per = 4 + 2 * c in
          let some : 0 < per = omega arith in
          let j : x / 64 < mbs * per = omega arith in
          let k = scan-back i (x % 64) (omega arith) in
          let q = div-add-mod' (x / 64) per in
          sym
          (home (get_or (scan_of i) (x % 64) 0) (x / 64 / per) (x / 64 % per) k.below ((div-lt_iff_lt-mul some).1 j) (mod-lt (x / 64) some)
          ∙ ap (λ (z : ℕ). get_or blocks (block_place per 0 (x / 64 / per) (x / 64 % per) z) (pos 0)) k.home
          ∙ ap (λ (z : ℕ). get_or blocks z (pos 0)) (omega arith))

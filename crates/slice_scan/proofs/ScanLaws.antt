-- Laws on the definitions of the slice scan: what stands where, in a scanned list and in the blocks.
-- Assumes nothing.
use mathlib.Core.Path.{◌≡◌, ap, ◌∙◌}
use mathlib.Core.Bool.{Bool}
use mathlib.Core.List.{List}
use Prim.Native.Nat.{ℕ, ◌+◌, ◌-◌, ◌*◌, ◌<◌, ◌≤◌}
use native.Mathlib.Omega.{arith}
use lib.IntN.{ℤ, pos}
use lib.ListN.{length, get_or}
use borrow.Author.Tests.{lt-ltb, le-ltb}
use Rattle.std.proofs.lemmas.Nat.{rows, div-mul-add, mod-mul-add}
use Rattle.quant.specs.Scans.{scan_of, inv_of}
use Rattle.slice_scan.specs.Scan.{block_place, scanned_place, natural, scanned_of, coefficient, placed_of}
use Rattle.slice_scan.proofs.TabLaws.{length-tab, tab-at}

-- ---- a component

pub natural-join : (per off c : ℕ) (blocks : List ℤ) (nat m b : ℕ) → b < c → natural per off c blocks nat (m * c + b) ≡ get_or blocks (block_place per off m b nat) (pos 0)
natural-join per off c blocks nat m b h = simp (div-mul-add m c b h, mod-mul-add m c b h)

pub length-scanned : (i : Bool) (mbs per off c : ℕ) (blocks : List ℤ) → length (scanned_of i mbs per off c blocks) ≡ 64 * (mbs * c)
unfolding scanned_of
length-scanned i mbs per off c blocks = length-tab (64 * (mbs * c)) _

-- scanned place n x B + m x c + b holds scanned coefficient n of block b in macroblock m
pub scanned-at : (i : Bool) (mbs per off c : ℕ) (blocks : List ℤ) (n m b : ℕ) → n < 64 → m < mbs → b < c
    → get_or (scanned_of i mbs per off c blocks) (scanned_place mbs c n m b) (pos 0) ≡ get_or blocks (block_place per off m b (get_or (inv_of i) n 0)) (pos 0)
unfolding scanned_of
scanned-at i mbs per off c blocks n m b hn hm hb =
    let r : m * c + b < mbs * c = grind (arith, rows) in
    tab-at (64 * (mbs * c)) _ (scanned_place mbs c n m b) (grind (arith, rows))
    ∙ simp (div-mul-add n (mbs * c) (m * c + b) r, mod-mul-add n (mbs * c) (m * c + b) r) (natural-join per off c blocks (get_or (inv_of i) n 0) m b hb)

-- ---- a macroblock: Y, Cb, Cr

module _ (mbs c : ℕ) (y cb cr : List ℤ) (n m : ℕ) {p : ℕ} where
  pub coefficient-y : p < 4 → coefficient mbs c y cb cr n m p ≡ get_or y (scanned_place mbs 4 n m p) (pos 0)
  unfolding coefficient
  coefficient-y h = simp (lt-ltb _ _ h)

  pub coefficient-cb : 4 ≤ p → p < 4 + c → coefficient mbs c y cb cr n m p ≡ get_or cb (scanned_place mbs c n m (p - 4)) (pos 0)
  unfolding coefficient
  coefficient-cb h l = simp (le-ltb _ _ h, lt-ltb _ _ l)

  pub coefficient-cr : 4 ≤ p → 4 + c ≤ p → coefficient mbs c y cb cr n m p ≡ get_or cr (scanned_place mbs c n m (p - (4 + c))) (pos 0)
  unfolding coefficient
  coefficient-cr h l = simp (le-ltb _ _ h, le-ltb _ _ l)

-- ---- the blocks

pub length-placed : (i : Bool) (mbs c : ℕ) (y cb cr : List ℤ) → length (placed_of i mbs c y cb cr) ≡ 64 * (mbs * (4 + 2 * c))
unfolding placed_of
length-placed i mbs c y cb cr = length-tab (64 * (mbs * (4 + 2 * c))) _

-- natural place nat of block off + b in macroblock m holds the scanned coefficient that the block scan says
pub placed_at : (i : Bool) (mbs c : ℕ) (y cb cr : List ℤ) (off m b nat : ℕ) → m < mbs → off + b < 4 + 2 * c → nat < 64
    → get_or (placed_of i mbs c y cb cr) (block_place (4 + 2 * c) off m b nat) (pos 0) ≡ coefficient mbs c y cb cr (get_or (scan_of i) nat 0) m (off + b)
unfolding placed_of
placed_at i mbs c y cb cr off m b nat hm hp hn =
    let per = 4 + 2 * c in
    let j = m * per + (off + b) in
    let same : (m * per + off + b) * 64 + nat ≡ j * 64 + nat = omega arith in
    let low : j < mbs * per = grind (arith, rows) in
    ap (λ (x : ℕ). get_or (placed_of i mbs c y cb cr) x (pos 0)) same
    ∙ tab-at (64 * (mbs * per)) _ (j * 64 + nat) (omega arith)
    ∙ simp (div-mul-add j 64 nat hn, mod-mul-add j 64 nat hn, div-mul-add m per (off + b) hp, mod-mul-add m per (off + b) hp)

-- What is demanded of the slice coder above everything, as theorems over the definitions that its two functions are held to: the count of bits, the size
-- bound, exact room, and that every block comes back in its place.
-- Assumes nothing.
use Prim.Native.Nat.{ℕ, zero, suc, ◌+◌, ◌*◌, ◌^◌, ◌≤◌, ◌<◌}
use native.Mathlib.Nat.{le_trans, mul-le-mul}
use native.Mathlib.Omega.{arith}
use mathlib.Core.Path.{◌≡◌, refl, sym, ap, ap₂, ◌∙◌, subst}
use mathlib.Core.Bool.{Bool, true, ◌&&◌}
use mathlib.Core.List.{List, [], ◌∷◌, ◌++◌}
use borrow.Author.Tests.{le-leb, lt-leb}
use lib.IntN.{ℤ, pos, nat_abs}
use lib.ListN.{length, drop, get_or}
use lib.Pow.{pow_pos}
use Rattle.bitstream.specs.Bytes.{pack}
use Rattle.bitstream.specs.Told.{payload_limit}
use Rattle.bitstream.proofs.BytesLaws.{length-pack}
use Rattle.entropy_elements.specs.Limits.{in_range}
use Rattle.entropy_elements.specs.Elements.{size, elements_of, encode}
use Rattle.answers.specs.Answers.{fit, Decoding, decoding, read, Encoding, encoding, wrote, needs, Size}
use Rattle.entropy_elements.specs.Answers.{reading_of}
use Rattle.entropy_elements.proofs.SizeLaws.{Below}
use Rattle.entropy.proofs.Demand as E
use Rattle.slice_scan.specs.Scan.{tab, scanned_of, placed_of}
use Rattle.slice_scan.proofs.ScanLaws.{length-scanned}
use Rattle.slice_scan.proofs.RoundTrip.{back-blocks}
use Rattle.slice_shape.specs.Shapes.{known_chroma, known_scan, is_interlaced, chroma_blocks, blocks_per, in_limit, slice_length, Components, InSliceLimits, component_limit}
use Rattle.slice_shape.specs.Arguments.{slice_arguments}
use Rattle.slice_shape.specs.Encoding.{scans_of, laid, sizes_of, needed_for, written_slice, encode_slice_of}
use Rattle.slice_shape.specs.Decoding.{read_all, SliceDecoding, slice_decoding, joined_answer, joined_slice, slice_reading_of, decode_slice_of}
use Rattle.slice_shape.proofs.ShapeLaws.{few-of, few-slice}
use Rattle.slice_shape.proofs.ArgumentLaws.{limits-fit, arguments-taken, encode_slice_of-fit, decode_slice_of-fit}
use Rattle.slice_writing.proofs.WrittenLaws.{writing-in}
use Rattle.slice.proofs.PartLaws.{codes_in, lengths_of, packs, parts_of, none, followed, followed-none, Payloads, no_payloads, none-fit, parts-laid}

-- the blocks of m macroblocks, each coefficient below 2^w
pub record Given (m f s w : ℕ) (blocks : List ℤ) : Type 0 where
  pub known : known_chroma f && known_scan s ≡ true
  pub limit : in_limit m ≡ true
  pub all : length blocks ≡ slice_length m (chroma_blocks f)
  pub width : w ≤ 29
  pub below : Below w blocks

-- ---- a component's coefficients are the blocks'

below_at : (w : ℕ) (l : List ℤ) (k : ℕ) → Below w l → nat_abs (get_or l k (pos 0)) < 2 ^ w
below_at w [] k b = pow_pos w
below_at w (c ∷ l) zero b = b.0
below_at w (c ∷ l) (suc k) b = below_at w l k b.1

tab-below : (w n : ℕ) (f : ℕ → ℤ) → ((k : ℕ) → nat_abs (f k) < 2 ^ w) → Below w (tab n f)
tab-below w zero f h = tt
tab-below w (suc n) f h = (h 0, tab-below w n (λ k. f (suc k)) (λ k. h (suc k)))

below-scanned : (w : ℕ) (i : Bool) (m per off c : ℕ) (blocks : List ℤ) → Below w blocks → Below w (scanned_of i m per off c blocks)
unfolding scanned_of
below-scanned w i m per off c blocks b = tab-below w (64 * (m * c)) _ (λ k. below_at w blocks _ b)

-- ---- the three components

packed-fits : {b w : ℕ} {cs : List ℤ} → E.Given b w cs → length (pack (encode b cs)) ≤ payload_limit
packed-fits {b} {w} {cs} g = omega (arith, length-pack (encode b cs), E.bytes_fit b w cs g)

-- three components that were read
joined-all : (i : Bool) (m c ny nb nr : ℕ) (ys cbs crs : List ℤ)
    → joined_slice i m c (decoding (read ny) ys) (decoding (read nb) cbs) (decoding (read nr) crs) ≡ slice_decoding (read_all (record { y = ny; cb = nb; cr = nr })) (placed_of i m c ys cbs crs)
unfolding joined_slice
joined-all i m c ny nb nr ys cbs crs = refl

written-fits : (codes : Components (List Bool)) (old : List ℕ) → needed_for (sizes_of codes) ≤ length old
    → written_slice codes old ≡ encoding (wrote (sizes_of codes)) (laid codes ++ drop (needed_for (sizes_of codes)) old)
unfolding written_slice
written-fits codes old h = simp (le-leb (needed_for (sizes_of codes)) (length old) h)

written-lacks : (codes : Components (List Bool)) (old : List ℕ) → length old < needed_for (sizes_of codes)
    → written_slice codes old ≡ encoding (needs (needed_for (sizes_of codes))) old
unfolding written_slice
written-lacks codes old h = simp (lt-leb (needed_for (sizes_of codes)) (length old) h)

module _ (m f s w : ℕ) (blocks : List ℤ) (g : Given m f s w blocks) where
  abbrev c : ℕ
  c = chroma_blocks f

  abbrev lists : Components (List ℤ)
  lists = scans_of (is_interlaced s) m c blocks

  abbrev codes : Components (List Bool)
  codes = codes_in m f s blocks

  few : InSliceLimits m c
  few = few-of f g.limit refl

  -- with payloads that fit, the arguments are taken, where there are `each` values for a coefficient
  pub taken : (each : ℕ) (p : Components (List ℕ)) → Payloads p → {n : ℕ} → n ≡ each * slice_length m c
      → slice_arguments each (length p.y) (length p.cb) (length p.cr) m f s n ≡ fit
  taken each p fits {n} e = arguments-taken each _ _ _ m f s n g.known (limits-fit m g.limit fits.fits-y fits.fits-cb fits.fits-cr) refl e

  -- the list of the component whose n blocks of each macroblock start at off
  part : (off n : ℕ) → n ≤ 4 → E.Given (m * n) w (scanned_of (is_interlaced s) m (blocks_per c) off n blocks)
  part off n h = record {
    blocks = let b : m * n ≤ component_limit = mul-le-mul few.few-m h in omega arith;
    all = length-scanned (is_interlaced s) m (blocks_per c) off n blocks;
    width = g.width;
    below = below-scanned w (is_interlaced s) m (blocks_per c) off n blocks g.below;
  }

  part-y : E.Given (m * 4) w lists.y
  part-y = part 0 4 (omega arith)

  part-cb : E.Given (m * c) w lists.cb
  part-cb = part 4 c few.few-c

  part-cr : E.Given (m * c) w lists.cr
  part-cr = part (4 + c) c few.few-c

  -- ---- size

  -- each component's bits are the sum of its codeword lengths and sign bits
  pub bits-sum : (length codes.y ≡ size (elements_of (m * 4) lists.y)) × (length codes.cb ≡ size (elements_of (m * c) lists.cb))
      × (length codes.cr ≡ size (elements_of (m * c) lists.cr))
  bits-sum = (E.bits-sum _ w _ part-y, E.bits-sum _ w _ part-cb, E.bits-sum _ w _ part-cr)

  -- the three codes are together at most 8 x all blocks x (2w + 5) bytes
  pub bytes_le : needed_for (sizes_of codes) ≤ 8 * (m * blocks_per c) * (2 * w + 5)
  bytes_le = omega (arith, E.bytes_le _ w _ part-y, E.bytes_le _ w _ part-cb, E.bytes_le _ w _ part-cr)

  -- and so at most 48,384, what that is for 96 blocks and w = 29
  pub bytes_most : needed_for (sizes_of codes) ≤ 48384
  bytes_most =
      let most : 8 * (m * blocks_per c) * (2 * w + 5) ≤ 8 * 96 * (2 * 29 + 5) =
      mul-le-mul {n₁ = 8 * (m * blocks_per c)} {m₁ = 2 * w + 5} {n₂ = 8 * 96} {m₂ = 2 * 29 + 5} (omega (arith, few-slice few)) (omega (arith, g.width)) in
      le_trans bytes_le most

  -- each is a payload that decoding takes
  pub bytes_fit : Payloads (packs codes)
  bytes_fit = record { fits-y = packed-fits part-y; fits-cb = packed-fits part-cb; fits-cr = packed-fits part-cr }

  -- ---- room: it is refused exactly if the buffer is shorter than the three codes

  small : in_range blocks ≡ true
  small = E.below-in_range w blocks g.width g.below

  -- the arguments are taken, and the coefficients are in range
  written : (old : List ℕ) → encode_slice_of blocks m f s old ≡ written_slice codes old
  written old = encode_slice_of-fit blocks m f s old (taken 1 no_payloads none-fit (omega (arith, g.all))) ∙ writing-in blocks m f s old refl small

  -- without it, the bytes that are needed are reported, and the buffer is untouched
  pub room-none : (old : List ℕ) → length old < needed_for (sizes_of codes) → encode_slice_of blocks m f s old ≡ encoding (needs (needed_for (sizes_of codes))) old
  room-none old h = written old ∙ written-lacks codes old h

  -- with it, each code's bytes and bits are reported; the buffer begins with the codes, one after another, and beyond them it is as it was
  pub room-enough : (old : List ℕ) → needed_for (sizes_of codes) ≤ length old
      → encode_slice_of blocks m f s old ≡ encoding (wrote (sizes_of codes)) (laid codes ++ drop (needed_for (sizes_of codes)) old)
  room-enough old h = written old ∙ written-fits codes old h

  -- ---- every block comes back in its place

  -- the reading of each component's bytes, alone (k is 0) or followed by k zero bytes
  pub reading-back : (k : Components ℕ) → let p = followed (packs codes) k in slice_reading_of p.y p.cb p.cr m f s ≡ slice_decoding (read_all (lengths_of codes)) blocks
  reading-back k =
      let i : Bool = is_interlaced s in
      let p : Components (List ℕ) = followed (packs codes) k in
      ap (λ (x : Decoding ℤ). joined_slice i m c x (reading_of p.cb (m * c)) (reading_of p.cr (m * c))) (E.reading-back _ w _ part-y k.y)
      ∙ ap₂ (λ (x y : Decoding ℤ). joined_slice i m c (decoding (read (length codes.y)) lists.y) x y) (E.reading-back _ w _ part-cb k.cb) (E.reading-back _ w _ part-cr k.cr)
      ∙ joined-all i m c (length codes.y) (length codes.cb) (length codes.cr) _ _ _
      ∙ ap (slice_decoding _) (back-blocks i m c blocks g.all)

  -- those bytes, up to the limit each, give together the same blocks and bit counts
  pub bytes_back : (k : Components ℕ) (list : List ℤ) → let p = followed (packs codes) k in Payloads p → length list ≡ slice_length m c
      → decode_slice_of p.y p.cb p.cr m f s list ≡ slice_decoding (read_all (lengths_of codes)) blocks
  bytes_back k list fits len = let p : Components (List ℕ) = followed (packs codes) k in decode_slice_of-fit p.y p.cb p.cr m f s list (taken 1 p fits (omega arith)) ∙ reading-back k

  -- the parts of a buffer with room hold the codes' bytes, whatever the buffer held and however long it is
  pub parts-codes : (old : List ℕ) → needed_for (sizes_of codes) ≤ length old → parts_of (sizes_of codes) (encode_slice_of blocks m f s old).buffer ≡ packs codes
  parts-codes old room =
      ap (λ (e : Encoding (Components Size)). parts_of (sizes_of codes) e.buffer) (room-enough old room) ∙ parts-laid codes (drop (needed_for (sizes_of codes)) old)

  -- and decode reads them back
  pub encode-decode : (old : List ℕ) (list : List ℤ) → needed_for (sizes_of codes) ≤ length old → length list ≡ slice_length m c
      → let p = parts_of (sizes_of codes) (encode_slice_of blocks m f s old).buffer in
      decode_slice_of p.y p.cb p.cr m f s list ≡ slice_decoding (read_all (lengths_of codes)) blocks
  encode-decode old list room len =
      ap (λ (p : Components (List ℕ)). decode_slice_of p.y p.cb p.cr m f s list) (parts-codes old room ∙ sym (followed-none (packs codes)))
      ∙ bytes_back none list (subst Payloads (sym (followed-none (packs codes))) bytes_fit) len

-- ---- a slice is answered by its components: where one is refused, the first that is, with the number of its own reading. So E.reading-rejects says of each
-- exactly when.

pub answer-joined : (y cb cr : List ℕ) (m f s : ℕ) (list : List ℤ) → slice_arguments 1 (length y) (length cb) (length cr) m f s (length list) ≡ fit
    → let c = chroma_blocks f in
    (decode_slice_of y cb cr m f s list).answer ≡ joined_answer (reading_of y (m * 4)).answer (reading_of cb (m * c)).answer (reading_of cr (m * c)).answer
unfolding joined_slice
answer-joined y cb cr m f s list e = ap (λ (d : SliceDecoding). d.answer) (decode_slice_of-fit y cb cr m f s list e)

-- What is demanded of the slice coder above everything, as a program in C has it: of blocks that are bytes, and by the numbers that come back.
-- Assumes nothing.
use Prim.Native.Nat.{ℕ, ◌+◌, ◌*◌, ◌≤◌, ◌<◌}
use native.Mathlib.Omega.{arith}
use mathlib.Core.Path.{◌≡◌, sym, ap, ◌∙◌, subst}
use mathlib.Core.Bool.{Bool}
use mathlib.Core.List.{List, ◌++◌}
use lib.IntN.{ℤ}
use lib.ListN.{length, drop}
use Rattle.bitstream.specs.Bytes.{bytes_for}
use Rattle.bitstream.proofs.BytesLaws.{Bytes}
use Rattle.answers.specs.Answers.{fit}
use Rattle.entropy_elements.specs.Elements.{size, elements_of}
use Rattle.slice_shape.specs.Shapes.{is_interlaced, chroma_blocks, blocks_per, slice_length, Components}
use Rattle.slice_shape.specs.Arguments.{slice_arguments}
use Rattle.slice_shape.specs.Encoding.{scans_of, laid, sizes_of, needed_for}
use Rattle.slice_shape.specs.Decoding.{read_all, slice_reading_of}
use Rattle.answers.specs.Told.{told_code}
use Rattle.slice.proofs.PartLaws.{codes_in, lengths_of, packs, parts_of, none, followed, followed-none, Payloads, no_payloads, none-fit, parts-laid}
use Rattle.slice.proofs.Demand as S
use Rattle.cart_bytes.specs.Bytes.{ints_of}
use Rattle.cart_bytes.proofs.ByteLaws.{bytes-ints}
use Rattle.cart_slice.specs.SliceBytes.{encode_slice_bytes_of, slice_bytes_decoding, slice_in_bytes, decode_slice_bytes_of}
use Rattle.cart_slice.proofs.SliceBytesLaws.{encode-ints, decode-fit}
use Rattle.cart_numbers.specs.Slices.{code_numbers, no_codes, encode_slice_numbers}
use Rattle.cart_numbers.specs.declared.slices.SliceDecodeNumbers.{SliceDecodeNumbers}
use Rattle.cart_numbers.specs.declared.slices.SliceEncodeNumbers.{SliceEncodeNumbers}
use Rattle.cart.proofs.Face.{encoded_slice, decoded_slice, by-room}

-- the bytes of the blocks of m macroblocks, whose coefficients are each below 2^w
module _ (m f s w : ℕ) (bytes : List ℕ) (small : Bytes bytes) (full : length bytes ≡ 4 * slice_length m (chroma_blocks f)) (g : S.Given m f s w (ints_of bytes)) where
  abbrev c : ℕ
  c = chroma_blocks f

  abbrev lists : Components (List ℤ)
  lists = scans_of (is_interlaced s) m c (ints_of bytes)

  abbrev codes : Components (List Bool)
  codes = codes_in m f s (ints_of bytes)

  abbrev needed : ℕ
  needed = needed_for (sizes_of codes)

  -- the numbers that are told of an encoding into the buffer old
  abbrev numbers : List ℕ → SliceEncodeNumbers
  numbers old = encode_slice_numbers (encode_slice_bytes_of bytes m f s old).answer

  -- the arguments are taken
  taken : slice_arguments 4 0 0 0 m f s (length bytes) ≡ fit
  taken = S.taken m f s w (ints_of bytes) g 4 no_payloads none-fit full

  -- ---- room

  -- without room for the three codes: 3, and the bytes that are needed; the buffer is untouched
  pub room-none : (old : List ℕ) → length old < needed → encoded_slice (encode_slice_bytes_of bytes m f s old) ≡ (no_codes 3 needed, old)
  room-none old h = ap encoded_slice (encode-ints bytes m f s old taken ∙ S.room-none m f s w (ints_of bytes) g old h)

  -- with room: 0, each code's bytes and bits; the buffer begins with the codes, one after another, and beyond them it is as it was
  pub room-enough : (old : List ℕ) → needed ≤ length old → let n = lengths_of codes in
      encoded_slice (encode_slice_bytes_of bytes m f s old)
      ≡ (record { result = 0; y = code_numbers (bytes_for n.y) n.y; cb = code_numbers (bytes_for n.cb) n.cb; cr = code_numbers (bytes_for n.cr) n.cr; needed = 0 }, laid codes ++ drop needed old)
  room-enough old h = ap encoded_slice (encode-ints bytes m f s old taken ∙ S.room-enough m f s w (ints_of bytes) g old h)

  -- ---- size

  -- the bits that are told of each component are the sum of its codeword lengths and sign bits
  pub bits-sum : (old : List ℕ) → needed ≤ length old → let n = numbers old in
      (n.y.bits ≡ size (elements_of (m * 4) lists.y)) × (n.cb.bits ≡ size (elements_of (m * c) lists.cb)) × (n.cr.bits ≡ size (elements_of (m * c) lists.cr))
  bits-sum old h =
      let sums = S.bits-sum m f s w (ints_of bytes) g in (
        ap (λ (x : SliceEncodeNumbers × List ℕ). x.0.y.bits) (room-enough old h) ∙ sums.0,
        ap (λ (x : SliceEncodeNumbers × List ℕ). x.0.cb.bits) (room-enough old h) ∙ sums.1,
        ap (λ (x : SliceEncodeNumbers × List ℕ). x.0.cr.bits) (room-enough old h) ∙ sums.2,
      )

  -- the bytes that are told, of the three codes with room or those that are needed without it, are at most 8 x all blocks x (2w + 5)
  pub bytes_le : (old : List ℕ) → let n = numbers old in
      n.y.bytes + n.cb.bytes + n.cr.bytes + n.needed ≤ 8 * (m * blocks_per c) * (2 * w + 5)
  bytes_le old =
      let most = S.bytes_le m f s w (ints_of bytes) g in
      by-room (λ (n : SliceEncodeNumbers). n.y.bytes + n.cb.bytes + n.cr.bytes + n.needed ≤ 8 * (m * blocks_per c) * (2 * w + 5)) needed old (room-enough old) (room-none old)
      (omega arith) (omega arith)

  -- so a buffer of that many, which is CART_SLICE_CODE_LEN of cart.h, is always enough
  pub most-enough : (old : List ℕ) → 8 * (m * blocks_per c) * (2 * w + 5) ≤ length old → (numbers old).result ≡ 0
  most-enough old h = ap (λ (x : SliceEncodeNumbers × List ℕ). x.0.result) (room-enough old (omega (arith, S.bytes_le m f s w (ints_of bytes) g)))

  -- ---- every block comes back in its place

  -- the same bytes, and the bits of each code
  abbrev back : SliceDecodeNumbers × List ℕ
  back = let n = lengths_of codes in (record { result = 0; component = 0; y = n.y; cb = n.cb; cr = n.cr }, bytes)

  codes-back : (k : Components ℕ) (p : Components (List ℕ)) (list : List ℕ) → p ≡ followed (packs codes) k → Payloads p → length list ≡ 4 * slice_length m c
      → decoded_slice (decode_slice_bytes_of p.y p.cb p.cr m f s list) ≡ back
  codes-back k p list e fits long =
      ap decoded_slice
      (decode-fit p.y p.cb p.cr m f s list (S.taken m f s w (ints_of bytes) g 4 p fits long)
      ∙ ap (λ (q : Components (List ℕ)). slice_in_bytes (slice_reading_of q.y q.cb q.cr m f s)) e
      ∙ ap slice_in_bytes (S.reading-back m f s w (ints_of bytes) g k)
      ∙ ap (slice_bytes_decoding (read_all (lengths_of codes))) (bytes-ints bytes (slice_length m c) full small))

  -- the parts of the buffer, of as many bytes as are told
  abbrev parts : List ℕ → Components (List ℕ)
  parts old = let n = numbers old in parts_of (record { y = told_code n.y; cb = told_code n.cb; cr = told_code n.cr }) (encode_slice_bytes_of bytes m f s old).buffer

  parts_are : (old : List ℕ) → needed ≤ length old → parts old ≡ packs codes
  parts_are old room =
      ap (λ (x : SliceEncodeNumbers × List ℕ). parts_of (record { y = told_code x.0.y; cb = told_code x.0.cb; cr = told_code x.0.cr }) x.1) (room-enough old room)
      ∙ parts-laid codes (drop needed old)

  -- decode gives them for the three parts of a buffer with room where encode leaves the codes, whatever the buffer held and however long it is
  pub encode-decode : (old list : List ℕ) → needed ≤ length old → length list ≡ 4 * slice_length m c
      → let p = parts old in decoded_slice (decode_slice_bytes_of p.y p.cb p.cr m f s list) ≡ back
  encode-decode old list room long =
      codes-back none _ list (parts_are old room ∙ sym (followed-none (packs codes))) (subst Payloads (sym (parts_are old room)) (S.bytes_fit m f s w (ints_of bytes) g)) long

  -- and for these, each followed by k zero bytes, up to the limit
  pub bytes_back : (old : List ℕ) (k : Components ℕ) (list : List ℕ) → needed ≤ length old
      → let p = followed (parts old) k in Payloads p → length list ≡ 4 * slice_length m c
      → decoded_slice (decode_slice_bytes_of p.y p.cb p.cr m f s list) ≡ back
  bytes_back old k list room fits long = codes-back k _ list (ap (λ (q : Components (List ℕ)). followed q k) (parts_are old room)) fits long

-- Laws of `encode_slice_bytes_of` and `decode_slice_bytes_of` where their arguments are taken; and of the list of taken bytes.
-- Assumes nothing.
use Prim.Native.Nat.{ℕ, ◌*◌, ◌/◌, ◌≤◌}
use mathlib.Core.Path.{◌≡◌, ap, sym, ◌∙◌}
use mathlib.Core.List.{List, ◌++◌}
use native.Mathlib.Omega.{arith}
use lib.IntN.{ℤ}
use lib.ListN.{length, take, drop, length-append}
use lib.Seq.{take_at, length-take-le}
use Rattle.answers.specs.Answers.{fit}
use Rattle.cart_bytes.specs.Bytes.{ints_of}
use Rattle.cart_bytes.proofs.ByteLaws.{length-ints}
use Rattle.slice_shape.specs.Shapes.{slice_list}
use Rattle.slice_shape.specs.Arguments.{slice_arguments}
use Rattle.slice_shape.specs.Encoding.{encode_slice_of}
use Rattle.slice_shape.specs.Decoding.{slice_reading_of, decode_slice_of}
use Rattle.slice_shape.proofs.ShapeLaws.{few-slice}
use Rattle.slice_shape.proofs.ArgumentLaws.{taken_of, arguments-as, encode_slice_of-fit, decode_slice_of-fit}
use Rattle.cart_slice.specs.SliceBytes.{encode_slice_bytes_of, slice_in_bytes, decode_slice_bytes_of}

-- ---- the list of taken bytes, which the slice coder takes too

module _ (y cb cr m f s n : ℕ) where
  pub record Listed : Type 0 where
    pub all : n ≡ 4 * (n / 4)
    pub inside : n / 4 ≤ slice_list
    pub one : slice_arguments 1 y cb cr m f s (n / 4) ≡ fit

  -- the list's length alone, for the functions
  pub record Fours : Type 0 where
    pub all : n ≡ 4 * (n / 4)
    pub inside : n / 4 ≤ slice_list

  pub listed : slice_arguments 4 y cb cr m f s n ≡ fit → Listed
  listed e =
      let t = taken_of 4 y cb cr m f s n e in
      record {
        all = omega (arith, t.full);
        inside = omega (arith, t.full, few-slice t.few);
        one = arguments-as 4 y cb cr m f s n 1 (n / 4) (omega (arith, t.full)) e;
      }

  pub fours : slice_arguments 4 y cb cr m f s n ≡ fit → Fours
  fours e = let l = listed e in record { all = l.all; inside = l.inside }

  as_one : slice_arguments 4 y cb cr m f s n ≡ fit → {k : ℕ} → k ≡ n / 4 → slice_arguments 1 y cb cr m f s k ≡ fit
  as_one e h = rw h (listed e).one

-- the front of a longer list is lent for such a list, and comes back as l
pub record Lent (n : ℕ) (list l : List ℤ) : Type 0 where
  pub inside : n ≤ length list
  pub lent : n ≡ length (take n list)
  pub back : length l ≡ n
  pub room : n ≤ length (l ++ drop n list)
  pub front : take n (l ++ drop n list) ≡ l

pub lent : (y cb cr m f s n : ℕ) (list l : List ℤ) → slice_arguments 4 y cb cr m f s n ≡ fit → length list ≡ slice_list
    → length l ≡ length (take (n / 4) list) → Lent (n / 4) list l
lent y cb cr m f s n list l fits z e =
    let k : ℕ = n / 4 in
    let inside : k ≤ length list = omega (arith, (listed y cb cr m f s n fits).inside, z) in
    let back : length l ≡ k = e ∙ length-take-le k list inside in
    record {
      inside = inside;
      lent = sym (length-take-le k list inside);
      back = back;
      room = omega (arith, length-append l (drop k list), back);
      front = take_at l (drop k list) k back;
    }

-- ---- decoding and encoding: the slice coder's own

module _ (y cb cr : List ℕ) (m f s : ℕ) (old : List ℕ) where
  pub decode-fit : slice_arguments 4 (length y) (length cb) (length cr) m f s (length old) ≡ fit
      → decode_slice_bytes_of y cb cr m f s old ≡ slice_in_bytes (slice_reading_of y cb cr m f s)
  unfolding decode_slice_bytes_of
  decode-fit e = rw e

  pub decode-ints : (list : List ℤ) → slice_arguments 4 (length y) (length cb) (length cr) m f s (length old) ≡ fit → length list ≡ length old / 4
      → decode_slice_bytes_of y cb cr m f s old ≡ slice_in_bytes (decode_slice_of y cb cr m f s list)
  decode-ints list e long =
      decode-fit e ∙ ap slice_in_bytes (sym (decode_slice_of-fit y cb cr m f s list (as_one (length y) (length cb) (length cr) m f s (length old) e long)))

module _ (bytes : List ℕ) (m f s : ℕ) (old : List ℕ) where
  pub encode-ints : slice_arguments 4 0 0 0 m f s (length bytes) ≡ fit → encode_slice_bytes_of bytes m f s old ≡ encode_slice_of (ints_of bytes) m f s old
  unfolding encode_slice_bytes_of
  encode-ints e =
      let long : length (ints_of bytes) ≡ length bytes / 4 = length-ints bytes (length bytes / 4) (listed 0 0 0 m f s (length bytes) e).all in
      rw e (sym (encode_slice_of-fit (ints_of bytes) m f s old (as_one 0 0 0 m f s (length bytes) e long)))

-- ---- what the functions need: of the list only the front is lent

pub ruleset encodes = (fours, length-take-le, encode-ints)

pub ruleset decodes = (fours, length-take-le, decode-ints)

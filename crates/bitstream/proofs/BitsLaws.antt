-- Laws of `bits_of`: how many bits bytes have, and the bits of their parts.
-- Assumes nothing.
use mathlib.Core.Path.{◌≡◌, refl, sym, ap, ◌∙◌}
use mathlib.Core.Bool.{Bool}
use mathlib.Core.List.{List, [], ◌∷◌, ◌++◌, append_assoc}
use Prim.Native.Nat.{ℕ, zero, suc, ◌+◌, ◌*◌}
use native.Mathlib.Omega.{arith}
use lib.ListN.{length, take, drop, length-append}
use lib.Seq.{take-nil, drop-nil, take-append-add, drop-append-add}
use Rattle.bitstream.specs.Bits.{field, bits_of}
use Rattle.bitstream.proofs.FieldLaws.{length-field}

-- ---- eight bits a byte

pub length-bits : (s : List ℕ) → length (bits_of s) ≡ 8 * length s
unfolding bits_of
length-bits [] = refl
length-bits (b ∷ s) = omega (arith, length-append (field 8 b) (bits_of s), length-field 8 b, length-bits s)

-- ---- the bits of parts

pub bits-append : (xs ys : List ℕ) → bits_of (xs ++ ys) ≡ bits_of xs ++ bits_of ys
unfolding bits_of
bits-append [] ys = refl
bits-append (b ∷ xs) ys = ap (λ (t : List Bool). field 8 b ++ t) (bits-append xs ys) ∙ sym (append_assoc (field 8 b) (bits_of xs) (bits_of ys))

pub bits-take : (i : ℕ) (s : List ℕ) → bits_of (take i s) ≡ take (8 * i) (bits_of s)
unfolding bits_of
bits-take zero s = refl
bits-take (suc i) [] = sym (take-nil (8 * suc i))
bits-take (suc i) (b ∷ s) =
    let e : length (field 8 b) + 8 * i ≡ 8 * suc i = omega (arith, length-field 8 b) in
    ap (λ (t : List Bool). field 8 b ++ t) (bits-take i s)
    ∙ sym (take-append-add (field 8 b) (bits_of s) (8 * i))
    ∙ ap (λ (n : ℕ). take n (field 8 b ++ bits_of s)) e

pub bits-drop : (i : ℕ) (s : List ℕ) → bits_of (drop i s) ≡ drop (8 * i) (bits_of s)
unfolding bits_of
bits-drop zero s = refl
bits-drop (suc i) [] = sym (drop-nil (8 * suc i))
bits-drop (suc i) (b ∷ s) =
    let e : length (field 8 b) + 8 * i ≡ 8 * suc i = omega (arith, length-field 8 b) in
    bits-drop i s
    ∙ sym (drop-append-add (field 8 b) (bits_of s) (8 * i))
    ∙ ap (λ (n : ℕ). drop n (field 8 b ++ bits_of s)) e

-- Codes that are written one after another, each from a byte on.
-- Assumes nothing.
use Prim.Native.Nat.{ℕ, ◌+◌, ◌-◌, ◌≤◌}
use mathlib.Core.Path.{◌≡◌, refl}
use mathlib.Core.Bool.{Bool}
use mathlib.Core.List.{List, [], ◌++◌, append_assoc, append-nil}
use native.Mathlib.Nat.{zero-add}
use native.Mathlib.Omega.{arith}
use lib.ListN.{length, take, drop, length-append, length-drop, drop_of_length-le}
use lib.Seq.{take_all, take_at, drop_at, drop-drop}
use Rattle.bitstream.specs.Bytes.{bytes_for, pack, stored}
use Rattle.bitstream.specs.Puts.{stored_from}
use Rattle.bitstream.proofs.BytesLaws.{length-pack}

-- the part from byte i on is lent, a code is stored there, and the part comes back
pub from_part : (old : List ℕ) (i : ℕ) (code : List Bool) {l : List ℕ} → let k = length old - i in
    l ≡ stored (take k (drop i old)) code → take i old ++ (l ++ drop k (drop i old)) ≡ stored_from old i code
unfolding stored_from
from_part old i code e =
    let all : length (drop i old) ≤ length old - i = omega (arith, length-drop i old) in
    simp (e, take_all, drop_of_length-le, append-nil)

module _ (old : List ℕ) where
  -- a code behind n bytes that were written
  from-behind : (front : List ℕ) (n : ℕ) (code : List Bool) → length front ≡ n
      → stored_from (front ++ drop n old) n code ≡ (front ++ pack code) ++ drop (n + bytes_for (length code)) old
  unfolding stored_from stored
  from-behind front n code e = simp (take_at, drop_at, drop-drop, length-pack, append_assoc)

  -- three codes
  pub stored_laid : (a b c : List Bool) (i j : ℕ) → i ≡ bytes_for (length a) → j ≡ i + bytes_for (length b)
      → stored_from (stored_from (stored_from old 0 a) i b) j c ≡ (pack a ++ (pack b ++ pack c)) ++ drop (j + bytes_for (length c)) old
  stored_laid a b c i j hi hj =
      let first = from-behind [] 0 a refl in
      let second = from-behind (pack a) i b (simp (length-pack, hi)) in
      let third = from-behind (pack a ++ pack b) j c (simp (length-append, length-pack, hi, hj)) in
      simp (first, zero-add, ← hi, second, ← hj, third, append_assoc (pack a) (pack b) (pack c))

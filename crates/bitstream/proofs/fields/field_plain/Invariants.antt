-- `bitstream::fields::field_plain` meets its contract. The invariant: v is the number of the first i bits.
use mathlib.Core.Path.{◌≡◌}
use Prim.Native.Nat.{ℕ, ◌^◌, ◌<◌}
use lib.ListN.{take, drop}
use mathlib.Core.List.{List}
use Rattle.bitstream.specs.Bits.{bits_of, number}
use Rattle.bitstream.proofs.fields.field_plain.Given as goal

-- the first i bits from p on spell v
abbrev pub Spelled : List ℕ → ℕ → ℕ → ℕ → Type 0
Spelled payload p v i = (v ≡ number (take i (drop p (bits_of payload)))) × (v < 2 ^ 32)

abbrev pub invariant-loop-i : goal.invariant-loop-i
invariant-loop-i l = Spelled l.payload l.p l.v l.i

-- `bitstream::fields::bit` meets its contract.
use mathlib.Core.Path.{sym, ap₂, ◌∙◌}
use Prim.Native.Nat.{ℕ, ◌/◌}
use Rattle.bitstream.specs.Bits.{odd}
use Rattle.bitstream.proofs.PlaceLaws.{bit_at}
use Rattle.bitstream.proofs.fields.bit.Goals as goal

pub returns : goal.returns
returns c =
    let a = c.args in
    ap₂ (λ (x y : ℕ). odd (x / y)) c.from-byte.ensures (rw c.place.ensures at c.pow2.ensures)
    ∙ sym (bit_at a.payload.now a.p c.requires)

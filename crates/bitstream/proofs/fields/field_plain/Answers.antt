use mathlib.Core.Path.{refl, sym, ◌∙◌, subst}
use Prim.Native.Nat.{ℕ, ◌+◌, ◌^◌, ◌<◌}
use native.Mathlib.Omega.{arith}
use lib.ListN.{drop, length-drop}
use mathlib.Core.Bool.{false}
use lib.Seq.{get_or-drop}
use Rattle.bitstream.specs.Bits.{bits_of, number}
use Rattle.bitstream.proofs.BitsLaws.{length-bits}
use Rattle.bitstream.proofs.PlaceLaws.{field-turn, number-take-32}
use Rattle.bitstream.proofs.fields.field_plain.Goals as goal

pub loop-i-init : goal.loop-i-init
unfolding number
loop-i-init c = (refl, omega arith)

pub overflow_add-p : goal.overflow_add-p
overflow_add-p c = let a = c.args in omega (arith, length-drop a.p (bits_of a.payload.now), length-bits a.payload.now)

pub bit-requires : goal.bit-requires
bit-requires c = let a = c.args in omega (arith, length-drop a.p (bits_of a.payload.now), length-bits a.payload.now)

pub loop-i-preserved : goal.loop-i-preserved
loop-i-preserved c =
    let a = c.args in
    let l = c.loop-i in
    let bs = drop a.p (bits_of a.payload.now) in
    let e = field-turn bs l.i l.v c.bit.result (omega arith) l.invariant.0 (c.bit.ensures ∙ sym (get_or-drop a.p (bits_of a.payload.now) l.i false)) in
    rw c.from.ensures (e, subst (λ (x : ℕ). x < 2 ^ 32) (sym e) (number-take-32 (l.i + 1) bs (omega arith)))
